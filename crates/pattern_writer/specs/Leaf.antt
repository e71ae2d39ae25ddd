-- The text of the comparison expression in the brackets of a pattern (STIX 2.1, section 9.6).
use Rattle.std.specs.Prelude.{◌≡◌, ℕ, List, [], ◌∷◌, codes}
use Rattle.pattern_types.specs.PlainLeaf.{PlainLeaf, one, every, some, PlainLeaves, none, more}
use Rattle.pattern_writer.specs.Parts.{joined_texts, IsParenthesizedBelow}
use Rattle.pattern_writer.specs.Check.{IsTestText}

-- the precedence: a test, AND, OR
abbrev pub binds : PlainLeaf → ℕ
binds (one test) = 2
binds (every parts) = 1
binds (some parts) = 0

abbrev mutual
  -- the operands of AND are tests, those of OR tests or AND, and others are in parentheses
  pub IsFormulaText : PlainLeaf → List ℕ → Type 0
  IsFormulaText (one test) text = IsTestText test text
  IsFormulaText (every parts) text = (texts : List (List ℕ)) × AreTextsOf parts 2 texts × (text ≡ joined_texts (codes " AND ") texts)
  IsFormulaText (some parts) text = (texts : List (List ℕ)) × AreTextsOf parts 1 texts × (text ≡ joined_texts (codes " OR ") texts)

  -- a text of each operand, of at least this precedence
  pub AreTextsOf : PlainLeaves → ℕ → List (List ℕ) → Type 0
  AreTextsOf none least [] = Unit {0}
  AreTextsOf (more part parts) least (text ∷ texts) = IsParenthesizedBelow least (binds part) (IsFormulaText part) text × AreTextsOf parts least texts
  AreTextsOf _ least _ = ⊥

-- the operands, with a separator between them
abbrev pub AreJoinedOperands : ℕ → List ℕ → PlainLeaves → List ℕ → Type 0
AreJoinedOperands least between parts text = (texts : List (List ℕ)) × AreTextsOf parts least texts × (text ≡ joined_texts between texts)
