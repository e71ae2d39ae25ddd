-- The result of the analysis of a syntax tree.
use Rattle.std.specs.Prelude.{ℕ, List}
use Rattle.pattern_grammar.specs.Tree.{Tree}
use Rattle.pattern_types.specs.{PlainPattern.PlainPattern, PlainPattern.plain_pattern, Width.IsTooWide, Soundness.IsSoundPattern}
use Rattle.pattern_reader.specs.declared.meaning.Meaning.{Meaning, TheVariants.Sound, TheVariants.TooWide, TheVariants.Refused}
use Rattle.pattern_reader.specs.{PatternMeaning.MeansPattern, ValueRefusal.IsEarliest, Refusals.RefusalOf}

-- the tree means the pattern, which is sound
pub record IsMeant (text : List ℕ) (tree : Tree) (pattern : PlainPattern) : Type 0 where
  pub means : MeansPattern text tree pattern
  pub sound : IsSoundPattern pattern

-- the tree means the sound pattern, which isn't too wide
pub record IsNarrowlyMeant (text : List ℕ) (tree : Tree) (pattern : PlainPattern) : Type 0 where
  pub meant : IsMeant text tree pattern
  pub narrow : ¬ IsTooWide pattern

-- the tree means a sound pattern that is too wide
pub record IsWidelyMeant (text : List ℕ) (tree : Tree) : Type 0 where
  pub pattern : PlainPattern
  pub meant : IsMeant text tree pattern
  pub wide : IsTooWide pattern

-- the pattern; or TooWide; or the first of the refused values, by offset
abbrev pub AnswersMeaning : List ℕ → Tree → Meaning → Type 0
AnswersMeaning text tree (Sound pattern) = IsNarrowlyMeant text tree (plain_pattern pattern)
AnswersMeaning text tree TooWide = IsWidelyMeant text tree
AnswersMeaning text tree (Refused refusal) = IsEarliest (RefusalOf text tree) refusal
