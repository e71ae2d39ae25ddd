-- The meaning of the comparison expression in the brackets of a pattern.
use Rattle.std.specs.Prelude.{ℕ, List}
use Rattle.pattern_lexer.specs.declared.token.Token.{Token}
use Rattle.pattern_grammar.specs.{declared.comparison.TestTree.TestTree, Tree.Comparison, Tree.test, Tree.group, Tree.all, Tree.any}
use Rattle.pattern_types.specs.declared.leaf.Test.{Test as OneTest}
use Rattle.pattern_types.specs.PlainLeaf.{PlainLeaf, one, every, some, PlainLeaves, none, more, leaves_with}
use Rattle.pattern_reader.specs.Meaning.{IsTestOf}

-- comparisons that aren't a chain of AND, and those that aren't a chain of OR
abbrev pub IsNoAll : Comparison → Type 0
IsNoAll (all c d) = ⊥
IsNoAll _ = Unit {0}

abbrev pub IsNoAny : Comparison → Type 0
IsNoAny (any c d) = ⊥
IsNoAny _ = Unit {0}

mutual
  -- two operands or more joined by AND are one All, and joined by OR one Any; a single operand is
  -- itself, and parentheses have no node
  pub data Means (text : List ℕ) : Comparison → PlainLeaf → Type 0 where
    means_test : {t : TestTree} {u : OneTest} → IsTestOf text t u → Means text (test t) (one u)
    means_group : {a : Token} {c : Comparison} {f : PlainLeaf} → Means text c f → Means text (group a c) f
    means_all : {c d : Comparison} {fs : PlainLeaves} → AllParts text (all c d) fs → Means text (all c d) (every fs)
    means_any : {c d : Comparison} {fs : PlainLeaves} → AnyParts text (any c d) fs → Means text (any c d) (some fs)

  -- the operands of a chain of AND
  pub data AllParts (text : List ℕ) : Comparison → PlainLeaves → Type 0 where
    all_first : {c : Comparison} {f : PlainLeaf} → IsNoAll c → Means text c f → AllParts text c (more f none)
    all_more : {c d : Comparison} {fs : PlainLeaves} {f : PlainLeaf} → AllParts text c fs → Means text d f → AllParts text (all c d) (leaves_with fs f)

  -- the operands of a chain of OR
  pub data AnyParts (text : List ℕ) : Comparison → PlainLeaves → Type 0 where
    any_first : {c : Comparison} {f : PlainLeaf} → IsNoAny c → Means text c f → AnyParts text c (more f none)
    any_more : {c d : Comparison} {fs : PlainLeaves} {f : PlainLeaf} → AnyParts text c fs → Means text d f → AnyParts text (any c d) (leaves_with fs f)
