-- The meaning of the syntax tree of a pattern.
use Rattle.std.specs.Prelude.{ℕ, List}
use Rattle.pattern_lexer.specs.{Values.IsTimestampText, Spans.At, Spans.IsCount}
use Rattle.pattern_grammar.specs.declared.qualifier.Qualifier.{Qualifier}
use Rattle.pattern_grammar.specs.declared.qualifier.Qualifier.TheVariants as qualifier
use Rattle.pattern_grammar.specs.Tree.{Comparison, Tree, leaf, both, either, followed, qualified}
use Rattle.pattern_types.specs.{declared.limit.Limit.Limit, PlainLeaf.PlainLeaf}
use Rattle.pattern_types.specs.declared.limit.Limit.TheVariants as limit
use Rattle.pattern_types.specs.PlainPattern.{PlainPattern, a_leaf, a_both, an_either, a_then, a_limited}
use Rattle.pattern_reader.specs.LeafMeaning.{Means}

-- the limit of a qualifier
abbrev pub IsLimitOf : List ℕ → Qualifier → Limit → Type 0
IsLimitOf text (qualifier.Within number) (limit.Within seconds) = IsCount text number seconds
IsLimitOf text (qualifier.Repeats number) (limit.Repeats times) = IsCount text number times
IsLimitOf text (qualifier.Between start from to) (limit.Between begins ends) = At IsTimestampText text from begins × At IsTimestampText text to ends
IsLimitOf text _ _ = ⊥

-- operators join the meanings of both sides, and qualifiers limit a meaning, the last one outermost
pub data MeansPattern (text : List ℕ) : Tree → PlainPattern → Type 0 where
  means_leaf : {c : Comparison} {f : PlainLeaf} → Means text c f → MeansPattern text (leaf c) (a_leaf f)
  means_both : {p q : Tree} {m n : PlainPattern} → MeansPattern text p m → MeansPattern text q n → MeansPattern text (both p q) (a_both m n)
  means_either : {p q : Tree} {m n : PlainPattern} → MeansPattern text p m → MeansPattern text q n → MeansPattern text (either p q) (an_either m n)
  means_then : {p q : Tree} {m n : PlainPattern} → MeansPattern text p m → MeansPattern text q n → MeansPattern text (followed p q) (a_then m n)
  means_limited : {p : Tree} {q : Qualifier} {m : PlainPattern} {l : Limit} → MeansPattern text p m → IsLimitOf text q l → MeansPattern text (qualified p q) (a_limited m l)
