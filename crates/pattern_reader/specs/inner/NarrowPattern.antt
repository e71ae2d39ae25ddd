-- For private clauses: patterns within the limits on pattern_width and brackets.
use Rattle.std.specs.Prelude.{◌≡◌, ◌≤◌, ℕ, List, Option, Some, None, Result, IfOk, IfSome}
use Rattle.pattern_grammar.specs.Tree.{Tree, both, either, followed}
use Rattle.pattern_types.specs.PlainPattern.{PlainPattern, plain_pattern, a_both, an_either, a_then}
use Rattle.pattern_types.specs.declared.limit.TheConstants.{MAX_WIDTH, MAX_BRACKETS}
use Rattle.pattern_types.specs.Width.{pattern_width, brackets, IsTooWide}
use Rattle.pattern_reader.specs.declared.{narrow_pattern.NarrowPattern.NarrowPattern, value_refusal.ValueRefusal.ValueRefusal}
use Rattle.pattern_reader.specs.{Refusals.RefusalOf, Answer.IsMeant, Answer.IsWidelyMeant, inner.Analysis.IsOutcome}
use Rattle.pattern_reader.specs.declared.narrow_pattern.Operator.{Operator, TheVariants.Both, TheVariants.Either, TheVariants.Then}

-- the pattern has this pattern_width and number of pairs of brackets, and is within both limits
pub record IsNarrow (narrow : NarrowPattern) : Type 0 where
  pub width : narrow.width ≡ pattern_width (plain_pattern narrow.pattern)
  pub brackets : narrow.brackets ≡ brackets (plain_pattern narrow.pattern)
  pub within : narrow.width ≤ MAX_WIDTH
  pub few : narrow.brackets ≤ MAX_BRACKETS

-- this pattern, or none if it is too wide
abbrev pub UnlessTooWide : PlainPattern → Option NarrowPattern → Type 0
UnlessTooWide pattern (Some narrow) = (plain_pattern narrow.pattern ≡ pattern) × IsNarrow narrow
UnlessTooWide pattern None = IsTooWide pattern

-- if it is a pattern, its pattern_width and brackets are right
abbrev pub IsNarrowPart : Result (Option NarrowPattern) ValueRefusal → Type 0
IsNarrowPart part = IfOk part (λ found. IfSome found IsNarrow)

-- the tree means the pattern, or one that is too wide
abbrev pub IsNarrowPatternOf : List ℕ → Tree → Option NarrowPattern → Type 0
IsNarrowPatternOf text tree (Some narrow) = IsMeant text tree (plain_pattern narrow.pattern) × IsNarrow narrow
IsNarrowPatternOf text tree None = IsWidelyMeant text tree

-- or the earliest refusal
abbrev pub IsPartOutcome : List ℕ → Tree → Result (Option NarrowPattern) ValueRefusal → Type 0
IsPartOutcome text tree outcome = IsOutcome (IsNarrowPatternOf text tree) (RefusalOf text tree) outcome

-- the syntax tree of an operator
abbrev pub tree_by : Operator → Tree → Tree → Tree
tree_by Both = both
tree_by Either = either
tree_by Then = followed

-- the pattern of an operator
abbrev pub meant_by : Operator → PlainPattern → PlainPattern → PlainPattern
meant_by Both = a_both
meant_by Either = an_either
meant_by Then = a_then
