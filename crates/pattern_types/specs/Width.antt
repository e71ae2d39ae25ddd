-- The pattern_width of a pattern: the number of observations that one match of it can have.
use Rattle.std.specs.Prelude.{ℕ, ◌+◌, ◌*◌, ◌<◌, ◌⊎◌, max}
use Rattle.pattern_types.specs.declared.limit.TheConstants.{MAX_WIDTH, MAX_BRACKETS}
use Rattle.pattern_types.specs.declared.limit.Limit.{Limit}
use Rattle.pattern_types.specs.declared.limit.Limit.TheVariants as limit
use Rattle.pattern_types.specs.PlainPattern.{PlainPattern, a_leaf, a_both, an_either, a_then, a_limited}

-- the factor of a qualifier
abbrev pub times : Limit → ℕ → ℕ
times (limit.Within seconds) pattern_width = pattern_width
times (limit.Between begins ends) pattern_width = pattern_width
times (limit.Repeats count) pattern_width = count * pattern_width

-- a leaf has pattern_width 1; AND and FOLLOWEDBY have the sum of both sides, OR the maximum, and a repeated
-- pattern n times its pattern_width
abbrev pub pattern_width : PlainPattern → ℕ
pattern_width (a_leaf leaf) = 1
pattern_width (a_both left right) = pattern_width left + pattern_width right
pattern_width (an_either left right) = max (pattern_width left) (pattern_width right)
pattern_width (a_then left right) = pattern_width left + pattern_width right
pattern_width (a_limited part limit) = times limit (pattern_width part)

-- the number of pairs of brackets
abbrev pub brackets : PlainPattern → ℕ
brackets (a_leaf leaf) = 1
brackets (a_both left right) = brackets left + brackets right
brackets (an_either left right) = brackets left + brackets right
brackets (a_then left right) = brackets left + brackets right
brackets (a_limited part limit) = brackets part

-- TooWide: the pattern exceeds the limit on its pattern_width or on its brackets
abbrev pub IsTooWide : PlainPattern → Type 0
IsTooWide pattern = (MAX_WIDTH < pattern_width pattern) ⊎ (MAX_BRACKETS < brackets pattern)
