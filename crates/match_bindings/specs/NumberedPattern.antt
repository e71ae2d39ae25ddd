-- Patterns as plain data, with numbered leaves (STIX 2.1, section 9.3).
use Rattle.std.specs.Prelude.{ℕ, ◌+◌, ℤ}
use Rattle.pattern_types.specs.declared.pattern.Pattern.{Pattern}
use Rattle.pattern_types.specs.declared.pattern.Pattern.TheVariants as pattern
use Rattle.pattern_types.specs.Leaves.{leaves}

-- a pattern; a leaf (an observation expression in brackets) is reduced to its number
pub data NumberedPattern : Type 0 where
  Leaf : (number : ℕ) → NumberedPattern
  Both : (left right : NumberedPattern) → NumberedPattern
  Then : (left right : NumberedPattern) → NumberedPattern
  Either : (left right : NumberedPattern) → NumberedPattern
  Within : (part : NumberedPattern) (seconds : ℕ) → NumberedPattern
  Between : (part : NumberedPattern) (start stop : ℤ) → NumberedPattern
  Repeats : (part : NumberedPattern) (count : ℕ) → NumberedPattern

-- a pattern whose leftmost leaf has the number k, and each other leaf the next number to the right
abbrev pub numbered_from : ℕ → Pattern → NumberedPattern
numbered_from k (pattern.Leaf leaf) = Leaf k
numbered_from k (pattern.Both' at left and_at right) = Both (numbered_from k left) (numbered_from (k + leaves left) right)
numbered_from k (pattern.Either' at left or_at right) = Either (numbered_from k left) (numbered_from (k + leaves left) right)
numbered_from k (pattern.Then' at left then_at right) = Then (numbered_from k left) (numbered_from (k + leaves left) right)
numbered_from k (pattern.Within' at part seconds) = Within (numbered_from k part) seconds
numbered_from k (pattern.Between' at part start stop) = Between (numbered_from k part) start stop
numbered_from k (pattern.Repeats' at part count) = Repeats (numbered_from k part) count

-- leaves are numbered from 0, from left to right
abbrev pub numbered_pattern : Pattern → NumberedPattern
numbered_pattern p = numbered_from 0 p
