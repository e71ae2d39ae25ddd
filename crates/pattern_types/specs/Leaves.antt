-- The leaves of a pattern: its observation expressions in brackets (STIX 2.1, section 9.5), from left to right.
use Rattle.std.specs.Prelude.{ℕ, ◌+◌}
use Rattle.pattern_types.specs.declared.pattern.Pattern.{Pattern}
use Rattle.pattern_types.specs.declared.pattern.Pattern.TheVariants.{Leaf, Both', Either', Then', Within', Between', Repeats'}

-- the number of leaves: an operator has those of both sides, a qualifier those of its operand
abbrev pub leaves : Pattern → ℕ
leaves (Leaf leaf) = 1
leaves (Both' at left and_at right) = leaves left + leaves right
leaves (Either' at left or_at right) = leaves left + leaves right
leaves (Then' at left then_at right) = leaves left + leaves right
leaves (Within' at part seconds) = leaves part
leaves (Between' at part start stop) = leaves part
leaves (Repeats' at part count) = leaves part
