-- The leaves of a pattern are its pairs of brackets.
use Rattle.std.proofs.Common.{◌≡◌, arith}
use Rattle.pattern_types.specs.declared.pattern.Pattern.{Pattern}
use Rattle.pattern_types.specs.declared.pattern.Pattern.TheVariants.{Leaf, Both', Either', Then', Within', Between', Repeats'}
use Rattle.pattern_types.specs.PlainPattern.{plain_pattern}
use Rattle.pattern_types.specs.Leaves.{leaves}
use Rattle.pattern_types.specs.Width.{brackets}

pub leaves_brackets : (pattern : Pattern) → leaves pattern ≡ brackets (plain_pattern pattern)
leaves_brackets (Leaf leaf) = omega arith
leaves_brackets (Both' a p b q) = omega (arith, leaves_brackets p, leaves_brackets q)
leaves_brackets (Either' a p b q) = omega (arith, leaves_brackets p, leaves_brackets q)
leaves_brackets (Then' a p b q) = omega (arith, leaves_brackets p, leaves_brackets q)
leaves_brackets (Within' a p n) = omega (arith, leaves_brackets p)
leaves_brackets (Between' a p i j) = omega (arith, leaves_brackets p)
leaves_brackets (Repeats' a p n) = omega (arith, leaves_brackets p)
