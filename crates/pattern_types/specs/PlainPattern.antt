-- Patterns as a plain inductive type.
use Rattle.pattern_types.specs.declared.limit.Limit.{Limit}
use Rattle.pattern_types.specs.declared.limit.Limit.TheVariants as limit
use Rattle.pattern_types.specs.declared.pattern.Pattern.{Pattern}
use Rattle.pattern_types.specs.declared.pattern.Pattern.TheVariants.{Leaf, Both', Either', Then', Within', Between', Repeats'}
use Rattle.pattern_types.specs.PlainLeaf.{PlainLeaf, plain_leaf}

pub data PlainPattern : Type 0 where
  a_leaf : PlainLeaf → PlainPattern
  a_both : PlainPattern → PlainPattern → PlainPattern
  an_either : PlainPattern → PlainPattern → PlainPattern
  a_then : PlainPattern → PlainPattern → PlainPattern
  a_limited : PlainPattern → Limit → PlainPattern

abbrev pub plain_pattern : Pattern → PlainPattern
plain_pattern (Leaf l) = a_leaf (plain_leaf l)
plain_pattern (Both' a p b q) = a_both (plain_pattern p) (plain_pattern q)
plain_pattern (Either' a p b q) = an_either (plain_pattern p) (plain_pattern q)
plain_pattern (Then' a p b q) = a_then (plain_pattern p) (plain_pattern q)
plain_pattern (Within' a p n) = a_limited (plain_pattern p) (limit.Within n)
plain_pattern (Between' a p i j) = a_limited (plain_pattern p) (limit.Between i j)
plain_pattern (Repeats' a p n) = a_limited (plain_pattern p) (limit.Repeats n)
