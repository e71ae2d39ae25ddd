-- The comparison expression in the brackets of a pattern, as a plain inductive type.
use Rattle.std.specs.Prelude.{List, [], ◌∷◌}
use Rattle.pattern_types.specs.declared.leaf.Test.{Test as OneTest}
use Rattle.pattern_types.specs.declared.leaf.Leaf.{Leaf, Test, All', Any', Row_of-Leaf, end_of-Leaf, more_of-Leaf}

mutual
  pub data PlainLeaf : Type 0 where
    one : OneTest → PlainLeaf
    every : PlainLeaves → PlainLeaf
    some : PlainLeaves → PlainLeaf

  pub data PlainLeaves : Type 0 where
    none : PlainLeaves
    more : PlainLeaf → PlainLeaves → PlainLeaves

-- appends one
abbrev pub leaves_with : PlainLeaves → PlainLeaf → PlainLeaves
leaves_with none f = more f none
leaves_with (more g gs) f = more g (leaves_with gs f)

abbrev mutual
  pub plain_leaf : Leaf → PlainLeaf
  plain_leaf (Test t) = one t
  plain_leaf (All' s r) = every (plain_leaves r)
  plain_leaf (Any' s r) = some (plain_leaves r)

  pub plain_leaves : {m : _} → Row_of-Leaf m → PlainLeaves
  plain_leaves end_of-Leaf = none
  plain_leaves (more_of-Leaf l r) = more (plain_leaf l) (plain_leaves r)

-- the leaves of a list
abbrev pub leaves_of_list : List Leaf → PlainLeaves
leaves_of_list [] = none
leaves_of_list (l ∷ ls) = more (plain_leaf l) (leaves_of_list ls)
