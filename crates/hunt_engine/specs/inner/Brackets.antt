-- The brackets of an engine.
use Rattle.std.specs.Prelude.{List, map}
use Rattle.pattern_types.specs.declared.leaf.Leaf.{Leaf}
use Rattle.pattern_types.specs.PlainLeaf.{PlainLeaf, plain_leaf}
use Rattle.hunt_engine.specs.declared.brackets.Brackets.{Brackets}

-- the brackets, as the program has them
abbrev pub held_leaves : Brackets → List Leaf
held_leaves brackets = map (λ leaf. leaf.now) brackets.leaves.items

-- the brackets, as definitions speak of them
abbrev pub bracket_leaves : Brackets → List PlainLeaf
bracket_leaves brackets = map plain_leaf (held_leaves brackets)
