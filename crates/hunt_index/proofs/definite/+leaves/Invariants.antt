use Rattle.std.proofs.Common.{drop}
use Rattle.pattern_types.specs.PlainLeaf.{leaves_of_list}
use Rattle.hunt_index.specs.Definite.{AreDefinite}
use Rattle.hunt_index.proofs.definite.+leaves.Given as goal

abbrev pub invariant-are_definite-loop-part : goal.invariant-are_definite-loop-part
invariant-are_definite-loop-part l = AreDefinite (leaves_of_list (drop l.part-index l.parts)) → AreDefinite (leaves_of_list l.parts)
