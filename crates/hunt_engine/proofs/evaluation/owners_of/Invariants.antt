use Rattle.hunt_engine.specs.inner.Evaluation.{AreOwners}
use Rattle.hunt_engine.proofs.evaluation.owners_of.Given as goal

abbrev pub invariant-loop-position : goal.invariant-loop-position
invariant-loop-position l = AreOwners l.owners l.positions l.position-index l.affected.items
