use Rattle.hunt_engine.proofs.StepLemmas.{ClearSoFar}
use Rattle.hunt_engine.proofs.evaluation.clear.Given as goal

abbrev pub invariant-loop-position : goal.invariant-loop-position
invariant-loop-position l = ClearSoFar l.positions l.position-index l.fn.marks l.marks
