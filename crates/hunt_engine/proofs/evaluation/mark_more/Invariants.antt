use Rattle.hunt_engine.specs.inner.Evaluation.{MarksMore}
use Rattle.hunt_engine.proofs.evaluation.mark_more.Given as goal

abbrev pub invariant-loop-position : goal.invariant-loop-position
invariant-loop-position l = MarksMore l.own l.position-index l.fn.marks l.fn.positions.items l.marks l.positions.items
