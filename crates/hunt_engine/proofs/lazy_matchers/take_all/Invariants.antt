use Rattle.hunt_engine.specs.inner.Round.{TookSome}
use Rattle.hunt_engine.proofs.lazy_matchers.take_all.Given as goal

abbrev pub invariant-loop-position : goal.invariant-loop-position
invariant-loop-position l = TookSome l.row l.retained_limit l.brackets.bracket_ranges.items l.marks l.affected l.position-index l.fn.lazy_matchers l.lazy_matchers l.found.items
