use Rattle.hunt_index.specs.inner.Paths.{AreGrouped}
use Rattle.hunt_index.proofs.paths.PathTable.add_each.Given as goal

abbrev pub invariant-loop-posting : goal.invariant-loop-posting
invariant-loop-posting l = AreGrouped l.postings l.posting-index l.self
