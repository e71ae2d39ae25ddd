use Rattle.std.proofs.Common.{arith, ℕ, subst}
use Rattle.hunt_index.specs.inner.Paths.{AreGrouped}
use Rattle.hunt_index.proofs.PathsLemmas.{filed_next}
use Rattle.hunt_index.proofs.paths.PathTable.add_each.Goals as goal

pub loop-posting-preserved : goal.loop-posting-preserved
loop-posting-preserved c =
    filed_next c.args.postings.now c.loop-posting.posting-index c.posting-item.result c.loop-posting.self c.add.new.self c.loop-posting-test.true c.posting-item.is c.loop-posting.invariant c.in_ok-add.ensures

pub returns : goal.returns
returns c =
    subst (λ (n : ℕ). AreGrouped c.args.postings.now n c.loop-posting.self) (omega (arith, c.loop-posting-test.false, c.loop-posting.auto.posting-index-end)) c.loop-posting.invariant
