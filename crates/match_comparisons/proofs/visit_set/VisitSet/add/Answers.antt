use Rattle.match_comparisons.proofs.VisitSetLemmas.{one_more}
use Rattle.match_comparisons.proofs.visit_set.VisitSet.add.Goals as goal

pub returns : goal.returns
returns c =
    one_more c.args.left c.args.at c.args.self.now (record { pairs = c.insert.new.self }) c.in_ok-insert.ensures.updates.0 c.in_ok-insert.ensures.updates.1
