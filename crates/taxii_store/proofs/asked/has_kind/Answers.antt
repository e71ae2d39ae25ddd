use Rattle.taxii_store.proofs.AskingLemmas.{kind_asked, kinds_kept}
use Rattle.taxii_store.proofs.asked.has_kind.Goals as goal

pub returns-in-Some-clause-has : goal.returns-in-Some-clause-has
returns-in-Some-clause-has c = λ texts asked. kind_asked texts c.args.kinds.now c.in-Some.kinds c.args.kind.now c.has.result c.in-Some.is c.has.ensures.has asked

pub returns-in-Some-clause-same : goal.returns-in-Some-clause-same
returns-in-Some-clause-same c = λ texts asked. kinds_kept texts c.args.kinds.now c.in-Some.kinds c.has.new.self c.in-Some.is c.has.ensures.same asked
