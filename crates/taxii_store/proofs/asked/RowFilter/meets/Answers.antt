use Rattle.std.proofs.Common.{IsTrue, subst}
use Rattle.taxii_store.specs.Meeting.{picks_of}
use Rattle.taxii_store.proofs.asked.RowFilter.meets.Goals as goal

pub returns-else-may_select-clause-meets : goal.returns-else-may_select-clause-meets
returns-else-may_select-clause-meets c = λ collection only query asks can. (
  λ holds. let wrong = subst IsTrue c.if-may_select.false holds in absurd (cc wrong),
  λ meets. c.may_select.ensures (picks_of query) asks.picks_are meets.picked,
)
