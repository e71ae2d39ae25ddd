use Rattle.std.proofs.Common.{IsTrue, subst}
use Rattle.taxii_store.specs.Meeting.{picks_of}
use Rattle.taxii_store.proofs.asked.RowFilter.is_match.Goals as goal

pub returns-then-asks_for-clause-meets : goal.returns-then-asks_for-clause-meets
returns-then-asks_for-clause-meets c = λ collection only query asks can.
    let picks = c.selects.ensures (picks_of query) (c.asks_for.ensures.same collection only query asks).picks_are in (
      λ holds. record { asked = (c.asks_for.ensures.asked collection only query asks can).0 c.if-asks_for.true; picked = picks.0 holds },
      λ meets. picks.1 meets.picked,
    )

pub returns-else-asks_for-clause-meets : goal.returns-else-asks_for-clause-meets
returns-else-asks_for-clause-meets c = λ collection only query asks can. (
  λ holds. let wrong = subst IsTrue c.if-asks_for.false holds in absurd (cc wrong),
  λ meets. (c.asks_for.ensures.asked collection only query asks can).1 meets.asked,
)
