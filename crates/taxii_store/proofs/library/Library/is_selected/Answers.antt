use Rattle.std.proofs.Common.{IsTrue, subst}
use Rattle.taxii_store.proofs.library.Library.is_selected.Goals as goal

pub returns-else-may_select : goal.returns-else-may_select
returns-else-may_select c = λ picks has. (
  λ holds. let wrong = subst IsTrue c.if-may_select.false holds in absurd (cc wrong),
  λ picked. c.may_select.ensures picks has picked,
)
