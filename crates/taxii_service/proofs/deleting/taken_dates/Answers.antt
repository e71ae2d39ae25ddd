use Rattle.taxii_service.proofs.RowLemmas.{if_ok, ascend_from_0}
use Rattle.taxii_rows.specs.StoreState.{AscendFrom}
use Rattle.taxii_store.specs.Deleting.{AreDatesTaken}
use Rattle.taxii_service.proofs.deleting.taken_dates.Goals as goal

pub returns-clause-ascend : goal.returns-clause-ascend
returns-clause-ascend c =
    if_ok c.plan_delete.result (AreDatesTaken c.args.library.now.rows c.args.collection c.args.id.now c.args.picks.now) (AscendFrom 0)
    (λ dates taken. ascend_from_0 1 dates taken.ascend) c.plan_delete.ensures
