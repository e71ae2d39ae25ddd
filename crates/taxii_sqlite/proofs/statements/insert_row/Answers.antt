-- What was run with columns that hold the row has added it.
use Rattle.sqlite.specs.Held.{state}
use Rattle.taxii_sqlite.specs.Statements.{Inserts}
use Rattle.taxii_sqlite.proofs.StepLemmas.{read_as}
use Rattle.taxii_sqlite.proofs.statements.insert_row.Goals as goal

pub returns : goal.returns
returns g c = read_as (state g.S.Store) _ (Inserts (state g.S.Store) c.args.row.now) _ _ _ c.execute.ensures
    (λ ran. (_, rw c.as_slice.ensures c.columns_of-columns.ensures.given, ran))
