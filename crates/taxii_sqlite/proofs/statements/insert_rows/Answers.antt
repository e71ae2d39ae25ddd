-- One more row was added.
use Rattle.sqlite.specs.Held.{state}
use Rattle.taxii_sqlite.specs.Statements.{Inserts}
use Rattle.taxii_sqlite.proofs.StepLemmas.{one_more_step}
use Rattle.taxii_sqlite.proofs.statements.insert_rows.Goals as goal

pub loop-row-preserved : goal.loop-row-preserved
loop-row-preserved g c = one_more_step (state g.S.Store) (Inserts (state g.S.Store)) c.args.rows.now c.loop-row.row-index c.row-item.result c.row-item.result _ _ _ c.loop-row-test.true c.row-item.is
    c.loop-row.invariant c.in_ok-insert_row.ensures
