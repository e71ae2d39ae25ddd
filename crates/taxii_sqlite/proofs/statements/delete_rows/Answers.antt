-- One more row was removed.
use Rattle.std.proofs.Common.{refl}
use Rattle.sqlite.specs.Held.{state}
use Rattle.taxii_sqlite.specs.Statements.{DeletesRow}
use Rattle.taxii_sqlite.proofs.StepLemmas.{one_more_step}
use Rattle.taxii_sqlite.proofs.statements.delete_rows.Goals as goal

pub loop-date-preserved : goal.loop-date-preserved
loop-date-preserved g c = one_more_step (state g.S.Store) (DeletesRow (state g.S.Store)) c.args.dates.now c.loop-date.date-index 0 _ _ _ _ c.loop-date-test.true refl
    c.loop-date.invariant c.in_ok-delete_row.ensures
