-- The watermark was written, and then the rows were removed.
use Rattle.sqlite.specs.Held.{state}
use Rattle.taxii_sqlite.proofs.StepLemmas.{both}
use Rattle.taxii_sqlite.proofs.statements.remove.Goals as goal

pub returns : goal.returns
returns g c = both (state g.S.Store) _ _ _ _ _ c.in_ok-execute.ensures c.in_ok-delete_rows.ensures
