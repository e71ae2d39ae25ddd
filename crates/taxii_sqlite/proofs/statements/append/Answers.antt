-- The rows were added, and then the watermark was set.
use Rattle.sqlite.specs.Held.{state}
use Rattle.taxii_sqlite.proofs.StepLemmas.{both}
use Rattle.taxii_sqlite.proofs.statements.append.Goals as goal

pub returns : goal.returns
returns g c = both (state g.S.Store) _ _ _ _ _ c.in_ok-insert_rows.ensures c.in_ok-set_watermark.ensures
