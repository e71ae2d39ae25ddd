-- The tables were made, and then the layout was named.
use Rattle.sqlite.specs.Held.{state}
use Rattle.taxii_sqlite.proofs.StepLemmas.{both}
use Rattle.taxii_sqlite.proofs.layout.make_tables.Goals as goal

pub returns : goal.returns
returns g c = both (state g.S.Store) _ _ _ _ _ c.in_ok-make_rows.ensures c.in_ok-name.ensures
