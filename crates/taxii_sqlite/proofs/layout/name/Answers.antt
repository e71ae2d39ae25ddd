-- The table was made, and then the layout was named in it.
use Rattle.sqlite.specs.Held.{state}
use Rattle.taxii_sqlite.proofs.StepLemmas.{both}
use Rattle.taxii_sqlite.proofs.layout.name.Goals as goal

pub returns : goal.returns
returns g c = both (state g.S.Store) _ _ _ _ _ c.in_ok-execute.ensures c.in_ok-execute-2.ensures
