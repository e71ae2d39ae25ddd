-- Each statement was run as the one before left the transaction.
use Rattle.sqlite.specs.Held.{state}
use Rattle.taxii_sqlite.specs.Forms.{MakesRows}
use Rattle.taxii_sqlite.proofs.StepLemmas.{read_as, both}
use Rattle.taxii_sqlite.proofs.layout.make_rows.Goals as goal

pub returns : goal.returns
returns g c = read_as (state g.S.Store) _ (MakesRows (state g.S.Store)) _ _ _
    (both (state g.S.Store) _ _ _ _ _ (both (state g.S.Store) _ _ _ _ _ c.in_ok-execute.ensures c.in_ok-execute-2.ensures) c.in_ok-execute-3.ensures)
    (λ ran. record { with_rows = ran.1.0; with_watermark = ran.0; rows = ran.1.1; watermark = ran.1.2; first = ran.2 })
