use Rattle.taxii_store.specs.Addition.{first_date}
use Rattle.std.proofs.Common.{length}
use Rattle.taxii_store.proofs.AddsLemmas.{outcomes_have}
use Rattle.taxii_store.proofs.store_laws.outcomes_have_rows.Goals as goal

pub returns : goal.returns
returns c = λ state collection moment objects outcomes new addition.
    outcomes_have collection (first_date state.watermark moment (length new)) state.rows objects outcomes new addition.adds
