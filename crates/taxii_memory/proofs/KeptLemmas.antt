-- A keeper's state after rows were taken out.
use Rattle.std.proofs.Common.{◌≡◌, ℕ, List, filter, not, ap, ◌∙◌}
use Rattle.taxii_rows.specs.declared.stored_row.StoredRow.{StoredRow}
use Rattle.taxii_rows.specs.StoreState.{StoreState}
use Rattle.taxii_rows.specs.Keeper.{is_date_in, without}

-- a state of these rows and this watermark
abbrev pub state_of : List StoredRow → ℕ → StoreState
state_of rows watermark = record { rows = rows; watermark = watermark }

pub state_without : (dates : List ℕ) (rows kept : List StoredRow) (watermark : ℕ) (state : StoreState) → state_of rows watermark ≡ state
    → kept ≡ filter (λ row. not (is_date_in dates row.date)) rows → state_of kept watermark ≡ without dates state
state_without dates rows kept watermark state is left = ap (λ all. state_of all watermark) left ∙ ap (without dates) is
