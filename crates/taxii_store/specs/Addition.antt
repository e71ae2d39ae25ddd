-- The result of an addition (TAXII 2.1, section 5.5): each object is already present, or becomes a
-- row with a unique date.
use Rattle.std.specs.Prelude.{◌≡◌, ℕ, ◌+◌, ◌-◌, ◌≤◌, ◌<◌, max, min, List, [], ◌∷◌, ◌++◌, length, MatchOption}
use Rattle.taxii_rows.specs.declared.stored_row.StoredRow.{StoredRow}
use Rattle.taxii_rows.specs.declared.stored_row.TheConstants.{LAST_DATE}
use Rattle.taxii_rows.specs.declared.described.Described.{Described}
use Rattle.taxii_rows.specs.Described.{stored_row_of}
use Rattle.taxii_rows.specs.StoreState.{StoreState}
use Rattle.taxii_index.specs.Presence.{duplicate_of}
use Rattle.taxii_store.specs.declared.add_outcome.AddOutcome.{AddOutcome}
use Rattle.taxii_store.specs.declared.add_outcome.AddOutcome.TheVariants.{Added, Present}

-- the date in an outcome
abbrev pub date_in : AddOutcome → ℕ
date_in (Added date) = date
date_in (Present date) = date

-- objects are added in order after these rows, the first new one with this date. An object made
-- present by a row has the date of the first such row. Any other one becomes a row with the next
-- date, after the rows before
abbrev pub AddsObjects : ℕ → ℕ → List StoredRow → List Described → List AddOutcome → List StoredRow → Type 0
AddsObjects collection date rows [] outcomes new = (outcomes ≡ []) × (new ≡ [])
AddsObjects collection date rows (object ∷ objects) outcomes new = MatchOption (duplicate_of collection object rows)
    ((others : List AddOutcome) × (more : List StoredRow)
    × (outcomes ≡ Added date ∷ others) × (new ≡ stored_row_of object date collection ∷ more)
    × AddsObjects collection (date + 1) (rows ++ stored_row_of object date collection ∷ []) objects others more)
    (λ row. (others : List AddOutcome) × (outcomes ≡ Present row.date ∷ others) × AddsObjects collection date rows objects others new)

-- the date of the first of `count` new rows: the moment, but after every date given, and early
-- enough that the others have valid dates
abbrev pub first_date : ℕ → ℕ → ℕ → ℕ
first_date watermark moment count = max (watermark + 1) (min moment (LAST_DATE + 1 - count))

-- an addition at a moment: what becomes of each object, and the new rows by date
pub record IsAddition (state : StoreState) (collection moment : ℕ) (objects : List Described) (outcomes : List AddOutcome) (new : List StoredRow) : Type 0 where
  pub adds : AddsObjects collection (first_date state.watermark moment (length new)) state.rows objects outcomes new
  pub room : state.watermark + length new ≤ LAST_DATE

-- fewer dates are left than the addition has new rows
pub record UsesUpDates (state : StoreState) (collection : ℕ) (objects : List Described) : Type 0 where
  pub outcomes : List AddOutcome
  pub new : List StoredRow
  pub adds : AddsObjects collection (state.watermark + 1) state.rows objects outcomes new
  pub lacks : LAST_DATE < state.watermark + length new

-- the last date given after some new rows
abbrev pub watermark_after : ℕ → List StoredRow → ℕ
watermark_after watermark [] = watermark
watermark_after watermark (row ∷ rows) = watermark_after row.date rows
