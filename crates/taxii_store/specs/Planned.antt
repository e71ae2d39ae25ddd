-- A planned addition, as contracts see it.
use Rattle.std.specs.Prelude.{ℕ, ◌+◌, ◌≤◌, List, All}
use Rattle.taxii_rows.specs.declared.stored_row.StoredRow.{StoredRow}
use Rattle.taxii_rows.specs.declared.stored_row.TheConstants.{LAST_DATE}
use Rattle.taxii_rows.specs.declared.described.Described.{Described}
use Rattle.taxii_rows.specs.Described.{stored_row_of}
use Rattle.taxii_rows.specs.SoundRow.{IsSoundRow}
use Rattle.taxii_rows.specs.StoreState.{dates_of, AscendFrom}
use Rattle.taxii_store.specs.declared.add_outcome.AddOutcome.{AddOutcome}
use Rattle.taxii_store.specs.Addition.{watermark_after}

-- the watermark of the store that it was planned for, the outcome of each object, and the new rows
-- by date
pub record PlannedState : Type 0 where
  pub watermark : ℕ
  pub outcomes : List AddOutcome
  pub rows : List StoredRow

-- each row of the object is sound
abbrev pub IsSound : Described → Type 0
IsSound object = (date collection : ℕ) → IsSoundRow (stored_row_of object date collection)

-- the new rows may be added to a sound store with this watermark, which stays sound with their last
-- date as its watermark
pub record IsSoundPlan (planned : PlannedState) : Type 0 where
  pub ascend : AscendFrom (planned.watermark + 1) (dates_of planned.rows)
  pub last : watermark_after planned.watermark planned.rows ≤ LAST_DATE
  pub dates : All (λ row. row.date ≤ LAST_DATE) planned.rows
  pub rows : All IsSoundRow planned.rows
