-- The rows of a keeper, read one after the other.
use Rattle.std.specs.Prelude.{◌≤◌, ◌<◌, ℕ, List, All, MatchOption}
use Rattle.taxii_rows.specs.declared.stored_row.StoredRow.{StoredRow}
use Rattle.taxii_rows.specs.declared.stored_row.TheConstants.{LAST_DATE}
use Rattle.taxii_rows.specs.Keeper.{row_after}
use Rattle.taxii_rows.specs.StoreState.{StoreState, dates_of, AscendFrom}
use Rattle.taxii_store.specs.Loading.{IsFitRow}

-- the rows of a store with this watermark are acceptable
pub record AreFit (watermark : ℕ) (rows : List StoredRow) : Type 0 where
  pub ascend : AscendFrom 1 (dates_of rows)
  pub fit : All (IsFitRow watermark) rows
  pub last : watermark ≤ LAST_DATE

-- the row after the date is not acceptable, or there is none and the watermark is no valid date
abbrev pub IsBadNext : StoreState → ℕ → Type 0
IsBadNext state after = MatchOption (row_after after state.rows) (LAST_DATE < state.watermark) (λ row. ¬ IsFitRow state.watermark row)
