-- Histories of a store: what additions and deletions make of it, in order. Nothing else changes it.
use Rattle.std.specs.Prelude.{◌≡◌, ◌⊎◌, ℕ, ◌+◌, ◌≤◌, List, [], ◌∷◌, All}
use Rattle.taxii_rows.specs.declared.stored_row.StoredRow.{StoredRow}
use Rattle.taxii_rows.specs.StoreState.{StoreState, dates_of, AscendFrom}
use Rattle.taxii_rows.specs.Keeper.{with_rows, without}

-- the dates ascend strictly from at least 1, and none is after the watermark
pub record IsDated (state : StoreState) : Type 0 where
  pub ascend : AscendFrom 1 (dates_of state.rows)
  pub marked : All (λ row. row.date ≤ state.watermark) state.rows

-- an addition: rows follow the others, each later than every date given before, and the last date
-- given is the watermark
pub record IsStoreAddition (state after : StoreState) : Type 0 where
  pub rows : List StoredRow
  pub ascend : AscendFrom (state.watermark + 1) (dates_of rows)
  pub marked : All (λ row. row.date ≤ after.watermark) rows
  pub watermark : state.watermark ≤ after.watermark
  pub after_is : after ≡ with_rows rows after.watermark state

-- a deletion: the rows of some dates are removed, and the watermark stays
pub record IsDeletion (state after : StoreState) : Type 0 where
  pub dates : List ℕ
  pub after_is : after ≡ without dates state

-- additions and deletions, with these states between them, make the second of the first
abbrev pub Becomes : StoreState → List StoreState → StoreState → Type 0
Becomes state [] after = after ≡ state
Becomes state (next ∷ states) after = (IsStoreAddition state next ⊎ IsDeletion state next) × Becomes next states after

-- some additions and deletions do
abbrev pub IsHistory : StoreState → StoreState → Type 0
IsHistory state after = (states : List StoreState) × Becomes state states after
