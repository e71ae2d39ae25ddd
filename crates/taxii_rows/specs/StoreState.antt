-- The state of a TAXII store (TAXII 2.1, section 3.4): rows by the date when each was added, and
-- the last date ever given.
use Rattle.std.specs.Prelude.{⊤, ℕ, ◌+◌, ◌≤◌, List, [], ◌∷◌, map}
use Rattle.taxii_rows.specs.declared.stored_row.StoredRow.{StoredRow}

-- the rows in the order of their dates, and the last date ever given
pub record StoreState : Type 0 where
  pub rows : List StoredRow
  pub watermark : ℕ

-- the dates of some rows, in their order
abbrev pub dates_of : List StoredRow → List ℕ
dates_of rows = map (λ row. row.date) rows

-- the dates ascend strictly, from at least this one
abbrev pub AscendFrom : ℕ → List ℕ → Type 0
AscendFrom least [] = ⊤
AscendFrom least (date ∷ dates) = (least ≤ date) × AscendFrom (date + 1) dates
