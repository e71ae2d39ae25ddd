-- What a keeper's calls return and store, if its rows are observable.
use Rattle.std.specs.Prelude.{◌≡◌, ℕ, ◌≤◌, List, ◌++◌, Bool, true, not, nat_eq, nat_lt, Option, option_map, IfSome, All, find, filter}
use Rattle.std.specs.List.{list_any}
use Rattle.taxii_rows.specs.declared.stored_row.StoredRow.{StoredRow}
use Rattle.taxii_rows.specs.StoreState.{StoreState, dates_of, AscendFrom}

-- the first row that was added later than the date
abbrev pub row_after : ℕ → List StoredRow → Option StoredRow
row_after date rows = find (λ row. nat_lt date row.date) rows

-- the first row of the date
abbrev pub row_at : ℕ → List StoredRow → Option StoredRow
row_at date rows = find (λ row. nat_eq row.date date) rows

-- whether a date is one of these
abbrev pub is_date_in : List ℕ → ℕ → Bool
is_date_in dates date = list_any (λ one. nat_eq one date) dates

-- the state with more rows at the end, and another watermark
abbrev pub with_rows : List StoredRow → ℕ → StoreState → StoreState
with_rows rows watermark state = record { rows = state.rows ++ rows; watermark = watermark }

-- the state without the rows of these dates, and the same watermark
abbrev pub without : List ℕ → StoreState → StoreState
without dates state = record { rows = filter (λ row. not (is_date_in dates row.date)) state.rows; watermark = state.watermark }

-- the observable state of a keeper: its rows with the watermark and the name of the last `attach`,
-- if it makes them observable, and whether an `attach` has succeeded, which every keeper makes
-- observable
pub record Kept : Type 0 where
  pub observable : Option StoreState
  pub name : Option (List ℕ)
  pub attached : Bool

-- with another state, where one is reported
abbrev pub updated : (StoreState → StoreState) → Kept → Kept
updated change kept = record { observable = option_map change kept.observable; name = kept.name; attached = kept.attached }

-- with the rows at the end the dates ascend strictly, and the watermark is no earlier than any of
-- these rows
pub record CanAppend (rows : List StoredRow) (watermark : ℕ) (state : StoreState) : Type 0 where
  pub ascend : AscendFrom 1 (dates_of (state.rows ++ rows))
  pub marked : All (λ row. row.date ≤ watermark) rows

-- the result of an `attach` under a name: the keeper is attached; if its rows are observable, their
-- dates ascend strictly and this is its name
pub record IsAttached (text : List ℕ) (kept : Kept) : Type 0 where
  pub attached : kept.attached ≡ true
  pub named : kept.name ≡ option_map (λ _. text) kept.observable
  pub ascend : IfSome kept.observable (λ state. AscendFrom 1 (dates_of state.rows))
