-- A draft of an addition: its new rows have consecutive dates after the watermark, and are shifted
-- to the moment once their number is known.
use Rattle.std.specs.Prelude.{◌≡◌, ⊤, ℕ, pos, ◌+◌, ◌-◌, ◌≤◌, ◌<◌, cond, nat_lt, List, [], ◌∷◌, ◌++◌, length, map, All, None, MatchOption}
use Rattle.taxii_rows.specs.declared.described.Described.{Described}
use Rattle.taxii_rows.specs.Described.{stored_row_of}
use Rattle.taxii_rows.specs.StoreState.{StoreState}
use Rattle.taxii_index.specs.Presence.{duplicate_of}
use Rattle.taxii_rows.specs.declared.stored_row.StoredRow.{StoredRow}
use Rattle.taxii_rows.specs.declared.stored_row.TheConstants.{LAST_DATE}
use Rattle.taxii_rows.specs.SoundRow.{IsSoundRow}
use Rattle.taxii_store.specs.declared.add_outcome.AddOutcome.{AddOutcome}
use Rattle.taxii_store.specs.declared.add_outcome.AddOutcome.TheVariants.{Added, Present}
use Rattle.taxii_store.specs.Addition.{date_in, first_date}
use Rattle.taxii_store.specs.Planned.{PlannedState}

abbrev pub planned_of : ℕ → List AddOutcome → List StoredRow → PlannedState
planned_of watermark outcomes rows = record { watermark = watermark; outcomes = outcomes; rows = rows }

-- the dates of the rows are consecutive from this one
abbrev pub CountUp : ℕ → List StoredRow → Type 0
CountUp date [] = ⊤
CountUp date (row ∷ rows) = (row.date ≡ date) × CountUp (date + 1) rows

-- the outcomes and the new rows of a draft
pub record IsDraft (watermark : ℕ) (outcomes : List AddOutcome) (new : List StoredRow) : Type 0 where
  pub dates : CountUp (watermark + 1) new
  pub room : watermark + length new ≤ LAST_DATE
  pub sound : All IsSoundRow new
  pub known : All (λ outcome. date_in outcome ≤ LAST_DATE) outcomes

-- the date that a draft's next row gets
abbrev pub next_date : ℕ → List StoredRow → ℕ
next_date watermark new = watermark + 1 + length new

-- what the next object makes of the outcomes and the new rows of a draft
abbrev pub PlacesObject : StoreState → ℕ → Described → List AddOutcome → List StoredRow → List AddOutcome → List StoredRow → Type 0
PlacesObject state collection object outcomes new outcomes_now new_now = MatchOption (duplicate_of collection object (state.rows ++ new))
    ((outcomes_now ≡ outcomes ++ Added (next_date state.watermark new) ∷ []) × (new_now ≡ new ++ stored_row_of object (next_date state.watermark new) collection ∷ []))
    (λ row. (outcomes_now ≡ outcomes ++ Present row.date ∷ []) × (new_now ≡ new))

-- the next object is new, and there is no date for it
abbrev pub LacksDate : StoreState → ℕ → Described → List StoredRow → Type 0
LacksDate state collection object new =
    (duplicate_of collection object (state.rows ++ new) ≡ None) × (LAST_DATE < next_date state.watermark new)

-- a row so much later; an undated one has its date as its version
abbrev pub shifted : ℕ → StoredRow → StoredRow
shifted shift row = record {
  date = row.date + shift;
  collection = row.collection;
  id = row.id;
  version = cond row.dated row.version (pos (row.date + shift));
  dated = row.dated;
  body = row.body;
}

-- a date, shifted where it is that of a new row
abbrev pub shifted_date : ℕ → ℕ → ℕ → ℕ
shifted_date watermark shift date = cond (nat_lt watermark date) (date + shift) date

abbrev pub shifted_outcome : ℕ → ℕ → AddOutcome → AddOutcome
shifted_outcome watermark shift (Added date) = Added (shifted_date watermark shift date)
shifted_outcome watermark shift (Present date) = Present (shifted_date watermark shift date)

-- how much later the rows of a draft stand at a moment
abbrev pub shift_at : ℕ → ℕ → List StoredRow → ℕ
shift_at watermark moment new = first_date watermark moment (length new) - (watermark + 1)

-- the plan that a draft becomes at a moment
abbrev pub plan_of : ℕ → ℕ → List AddOutcome → List StoredRow → PlannedState
plan_of watermark moment outcomes new =
    planned_of watermark (map (shifted_outcome watermark (shift_at watermark moment new)) outcomes) (map (shifted (shift_at watermark moment new)) new)
