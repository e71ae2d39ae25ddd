-- Soundness of a store: each row agrees with its body, and the dates ascend up to the watermark.
use Rattle.std.specs.Prelude.{◌≡◌, ◌⊎◌, ◌≤◌, pos, All}
use Rattle.std.specs.Bool.{MatchBool}
use Rattle.serde_json.specs.Data.{Data}
use Rattle.serde_json.specs.Written.{compact_text}
use Rattle.stix_json.specs.declared.value.Json.{Json}
use Rattle.stix_json.specs.DataOf.{data_of}
use Rattle.stix_json.specs.Reading.{IsJsonOf}
use Rattle.stix_objects.specs.Properties.{HasId}
use Rattle.taxii_rows.specs.declared.stored_row.StoredRow.{StoredRow}
use Rattle.taxii_rows.specs.declared.stored_row.TheConstants.{LAST_DATE}
use Rattle.taxii_rows.specs.declared.type_set.TypeSet.{TypeSet}
use Rattle.taxii_rows.specs.declared.type_set.TypeSet.TheVariants.{First, Second}
use Rattle.taxii_rows.specs.StoreState.{StoreState, dates_of, AscendFrom}
use Rattle.taxii_rows.specs.Version.{HasVersion, IsUndated}

-- the row has the object's version, or the object is undated and the row has its own date as its
-- version
abbrev pub FitsUnder : TypeSet → StoredRow → Data → Type 0
FitsUnder set row d =
    MatchBool row.dated (HasVersion set d row.version) (IsUndated set d × (row.version ≡ pos row.date))

-- so by one of the two sets of observables
abbrev pub Fits : StoredRow → Data → Type 0
Fits row d = FitsUnder First row d ⊎ FitsUnder Second row d

-- the row is what the object makes: its compact text, its identifier, and its version
pub record IsRowOf (row : StoredRow) (object : Data) : Type 0 where
  pub compact : row.body ≡ compact_text object
  pub named : HasId object row.id
  pub fits : Fits row object

-- the body is an ordered value within the limits of JSON, which makes the row
pub record IsSoundRow (row : StoredRow) : Type 0 where
  pub object : Json
  pub reads : IsJsonOf row.body object
  pub makes : IsRowOf row (data_of object)

-- the dates ascend strictly from at least 1, none is after the watermark, the watermark is no later
-- than the last valid date, and each row is sound
pub record IsSoundState (state : StoreState) : Type 0 where
  pub ascend : AscendFrom 1 (dates_of state.rows)
  pub marked : All (λ row. row.date ≤ state.watermark) state.rows
  pub last : state.watermark ≤ LAST_DATE
  pub rows : All IsSoundRow state.rows
