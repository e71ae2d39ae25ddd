-- Pages (TAXII 2.1, section 3.4): the first rows, by date, of those that meet a query.
use Rattle.std.specs.Prelude.{◌≡◌, ◌↔◌, ◌⊎◌, ◌≤◌, ◌+◌, ℕ, List, [], ◌∷◌, ◌++◌, length, min, Bool, nat_lt, Option, unwrap_or}
use Rattle.std.specs.List.{Contains}
use Rattle.stix_ids.specs.declared.id.Id.{Id}
use Rattle.taxii_rows.specs.declared.stored_row.StoredRow.{StoredRow}
use Rattle.taxii_rows.specs.StoreState.{dates_of, AscendFrom}
use Rattle.taxii_routes.specs.declared.query.Query.{Query}
use Rattle.taxii_store.specs.Meeting.{MeetsQuery}

-- the most rows that a page has
abbrev pub page_size : Query → ℕ
page_size query = min (unwrap_or query.limit 100) 100

-- the bytes that rows take in a page of objects: their bodies, and a comma after each
abbrev pub page_bytes : List StoredRow → ℕ
page_bytes [] = 0
page_bytes (row ∷ rows) = length row.body + 1 + page_bytes rows

-- a page may have these rows: not more than the query asks for, and not more than 67,000,000 bytes
-- where they are more than one
abbrev pub FitsPage : Query → List StoredRow → Type 0
FitsPage query rows =
    (length rows ≤ page_size query) × ((length rows ≤ 1) ⊎ (page_bytes rows ≤ 67000000))

-- all rows of which the rule holds, each once, by date
pub record AreAllWhere (Rule : StoredRow → Type 0) (rows all : List StoredRow) : Type 0 where
  pub ascend : AscendFrom 1 (dates_of all)
  pub each : (row : StoredRow) → Contains all row ↔ (Contains rows row × Rule row)

-- the page has the first of the rows that meet the query, as many as fit, and `more` is whether it
-- leaves any
pub record IsPage (rows : List StoredRow) (collection : ℕ) (only : Option Id) (query : Query) (page : List StoredRow) (more : Bool) : Type 0 where
  pub meeting : List StoredRow
  pub meeting_are : AreAllWhere (MeetsQuery rows collection only query) rows meeting
  pub rest : List StoredRow
  pub split : meeting ≡ page ++ rest
  pub fits : FitsPage query page
  pub full : (next : StoredRow) (others : List StoredRow) → rest ≡ next ∷ others → ¬ FitsPage query (page ++ next ∷ [])
  pub more_is : more ≡ nat_lt 0 (length rest)
