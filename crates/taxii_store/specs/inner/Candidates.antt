-- Where a page may begin: the rows that can meet a query by when they were added (TAXII 2.1,
-- section 3.4).
use Rattle.std.specs.Prelude.{◌≡◌, ℕ, ◌*◌, ◌≤◌, ◌<◌, pos, ◌<ℤ◌, List, ◌++◌, All, codes, IfSome, Option}
use Rattle.std.specs.List.{Contains}
use Rattle.stix_ids.specs.declared.id.Id.{Id}
use Rattle.taxii_rows.specs.declared.stored_row.StoredRow.{StoredRow}
use Rattle.taxii_rows.specs.StoreState.{dates_of, AscendFrom}
use Rattle.taxii_routes.specs.declared.query.Query.{Query}
use Rattle.taxii_store.specs.Meeting.{MeetsQuery}

-- a row of this date was added after the query's `added_after` and after its cursor
pub record IsAddedAfter (query : Query) (date : ℕ) : Type 0 where
  pub added : IfSome query.added_after (λ instant. instant <ℤ pos (1000 * date))
  pub next : IfSome query.next (λ after. after < date)

-- the row can match the query: it was added after both, and the query allows version 2.1 of STIX,
-- which all rows have
pub record CanMeet (query : Query) (row : StoredRow) : Type 0 where
  pub behind : IsAddedAfter query row.date
  pub specs : IfSome query.specs (λ specs. Contains specs (codes "2.1"))

-- these rows, which can match the query, follow some rows that cannot
pub record AreCandidateRows (query : Query) (rows candidates : List StoredRow) : Type 0 where
  pub passed : List StoredRow
  pub all : rows ≡ passed ++ candidates
  pub before : All (λ row. ¬ CanMeet query row) passed
  pub each : All (CanMeet query) candidates

-- after the rows up to a date stand these, which are later
pub record IsCutAt (date : ℕ) (rows later : List StoredRow) : Type 0 where
  pub upto : List StoredRow
  pub all : rows ≡ upto ++ later
  pub before : All (λ row. row.date ≤ date) upto
  pub each : All (λ row. date < row.date) later

-- these are rows of a store, by date, and each that meets the query is among them
pub record AreChosen (rows : List StoredRow) (collection : ℕ) (only : Option Id) (query : Query) (chosen : List StoredRow) : Type 0 where
  pub ascend : AscendFrom 1 (dates_of chosen)
  pub own : (row : StoredRow) → Contains chosen row → Contains rows row
  pub every : (row : StoredRow) → Contains rows row → MeetsQuery rows collection only query row → Contains chosen row
