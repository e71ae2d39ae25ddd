-- The index of some rows: their keys, and the results of lookups.
use Rattle.std.specs.Prelude.{◌≡◌, ◌⊎◌, ◌↔◌, ℕ, ◌<◌, pos, negsuc, ◌<ℤ◌, Bool, true, false, List, [], map, All, Any, Option, Some, None, cond, option_map, unwrap_or}
use Rattle.std.specs.List.{Contains}
use Rattle.stix_ids.specs.declared.id.Id.{Id}
use Rattle.taxii_rows.specs.declared.stored_row.StoredRow.{StoredRow}
use Rattle.taxii_rows.specs.declared.described.Described.{Described}
use Rattle.taxii_rows.specs.StoreState.{dates_of, AscendFrom}
use Rattle.taxii_rows.specs.Keeper.{row_at}
use Rattle.taxii_rows.specs.Identity.{is_row_of}
use Rattle.taxii_index.specs.declared.row_index.RowIndex.{RowIndex}
use Rattle.taxii_index.specs.Names.{name_of, text_name_of}
use Rattle.taxii_index.specs.Keys.{Key, IsIn64Bits, HasKeys, HasKeysBut}
use Rattle.taxii_index.specs.Presence.{is_duplicate}

-- the key of a row among the versions of its object, by a secret
abbrev pub version_key : ℕ → StoredRow → Key
version_key secret row = (name_of secret row.collection row.id, row.version, row.date)

-- the key of a row among the rows of its text
abbrev pub text_key : ℕ → StoredRow → Key
text_key secret row = (text_name_of secret row.collection row.id row.body, pos 0, row.date)

-- the index has each of the rows, and nothing else
pub record IsIndexOf (rows : List StoredRow) (index : RowIndex) : Type 0 where
  pub versions : HasKeys (map (version_key index.secret) rows) index.by_version.keys
  pub texts : HasKeys (map (text_key index.secret) rows) index.by_text.keys
  pub bits : All (λ row. IsIn64Bits (version_key index.secret row)) rows

-- the index has each of the rows that are of other dates, and nothing else
pub record IsIndexBut (dates : List ℕ) (rows : List StoredRow) (index : RowIndex) : Type 0 where
  pub versions : HasKeysBut dates (map (version_key index.secret) rows) index.by_version.keys
  pub texts : HasKeysBut dates (map (text_key index.secret) rows) index.by_text.keys
  pub bits : All (λ row. IsIn64Bits (version_key index.secret row)) rows

-- no row is of that date
abbrev pub IsAbsent : ℕ → List StoredRow → Type 0
IsAbsent date rows = All (λ row. ¬ (row.date ≡ date)) rows

-- whether the row of the date passes the test
abbrev pub has_row : (StoredRow → Bool) → List StoredRow → ℕ → Bool
has_row test rows date = unwrap_or (option_map test (row_at date rows)) false

-- the dates of some keys
abbrev pub key_dates : List Key → List ℕ
key_dates keys = map (λ key. key.2) keys

-- the keys lead to each row that makes the object present, the earlier ones first
pub record LeadsToSame (collection : ℕ) (object : Described) (rows : List StoredRow) (keys : List Key) : Type 0 where
  pub ascend : AscendFrom 0 (key_dates keys)
  pub every : (row : StoredRow) → Contains rows row → is_duplicate collection object row ≡ true → Contains (key_dates keys) row.date

-- the second row is later than the first: by version, and of one version by date
abbrev pub IsBefore : StoredRow → StoredRow → Type 0
IsBefore row other = (row.version <ℤ other.version) ⊎ ((row.version ≡ other.version) × (row.date < other.date))

-- of the rows of the object of this row, the keys lead to those that keep a rule, and to no other
pub record LeadsToThose (secret : ℕ) (Rule : StoredRow → Type 0) (row : StoredRow) (rows : List StoredRow) (keys : List Key) : Type 0 where
  pub own : (key : Key) → Contains keys key → Contains (map (version_key secret) rows) key
  pub those : (other : StoredRow) → Contains rows other → is_row_of row.collection row.id other ≡ true → Contains keys (version_key secret other) ↔ Rule other

-- the lower bound of an object's keys: no row has the date 0
abbrev pub front_of : ℕ → Id → StoredRow
front_of collection id = record {
  date = 0;
  collection = collection;
  id = id;
  version = negsuc 9223372036854775807;
  dated = true;
  body = [];
}

-- the keys lead to each row of the object in the collection, and to no other
abbrev pub LeadsToObject : ℕ → ℕ → Id → List StoredRow → List Key → Type 0
LeadsToObject secret collection id rows keys = LeadsToThose secret (IsBefore (front_of collection id)) (front_of collection id) rows keys

-- one of the rows is of the object
abbrev pub HasRowOf : List StoredRow → ℕ → Id → Type 0
HasRowOf rows collection id = Any (λ row. (row.collection ≡ collection) × (row.id ≡ id)) rows

-- the rows of the object in the collection, by date, and no other
pub record AreRowsOf (collection : ℕ) (id : Id) (rows found : List StoredRow) : Type 0 where
  pub ascend : AscendFrom 1 (dates_of found)
  pub each : (row : StoredRow) → Contains found row ↔ (Contains rows row × (is_row_of collection id row ≡ true))

-- a row where it passes the test
abbrev pub passing : (StoredRow → Bool) → Option StoredRow → Option StoredRow
passing test None = None
passing test (Some row) = cond (test row) (Some row) None

-- the row of the date, where it passes the test
abbrev pub row_where : (StoredRow → Bool) → List StoredRow → ℕ → Option StoredRow
row_where test rows date = passing test (row_at date rows)
