-- Presence in a store: an object that is present, and rows without duplicates.
use Rattle.std.specs.Prelude.{◌≡◌, ◌≢◌, ⊤, ℕ, true, false, List, [], ◌∷◌, ◌++◌, All}
use Rattle.std.specs.List.{Contains}
use Rattle.taxii_rows.specs.declared.stored_row.StoredRow.{StoredRow}
use Rattle.taxii_rows.specs.declared.described.Described.{Described}
use Rattle.taxii_index.specs.Presence.{is_duplicate}

-- one of the rows makes the object present in the collection
pub record IsStored (collection : ℕ) (object : Described) (rows : List StoredRow) : Type 0 where
  pub row : StoredRow
  pub among : Contains rows row
  pub same : is_duplicate collection object row ≡ true

-- rows of one object in one collection differ: in their versions if both have one, and in their
-- texts if neither does
pub record AreApart (row other : StoredRow) : Type 0 where
  pub dated : row.collection ≡ other.collection → row.id ≡ other.id → row.dated ≡ true → other.dated ≡ true → row.version ≢ other.version
  pub undated : row.collection ≡ other.collection → row.id ≡ other.id → row.dated ≡ false → other.dated ≡ false → row.body ≢ other.body

-- after these rows, each new one differs from every row before it
abbrev pub AreStoredOnce : List StoredRow → List StoredRow → Type 0
AreStoredOnce rows [] = ⊤
AreStoredOnce rows (row ∷ new) = All (AreApart row) rows × AreStoredOnce (rows ++ row ∷ []) new

-- the rows of a store are followed by others, each of them once
pub record GrowsOnce (before after : List StoredRow) : Type 0 where
  pub new : List StoredRow
  pub rows_are : after ≡ before ++ new
  pub once : AreStoredOnce before new
