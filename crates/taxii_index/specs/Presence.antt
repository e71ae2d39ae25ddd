-- When an object is already present (TAXII 2.1, section 5.5): an object with a version if a row has
-- this version of it, an undated one if a row has its text.
use Rattle.std.specs.Prelude.{ℕ, ℤ, Bool, ◌&&◌, List, Option, Some, None, find, bytes_eq}
use Rattle.std.specs.Ordering.{int_eq}
use Rattle.taxii_rows.specs.declared.stored_row.StoredRow.{StoredRow}
use Rattle.taxii_rows.specs.declared.described.Described.{Described}
use Rattle.taxii_rows.specs.Identity.{is_row_of}

-- whether the row has the version; without one, whether it has the text
abbrev pub agrees : Option ℤ → List ℕ → StoredRow → Bool
agrees (Some version) body row = row.dated && int_eq row.version version
agrees None body row = bytes_eq row.body body

-- whether the row makes the object present in the collection
abbrev pub is_duplicate : ℕ → Described → StoredRow → Bool
is_duplicate collection object row = is_row_of collection object.id row && agrees object.version object.body row

-- the first row, by date, that makes the object present
abbrev pub duplicate_of : ℕ → Described → List StoredRow → Option StoredRow
duplicate_of collection object rows = find (is_duplicate collection object) rows
