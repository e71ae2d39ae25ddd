-- Which rows are of one object: those of one collection and one identifier (STIX 2.1, section 2.9).
use Rattle.std.specs.Prelude.{ℕ, Bool, ◌&&◌, nat_eq, bytes_eq}
use Rattle.stix_ids.specs.declared.id.Id.{Id}
use Rattle.taxii_rows.specs.declared.stored_row.StoredRow.{StoredRow}

-- whether two identifiers are one
abbrev pub is_id : Id → Id → Bool
is_id id other = nat_eq id.number other.number && bytes_eq id.kind other.kind

-- whether the row is of that object in that collection
abbrev pub is_row_of : ℕ → Id → StoredRow → Bool
is_row_of collection id row = nat_eq row.collection collection && is_id row.id id
