-- Which rows a deletion takes (TAXII 2.1, section 5.7).
use Rattle.std.specs.Prelude.{◌≡◌, ◌↔◌, true, ℕ, List}
use Rattle.std.specs.List.{Contains}
use Rattle.stix_ids.specs.declared.id.Id.{Id}
use Rattle.stix_ids.specs.declared.pick.Pick.{Pick}
use Rattle.taxii_rows.specs.declared.stored_row.StoredRow.{StoredRow}
use Rattle.taxii_rows.specs.StoreState.{AscendFrom}
use Rattle.taxii_rows.specs.Identity.{is_row_of}
use Rattle.taxii_rows.specs.Picking.{IsPicked}

-- it is a row of that object in that collection, and the picks select it
pub record IsDeletedRow (rows : List StoredRow) (collection : ℕ) (id : Id) (picks : List Pick) (row : StoredRow) : Type 0 where
  pub its : is_row_of collection id row ≡ true
  pub picked : IsPicked picks rows row

-- the dates of the rows that are taken, ascending
pub record AreDatesTaken (rows : List StoredRow) (collection : ℕ) (id : Id) (picks : List Pick) (dates : List ℕ) : Type 0 where
  pub ascend : AscendFrom 1 dates
  pub each : (date : ℕ) → Contains dates date ↔ ((row : StoredRow) × Contains rows row × IsDeletedRow rows collection id picks row × (row.date ≡ date))
