-- The body of a manifest (TAXII 2.1, section 5.3.1): of each row when it was added, its identifier
-- and its version.
use Rattle.std.specs.Prelude.{◌≡◌, ℕ, List, codes, Bool}
use Rattle.std.specs.List.{AllZip}
use Rattle.serde_json.specs.Data.{Data, string, object, no_members, member}
use Rattle.serde_json.specs.Written.{compact_text}
use Rattle.stix_ids.specs.Identifier.{canonical_text}
use Rattle.taxii_rows.specs.declared.stored_row.StoredRow.{StoredRow}
use Rattle.taxii_bodies.specs.Times.{IsDateText, IsVersionText}
use Rattle.taxii_bodies.specs.Page.{page_data}

-- a row's record, of the texts of its date, its identifier and its version
abbrev pub record_data : List ℕ → List ℕ → List ℕ → Data
record_data date id version = object
    (member (codes "date_added") (string date)
    (member (codes "id") (string id)
    (member (codes "media_type") (string (codes "application/stix+json;version=2.1"))
    (member (codes "version") (string version) no_members))))

-- the value is the row's record
pub record IsRecordOf (row : StoredRow) (value : Data) : Type 0 where
  pub date : List ℕ
  pub version : List ℕ
  pub date_is : IsDateText row.date date
  pub version_is : IsVersionText row version
  pub value_is : value ≡ record_data date (canonical_text row.id) version

-- the text is the manifest of these rows in their order
pub record IsManifest (rows : List StoredRow) (more : Bool) (text : List ℕ) : Type 0 where
  pub records : List Data
  pub each : AllZip IsRecordOf rows records
  pub text_is : text ≡ compact_text (page_data more (codes "objects") records)
