-- The body of the versions of an object (TAXII 2.1, section 5.8.1).
use Rattle.std.specs.Prelude.{◌≡◌, ℕ, List, codes, Bool}
use Rattle.std.specs.List.{AllZip}
use Rattle.serde_json.specs.Data.{Data, string}
use Rattle.serde_json.specs.Written.{compact_text}
use Rattle.taxii_rows.specs.declared.stored_row.StoredRow.{StoredRow}
use Rattle.taxii_bodies.specs.Times.{IsVersionText}
use Rattle.taxii_bodies.specs.Page.{page_data}

-- the value is the text of the row's version
abbrev pub IsVersionOf : StoredRow → Data → Type 0
IsVersionOf row value = (text : List ℕ) × IsVersionText row text × (value ≡ string text)

-- the text is that of the versions of these rows in their order
pub record AreVersions (rows : List StoredRow) (more : Bool) (text : List ℕ) : Type 0 where
  pub versions : List Data
  pub each : AllZip IsVersionOf rows versions
  pub text_is : text ≡ compact_text (page_data more (codes "versions") versions)
