-- Dates and versions as timestamps (STIX 2.1, sections 2.16 and 3.2): with six fractional digits,
-- or with three for an object's version if they suffice.
use Rattle.std.specs.Prelude.{ℕ, ◌*◌, ◌%◌, ◌==◌, ◌≤◌, ℤ, pos, ◌*ℤ◌, unsigned_abs, List, if◌then◌else◌}
use Rattle.std.specs.Bool.{MatchBool}
use Rattle.stix_ids.specs.Kind.{IsKind}
use Rattle.stix_times.specs.Instant.{IsInstant}
use Rattle.stix_times.specs.Writing.{IsTextOfDigits}
use Rattle.taxii_rows.specs.declared.stored_row.StoredRow.{StoredRow}
use Rattle.taxii_rows.specs.declared.stored_row.TheConstants.{LAST_DATE}

-- the text of a date, in microseconds since 1970
abbrev pub IsDateText : ℕ → List ℕ → Type 0
IsDateText date text = IsTextOfDigits 6 text (pos (1000 * date))

-- the number of fractional digits of an object's version: three if nothing is lost, else six
abbrev pub stated_digits : ℤ → ℕ
stated_digits instant = if unsigned_abs instant % 1_000_000 == 0 then 3 else 6

-- the timestamp of an object's version
abbrev pub IsStatedText : ℤ → List ℕ → Type 0
IsStatedText instant text = IsTextOfDigits (stated_digits instant) text instant

-- the instant of a row's version
abbrev pub version_instant : StoredRow → ℤ
version_instant row = row.version *ℤ pos 1000

-- the text of a row's version: that of an undated row is a date
abbrev pub IsVersionText : StoredRow → List ℕ → Type 0
IsVersionText row text =
    MatchBool row.dated (IsStatedText (version_instant row) text) (IsTextOfDigits 6 text (version_instant row))

-- the row's identifier, date and version have texts, as those of each sound row have
pub record IsWritable (row : StoredRow) : Type 0 where
  pub kind : IsKind row.id.kind
  pub date : row.date ≤ LAST_DATE
  pub version : IsInstant (version_instant row)
