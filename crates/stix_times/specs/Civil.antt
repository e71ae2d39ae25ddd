-- The date and the time of day of an instant.
use Rattle.std.specs.Prelude.{◌≡◌, ℕ, ◌<◌, ℤ, pos, ◌+ℤ◌, List, []}
use Rattle.stix_times.specs.declared.civil.Civil.{Civil}
use Rattle.stix_times.specs.declared.fraction.Fraction.{Fraction}
use Rattle.stix_times.specs.Timestamp.{Timestamp, IsShaped, HasDay, nanos_of}
use Rattle.stix_times.specs.Digits.{digits_text}

-- the digits of a fraction
abbrev pub digits_of_fraction : Fraction → List ℕ
digits_of_fraction f = digits_text f.digits f.value

-- the timestamp of a date and a time of day with these digits of a second
unfoldable pub timestamp_with : Civil → List ℕ → Timestamp
timestamp_with c digits = record {
  year = c.year;
  month = c.month;
  day = c.day;
  hour = c.hour;
  minute = c.minute;
  second = c.second;
  fraction = digits;
}

-- the date and the time of day are those of the instant
pub record IsCivilOf (c : Civil) (instant : ℤ) : Type 0 where
  pub shaped : IsShaped (timestamp_with c [])
  pub day : HasDay (timestamp_with c [])
  pub fine : c.nanosecond < 1_000_000_000
  pub nanos : nanos_of (timestamp_with c []) +ℤ pos c.nanosecond ≡ instant
