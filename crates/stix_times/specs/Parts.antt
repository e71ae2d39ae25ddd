-- The parts of a text in the form of a timestamp, and the instant that they name.
use Rattle.std.specs.Prelude.{◌≡◌, ◌<◌, ℤ, length}
use Rattle.stix_times.specs.declared.parts.Parts.{Parts}
use Rattle.stix_times.specs.declared.refusal.TimeRefusal.{TimeRefusal}
use Rattle.stix_times.specs.declared.refusal.TimeRefusal.TheVariants.{Shape, NoSuchDay, TooFine, NotMillis}
use Rattle.stix_times.specs.Timestamp.{Timestamp, HasDay, nanos_of}
use Rattle.stix_times.specs.Reading.{IsExact}

-- the timestamp with these parts
unfoldable pub timestamp_of : Parts → Timestamp
timestamp_of p = record {
  year = p.year;
  month = p.month;
  day = p.day;
  hour = p.hour;
  minute = p.minute;
  second = p.second;
  fraction = p.fraction.now;
}

-- the timestamp names the instant
pub record NamesInstant (t : Timestamp) (instant : ℤ) : Type 0 where
  pub exact : IsExact t
  pub nanos : nanos_of t ≡ instant

-- why a timestamp names no instant
abbrev pub IsTimestampRefusal : Timestamp → TimeRefusal → Type 0
IsTimestampRefusal t (Shape at) = ⊥
IsTimestampRefusal t NoSuchDay = ¬ HasDay t
IsTimestampRefusal t TooFine = HasDay t × (9 < length t.fraction)
IsTimestampRefusal t NotMillis = ⊥
