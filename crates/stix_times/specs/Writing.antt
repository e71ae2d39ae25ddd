-- The result of writing an instant: a text that names it.
use Rattle.std.specs.Prelude.{◌≡◌, ℕ, ◌%◌, ℤ, unsigned_abs, List, length}
use Rattle.stix_times.specs.Timestamp.{nanos_of}
use Rattle.stix_times.specs.Reading.{HasShapeWhere, IsExact}
use Rattle.stix_times.specs.Digits.{EndsInZero}

-- the text names the instant, and its fraction doesn't end in 0
abbrev pub IsCanonicalTextOf : List ℕ → ℤ → Type 0
IsCanonicalTextOf text instant =
    HasShapeWhere (λ t. IsExact t × (nanos_of t ≡ instant) × (¬ EndsInZero t.fraction)) text

-- the text names the instant, with this number of fraction digits
abbrev pub IsTextOfDigits : ℕ → List ℕ → ℤ → Type 0
IsTextOfDigits digits text instant =
    HasShapeWhere (λ t. IsExact t × (nanos_of t ≡ instant) × (length t.fraction ≡ digits)) text

-- the instant is a whole number of units of this many nanoseconds
abbrev pub IsWhole : ℕ → ℤ → Type 0
IsWhole unit instant = unsigned_abs instant % unit ≡ 0
