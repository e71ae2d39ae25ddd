-- Timestamps of STIX 2.1, section 2.16 `timestamp`: the `date-time` of RFC 3339, section 5.6, in
-- UTC, with the capitals `T` and `Z`, and no leap second. A timestamp is defined by its parts, a
-- printer from the parts to the text, and the conditions on valid parts. Byte 45 is `-`, 46 is `.`,
-- 48 is `0`, 58 is `:`, 84 is `T` and 90 is `Z`.
use Rattle.std.specs.Prelude.{◌≡◌, ℕ, ◌+◌, ◌-◌, ◌*◌, ◌/◌, ◌%◌, ◌^◌, ◌<◌, ◌≤◌, ℤ, pos, ◌+ℤ◌, ◌*ℤ◌, List, [], ◌∷◌, ◌++◌, length, All}
use Rattle.std.specs.Char.{IsAsciiDigit}
use Rattle.std.specs.Int.{IsInRange}
use Rattle.std.specs.Str.Parse.{digits_value}
use Rattle.jiff_core.specs.Calendar.{days_in_month, days_from_civil}

-- the parts of a timestamp: the fraction is the bytes of its digits, none if there is no dot
pub record Timestamp : Type 0 where
  pub year : ℕ
  pub month : ℕ
  pub day : ℕ
  pub hour : ℕ
  pub minute : ℕ
  pub second : ℕ
  pub fraction : List ℕ

-- 2DIGIT
abbrev pub two_digits : ℕ → List ℕ
two_digits n = (48 + n / 10) ∷ (48 + n % 10) ∷ []

-- full-date = date-fullyear "-" date-month "-" date-mday
abbrev pub date_text : Timestamp → List ℕ
date_text t =
    two_digits (t.year / 100) ++ two_digits (t.year % 100)
    ++ 45 ∷ two_digits t.month ++ 45 ∷ two_digits t.day

-- time-hour ":" time-minute ":" time-second
abbrev pub time_text : Timestamp → List ℕ
time_text t = two_digits t.hour ++ 58 ∷ two_digits t.minute ++ 58 ∷ two_digits t.second

-- [time-secfrac], which is "." 1*DIGIT
abbrev pub fraction_text : List ℕ → List ℕ
fraction_text [] = []
fraction_text (d ∷ ds) = 46 ∷ d ∷ ds

-- date-time = full-date "T" partial-time "Z"
unfoldable pub text_of : Timestamp → List ℕ
text_of t = date_text t ++ 84 ∷ time_text t ++ (fraction_text t.fraction ++ 90 ∷ [])

-- each part is in its range, whatever the month
pub record IsShaped (t : Timestamp) : Type 0 where
  pub year : t.year < 10000
  pub month : IsInRange 1 12 t.month
  pub day : IsInRange 1 31 t.day
  pub hour : t.hour < 24
  pub minute : t.minute < 60
  pub second : t.second < 60
  pub fraction : All IsAsciiDigit t.fraction

-- the month has the day
abbrev pub HasDay : Timestamp → Type 0
HasDay t = t.day ≤ days_in_month (pos t.year) t.month

-- the fraction's digits as nanoseconds, for at most nine of them
abbrev pub fraction_nanos : List ℕ → ℕ
fraction_nanos digits = digits_value 10 digits * 10 ^ (9 - length digits)

-- the nanoseconds since midnight
abbrev pub nanos_of_day : Timestamp → ℕ
nanos_of_day t = (3600 * t.hour + 60 * t.minute + t.second) * 1_000_000_000 + fraction_nanos t.fraction

-- the days since 1970-01-01
abbrev pub day_number : Timestamp → ℤ
day_number t = days_from_civil (pos t.year) t.month t.day

-- the nanoseconds since 1970-01-01T00:00:00Z
abbrev pub nanos_of : Timestamp → ℤ
nanos_of t = day_number t *ℤ pos 86_400_000_000_000 +ℤ pos (nanos_of_day t)

-- the text has the form, with these parts
pub record Spells (t : Timestamp) (text : List ℕ) : Type 0 where
  pub shaped : IsShaped t
  pub spelling : text ≡ text_of t

-- the text has the form
abbrev pub HasShape : List ℕ → Type 0
HasShape text = (t : Timestamp) × Spells t text

-- some text of the form has this prefix
abbrev pub BeginsShape : List ℕ → Type 0
BeginsShape prefix = (rest : List ℕ) × HasShape (prefix ++ rest)
