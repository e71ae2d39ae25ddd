-- The days of the years up to 2021, and the time's text as the text of its parts.
use Rattle.std.proofs.Common.{◌≡◌, ◌≢◌, ℕ, zero, suc, ◌+◌, ◌*◌, ◌/◌, ◌%◌, ◌<◌, List, [], ◌∷◌, ◌++◌, refl, arith, pos, ◌-ℤ◌}
use Rattle.std.proofs.lemmas.Int.{ints}
use Rattle.jiff_core.specs.Calendar.{days_in_year, days_of_years, days_of_months, day_count, days_from_civil}
use Rattle.stix_times.specs.Timestamp.{Timestamp, IsShaped, HasDay, nanos_of, text_of}
use Rattle.stix_times.specs.Writing.{IsCanonicalTextOf}
use Rattle.stix_times.specs.Digits.{EndsInZero}
use Rattle.match_generator.specs.GeneratedLog.{time_text, instant_after}

-- the days of so many years that follow the first n
abbrev days_behind : ℕ → ℕ → ℕ
days_behind n zero = 0
days_behind n (suc count) = days_behind n count + days_in_year (pos (n + count) -ℤ pos 10000)

one_year_more : (all first behind last : ℕ) → all ≡ first + behind → all + last ≡ first + (behind + last)
one_year_more all first behind last e = omega arith

days_of_years-+ : (n count : ℕ) → days_of_years (n + count) ≡ days_of_years n + days_behind n count
unfolding days_of_years
days_of_years-+ n zero = let e : n + 0 ≡ n = omega arith in rw e (omega arith)
days_of_years-+ n (suc count) =
    let e : n + suc count ≡ suc (n + count) = omega arith in
    rw e (one_year_more _ _ _ _ (days_of_years-+ n count))

-- 1970 to 2020
years_to_2021 : days_of_years 12021 ≡ days_of_years 11970 + 18628
years_to_2021 = days_of_years-+ 11970 51

-- the day number of a day of January 2021
day_in_january : (day : ℕ) → days_from_civil (pos 2021) 1 (1 + day) ≡ pos (18628 + day)
unfolding days_from_civil day_count days_of_months
day_in_january day = omega (arith, ints, years_to_2021)

-- the parts of the time
abbrev parts_at : ℕ → Timestamp
parts_at seconds = record {
  year = 2021;
  month = 1;
  day = 1 + seconds / 86_400;
  hour = seconds / 3600 % 24;
  minute = seconds / 60 % 60;
  second = seconds % 60;
  fraction = [];
}

spelling : (seconds : ℕ) → time_text seconds ≡ text_of (parts_at seconds)
unfolding time_text text_of
spelling seconds = refl

shaped : (seconds : ℕ) → seconds < 31 * 86_400 → IsShaped (parts_at seconds)
shaped seconds early = record {
  year = omega arith;
  month = (omega arith, omega arith);
  day = (omega arith, omega arith);
  hour = omega arith;
  minute = omega arith;
  second = omega arith;
  fraction = λ k v l. absurd (omega arith);
}

has_day : (seconds : ℕ) → seconds < 31 * 86_400 → HasDay (parts_at seconds)
has_day seconds early = omega arith

nanos_at : (seconds : ℕ) → nanos_of (parts_at seconds) ≡ instant_after seconds
nanos_at seconds = omega (arith, ints, day_in_january (seconds / 86_400))

not_last : (front : List ℕ) → [] ≢ front ++ 48 ∷ []
not_last [] e = cc
not_last (x ∷ front) e = cc

no_zero : ¬ EndsInZero []
no_zero p = not_last p.0 p.1

pub canonical : (seconds : ℕ) → seconds < 31 * 86_400 → IsCanonicalTextOf (time_text seconds) (instant_after seconds)
canonical seconds early = (
  parts_at seconds,
  record { shaped = shaped seconds early; spelling = spelling seconds },
  (record { day = has_day seconds early; fine = omega arith }, nanos_at seconds, no_zero),
)
