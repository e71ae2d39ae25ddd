-- Where the days of the years from 0 on lie: 0000-01-01 is day -719528.
use Rattle.std.proofs.Common.{◌≡◌, ℕ, ◌<◌, ◌≤◌, refl, arith, ℤ, pos, neg_ℤ, ◌+ℤ◌, ◌*ℤ◌, ◌≤ℤ◌}
use Rattle.std.proofs.lemmas.Int.{by_lt_z}
use Rattle.jiff_core.specs.Calendar.{day_count, IsBetween}
use Rattle.jiff_core.specs.Date.{epoch_day}
use Rattle.jiff_core.specs.declared.civil.date.Date.{Date}
use Rattle.jiff_core.proofs.SignedLemmas.{signed_arith}
use Rattle.jiff_core.proofs.MarchLemmas.{day_count-early}
use Rattle.jiff_core.proofs.CalendarLemmas.{day_count-later_year, day_count-lt_year, day_count-day_of_year, days_from_civil-day_count}
use Rattle.jiff_core.proofs.DateLemmas.{civil}
use Rattle.stix_times.specs.Instant.{IsInstant}

day_count-zero : day_count (pos 0) 1 1 ≡ 3_652_425
day_count-zero = day_count-early (pos 0) 9999 1 1 refl (omega arith) (omega arith) (omega arith)

day_count-from_zero : (y : ℤ) → pos 0 ≤ℤ y → 3_652_425 ≤ day_count y 1 1
day_count-from_zero y h = by_lt_z (pos 0) y
    (λ lt. omega (arith, day_count-later_year (pos 0) y (omega (arith, signed_arith)) lt, day_count-zero))
    (λ le. let e : y ≡ pos 0 = omega (arith, signed_arith) in rw e (omega (arith, day_count-zero)))

-- no day of these years comes before the first
pub epoch_day-from_zero : (d : Date) → pos 0 ≤ℤ d.year → neg_ℤ (pos 719_528) ≤ℤ epoch_day d
epoch_day-from_zero d h =
    let date = civil d in
    omega (arith, signed_arith, day_count-from_zero d.year h, day_count-day_of_year d.year d.month d.day date.2.0, days_from_civil-day_count d.year d.month d.day)

-- and a day that doesn't is of these years
pub year-from_zero : (d : Date) → neg_ℤ (pos 719_528) ≤ℤ epoch_day d → pos 0 ≤ℤ d.year
year-from_zero d h = by_lt_z d.year (pos 0)
    (λ lt. absurd (omega (arith, signed_arith, day_count-lt_year d.year d.month d.day (pos 0) 1 1 (civil d) (omega arith) lt, day_count-zero, days_from_civil-day_count d.year d.month d.day)))
    (λ le. le)

-- a day of these years and a time of day make an instant
pub instant_bounds : (day : ℤ) (nanos : ℕ) → IsBetween (neg_ℤ (pos 719_528)) (pos 2_932_896) day → nanos < 86_400_000_000_000 → IsInstant (day *ℤ pos 86_400_000_000_000 +ℤ pos nanos)
instant_bounds day nanos h l = (omega (arith, signed_arith), omega (arith, signed_arith))
