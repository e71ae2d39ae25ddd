-- The text of a date, a time of day and a fraction names the instant that they make up.
use Rattle.std.proofs.Common.{◌≡◌, ◌≢◌, ℕ, ◌+◌, ◌-◌, ◌*◌, ◌/◌, ◌%◌, ◌^◌, ◌<◌, ◌≤◌, List, [], length, ◌∙◌, arith, ℤ, pos, negsuc, ◌+ℤ◌, ◌*ℤ◌, unsigned_abs}
use Rattle.jiff_core.specs.Calendar.{days_from_civil}
use Rattle.jiff_core.proofs.SignedLemmas.{signed_arith}
use Rattle.stix_times.specs.declared.civil.Civil.{Civil}
use Rattle.stix_times.specs.declared.fraction.Fraction.{Fraction}
use Rattle.stix_times.specs.Timestamp.{IsShaped, Spells, HasDay, nanos_of, fraction_nanos, text_of}
use Rattle.stix_times.specs.Reading.{IsExact}
use Rattle.stix_times.specs.Writing.{IsWhole}
use Rattle.stix_times.specs.Digits.{EndsInZero}
use Rattle.stix_times.specs.Civil.{timestamp_with, digits_of_fraction}
use Rattle.stix_times.proofs.ShapeLemmas.{length-fraction}
use Rattle.stix_times.proofs.FractionLemmas.{digits_of_number, fraction_nanos-digits_text, length-digits_text, not_EndsInZero}

with_digits : (c : Civil) (f : Fraction) → IsShaped (timestamp_with c []) → IsShaped (timestamp_with c (digits_of_fraction f))
unfolding timestamp_with
with_digits c f h = record {
  year = h.year;
  month = h.month;
  day = h.day;
  hour = h.hour;
  minute = h.minute;
  second = h.second;
  fraction = digits_of_number f.digits f.value f.fits;
}

pub spells : (c : Civil) (f : Fraction) (text : List ℕ) → IsShaped (timestamp_with c []) → text ≡ text_of (timestamp_with c (digits_of_fraction f)) → Spells (timestamp_with c (digits_of_fraction f)) text
spells c f text h e = record { shaped = with_digits c f h; spelling = e }

pub exact : (c : Civil) (f : Fraction) → HasDay (timestamp_with c []) → IsExact (timestamp_with c (digits_of_fraction f))
unfolding timestamp_with
exact c f h = record { day = h; fine = omega (arith, f.few, length-digits_text f.digits f.value) }

sum_nanos : (day : ℤ) (seconds fraction nanosecond : ℕ) (z : ℤ) → fraction ≡ nanosecond → (day *ℤ pos 86_400_000_000_000 +ℤ pos (seconds * 1_000_000_000 + 0)) +ℤ pos nanosecond ≡ z → day *ℤ pos 86_400_000_000_000 +ℤ pos (seconds * 1_000_000_000 + fraction) ≡ z
sum_nanos day seconds fraction nanosecond z e h = omega (arith, signed_arith)

pub names : (c : Civil) (f : Fraction) (z : ℤ) → f.value * 10 ^ (9 - f.digits) ≡ c.nanosecond → nanos_of (timestamp_with c []) +ℤ pos c.nanosecond ≡ z → nanos_of (timestamp_with c (digits_of_fraction f)) ≡ z
unfolding timestamp_with
names c f z e h =
    sum_nanos (days_from_civil (pos c.year) c.month c.day) (3600 * c.hour + 60 * c.minute + c.second) (fraction_nanos (digits_of_fraction f)) c.nanosecond z (fraction_nanos-digits_text f.digits f.value f.fits ∙ e) h

pub digits_count : (c : Civil) (f : Fraction) → length ((timestamp_with c (digits_of_fraction f)).fraction) ≡ f.digits
unfolding timestamp_with
digits_count c f = length-digits_text f.digits f.value

-- how long the text is
pub length-text : (c : Civil) (f : Fraction) → 0 < f.digits → length (text_of (timestamp_with c (digits_of_fraction f))) ≡ 21 + f.digits
length-text c f l = omega (arith, length-fraction (timestamp_with c (digits_of_fraction f)), digits_count c f)

pub length-text_le : (c : Civil) (f : Fraction) → length (text_of (timestamp_with c (digits_of_fraction f))) ≤ 30
length-text_le c f = omega (arith, f.few, length-fraction (timestamp_with c (digits_of_fraction f)), digits_count c f)

-- a whole number of milliseconds or microseconds leaves as many of a second
whole_millis : (day z : ℤ) (seconds nanosecond : ℕ) → (day *ℤ pos 86_400_000_000_000 +ℤ pos (seconds * 1_000_000_000 + 0)) +ℤ pos nanosecond ≡ z → unsigned_abs z % 1_000_000 ≡ 0 → nanosecond % 1_000_000 ≡ 0
whole_millis day (pos n) seconds nanosecond e h = omega (arith, signed_arith)
whole_millis day (negsuc n) seconds nanosecond e h = omega (arith, signed_arith)

whole_micros : (day z : ℤ) (seconds nanosecond : ℕ) → (day *ℤ pos 86_400_000_000_000 +ℤ pos (seconds * 1_000_000_000 + 0)) +ℤ pos nanosecond ≡ z → unsigned_abs z % 1000 ≡ 0 → nanosecond % 1000 ≡ 0
whole_micros day (pos n) seconds nanosecond e h = omega (arith, signed_arith)
whole_micros day (negsuc n) seconds nanosecond e h = omega (arith, signed_arith)

pub millis_exact : (c : Civil) (z : ℤ) → IsWhole 1_000_000 z → nanos_of (timestamp_with c []) +ℤ pos c.nanosecond ≡ z → c.nanosecond / 1_000_000 * 10 ^ (9 - 3) ≡ c.nanosecond
unfolding timestamp_with
millis_exact c z w h =
    let rest = whole_millis (days_from_civil (pos c.year) c.month c.day) z (3600 * c.hour + 60 * c.minute + c.second) c.nanosecond h w in
    omega arith

pub micros_exact : (c : Civil) (z : ℤ) → IsWhole 1000 z → nanos_of (timestamp_with c []) +ℤ pos c.nanosecond ≡ z → c.nanosecond / 1000 * 10 ^ (9 - 6) ≡ c.nanosecond
unfolding timestamp_with
micros_exact c z w h =
    let rest = whole_micros (days_from_civil (pos c.year) c.month c.day) z (3600 * c.hour + 60 * c.minute + c.second) c.nanosecond h w in
    omega arith

pub shortest_fraction : (c : Civil) (f : Fraction) → (0 < f.digits → f.value % 10 ≢ 0) → ¬ EndsInZero ((timestamp_with c (digits_of_fraction f)).fraction)
unfolding timestamp_with
shortest_fraction c f h = not_EndsInZero f.digits f.value f.fits h
