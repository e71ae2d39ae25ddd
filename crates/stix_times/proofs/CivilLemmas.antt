-- The date and the time of day that make up an instant.
use Rattle.std.proofs.Common.{◌≡◌, ℕ, ◌+◌, ◌*◌, ◌/◌, ◌%◌, ◌<◌, ◌≤◌, List, [], ◌∷◌, ◌++◌, refl, arith, ℤ, pos, ◌+ℤ◌, ◌*ℤ◌}
use Rattle.jiff_core.specs.Calendar.{days_in_month, days_from_civil}
use Rattle.jiff_core.specs.Date.{epoch_day}
use Rattle.jiff_core.specs.declared.civil.date.Date.{Date}
use Rattle.jiff_core.proofs.SignedLemmas.{signed_arith}
use Rattle.jiff_core.proofs.CalendarLemmas.{days_in_month_bounds}
use Rattle.jiff_core.proofs.DateLemmas.{civil}
use Rattle.stix_times.specs.declared.civil.Civil.{Civil}
use Rattle.stix_times.specs.Timestamp.{date_text, time_text, fraction_text, text_of}
use Rattle.stix_times.specs.Civil.{timestamp_with, IsCivilOf}

-- the parts of a time of day
pub record IsClock (c : Civil) (nanos : ℕ) : Type 0 where
  pub hour : c.hour ≡ nanos / 1_000_000_000 / 3600
  pub minute : c.minute ≡ nanos / 1_000_000_000 / 60 % 60
  pub second : c.second ≡ nanos / 1_000_000_000 % 60
  pub nanosecond : c.nanosecond ≡ nanos % 1_000_000_000

clock_nanos : (c : Civil) (nanos : ℕ) → IsClock c nanos → (3600 * c.hour + 60 * c.minute + c.second) * 1_000_000_000 + c.nanosecond ≡ nanos
clock_nanos c nanos h = omega arith

same_day_number : (c : Civil) (d : Date) → pos c.year ≡ d.year → c.month ≡ d.month → c.day ≡ d.day → days_from_civil (pos c.year) c.month c.day ≡ epoch_day d
same_day_number c d y m e = cc

month_has_day : (c : Civil) (d : Date) → pos c.year ≡ d.year → c.month ≡ d.month → c.day ≡ d.day → c.day ≤ days_in_month (pos c.year) c.month
month_has_day c d y m e =
    let date = civil d in
    let same : days_in_month (pos c.year) c.month ≡ days_in_month d.year d.month = cc in
    omega (arith, date.2.1)

whole_nanos : (day day₂ : ℤ) (clock nano nanos : ℕ) → day ≡ day₂ → clock + nano ≡ nanos → (day *ℤ pos 86_400_000_000_000 +ℤ pos clock) +ℤ pos nano ≡ day₂ *ℤ pos 86_400_000_000_000 +ℤ pos nanos
whole_nanos day day₂ clock nano nanos e f = omega (arith, signed_arith)

pub civil_of_date : (c : Civil) (d : Date) (nanos : ℕ) → pos c.year ≡ d.year → c.month ≡ d.month → c.day ≡ d.day → IsClock c nanos → nanos < 86_400_000_000_000 → IsCivilOf c (epoch_day d *ℤ pos 86_400_000_000_000 +ℤ pos nanos)
unfolding timestamp_with
civil_of_date c d nanos y m e clock within =
    let date = civil d in
    record {
      shaped = record {
        year = omega (arith, signed_arith, date.0);
        month = (omega (arith, date.1), omega (arith, date.1));
        day = (omega (arith, date.2), omega (arith, date.2, days_in_month_bounds d.year d.month));
        hour = omega arith;
        minute = omega arith;
        second = omega arith;
        fraction = λ k v l. absurd (omega arith);
      };
      day = month_has_day c d y m e;
      fine = omega arith;
      nanos = whole_nanos _ (epoch_day d) _ c.nanosecond nanos (same_day_number c d y m e) (omega (arith, clock_nanos c nanos clock));
    }

-- the parts of the text, one after another
pub printed : (c : Civil) (digits : List ℕ) → date_text (timestamp_with c []) ++ 84 ∷ [] ++ time_text (timestamp_with c []) ++ fraction_text digits ++ 90 ∷ [] ≡ text_of (timestamp_with c digits)
unfolding text_of timestamp_with
printed c digits = refl
