-- An instant has one canonical text: its day, its time of day and its fraction each have one spelling.
use Rattle.std.proofs.Common.{◌≡◌, ℕ, suc, ◌+◌, ◌-◌, ◌*◌, ◌^◌, ◌<◌, ◌≤◌, ⊎_elim, List, [], ◌∷◌, ◌++◌, length, get_or, All, refl, sym, ap, ◌∙◌, subst, arith, ℤ, pos, ◌+ℤ◌, ◌*ℤ◌, length-append}
use Rattle.std.specs.Char.{IsAsciiDigit, digit_value}
use Rattle.std.specs.Str.Parse.{digits_value, digits_value_after}
use Rattle.std.proofs.lemmas.Bool.{cases_order}
use Rattle.std.proofs.lemmas.List.{get_or_push}
use Rattle.std.proofs.lemmas.Int.Digits.{digits_value_push}
use Rattle.std.proofs.lemmas.Nat.{pow-add}
use Rattle.std.proofs.Math.Nat.{one-le-pow, mul-le-mul_left, le_of_mul-le-mul_left}
use Rattle.jiff_core.specs.declared.civil.date.Date.{Date}
use Rattle.jiff_core.proofs.SignedLemmas.{signed_arith}
use Rattle.jiff_core.proofs.DateLemmas.{epoch_day_injective}
use Rattle.stix_times.specs.Timestamp.{Timestamp, IsShaped, HasDay, nanos_of, nanos_of_day, fraction_nanos, day_number, text_of}
use Rattle.stix_times.specs.Reading.{IsExact, IsTextOfInstant}
use Rattle.stix_times.specs.Writing.{IsCanonicalTextOf, IsTextOfDigits}
use Rattle.stix_times.specs.Digits.{EndsInZero}
use Rattle.stix_times.proofs.ShapeLemmas.{one_timestamp, same_parts}
use Rattle.stix_times.proofs.FractionLemmas.{digit_value-digit, scaled_bound}

-- a text names one instant
pub one_instant : (s : List ℕ) (z w : ℤ) → IsTextOfInstant s z → IsTextOfInstant s w → z ≡ w
one_instant s z w p q = sym p.2.1 ∙ ap nanos_of (one_timestamp s p.0 q.0 p.1 q.1) ∙ q.2.1

-- the date of a shaped timestamp whose day exists
date_of : (t : Timestamp) → IsShaped t → HasDay t → Date
date_of t h d = record {
  year = pos t.year;
  month = t.month;
  day = t.day;
  year_in = (omega (arith, signed_arith), omega (arith, signed_arith, h.year));
  month_in = h.month;
  day_in = (h.day.0, d);
}

after_first : (x : ℕ) (xs : List ℕ) → All IsAsciiDigit (x ∷ xs) → All IsAsciiDigit xs
after_first x xs all k d l = all (suc k) d (omega arith)

first_of_all : (x : ℕ) (xs : List ℕ) → All IsAsciiDigit (x ∷ xs) → IsAsciiDigit x
first_of_all x xs all = all 0 0 (omega arith)

-- the same number in as many digits has the same digits
record SameFrom (before before₂ : ℕ) (ds es : List ℕ) : Type 0 where
  start : before ≡ before₂
  digits : ds ≡ es

same_step : (before before₂ x y shown shown₂ : ℕ) → shown ≡ x - 48 → shown₂ ≡ y - 48 → IsAsciiDigit x → IsAsciiDigit y → before * 10 + shown ≡ before₂ * 10 + shown₂ → (before ≡ before₂) × (x ≡ y)
same_step before before₂ x y shown shown₂ e f p q h = (omega arith, omega arith)

same_digits_from : (before before₂ : ℕ) (ds es : List ℕ) → length ds ≡ length es → All IsAsciiDigit ds → All IsAsciiDigit es → digits_value_after 10 before ds ≡ digits_value_after 10 before₂ es → SameFrom before before₂ ds es
same_digits_from before before₂ [] [] l p q e = record { start = e; digits = refl }
same_digits_from before before₂ [] (y ∷ es) l p q e = absurd (omega arith)
same_digits_from before before₂ (x ∷ ds) [] l p q e = absurd (omega arith)
same_digits_from before before₂ (x ∷ ds) (y ∷ es) l p q e =
    let x_digit = first_of_all x ds p in
    let y_digit = first_of_all y es q in
    let rest = same_digits_from (before * 10 + digit_value x) (before₂ * 10 + digit_value y) ds es (omega arith) (after_first x ds p) (after_first y es q) e in
    let step = same_step before before₂ x y (digit_value x) (digit_value y) (digit_value-digit x x_digit) (digit_value-digit y y_digit) x_digit y_digit rest.start in
    record { start = step.0; digits = ap (λ v. v ∷ ds) step.1 ∙ ap (λ v. y ∷ v) rest.digits }

-- digits whose number ends in 0 end in 0
front_of : (xs : List ℕ) → 0 < length xs → (front : List ℕ) × (c : ℕ) × (xs ≡ front ++ c ∷ [])
front_of [] l = absurd (omega arith)
front_of (x ∷ []) l = ([], x, refl)
front_of (x ∷ y ∷ ys) l = let r = front_of (y ∷ ys) (omega arith) in (x ∷ r.0, r.1, ap (λ v. x ∷ v) r.2)

ends_in_zero : (ds : List ℕ) (tens : ℕ) → 0 < length ds → All IsAsciiDigit ds → digits_value 10 ds ≡ tens * 10 → EndsInZero ds
ends_in_zero ds tens l all e =
    let r = front_of ds l in
    let digit : IsAsciiDigit r.1 = (let P : ℕ → Type 0 = IsAsciiDigit in subst P (ap (λ v. get_or v (length r.0) 0) r.2 ∙ get_or_push r.0 r.1 0 (length r.0) refl) (all (length r.0) 0 (omega (arith, ap length r.2, length-append r.0 (r.1 ∷ []))))) in
    let value : digits_value 10 r.0 * 10 + digit_value r.1 ≡ tens * 10 = sym (ap (digits_value 10) r.2 ∙ digits_value_push 10 r.0 r.1) ∙ e in
    let shown = digit_value-digit r.1 digit in
    let last : r.1 ≡ 48 = omega arith in
    (r.0, r.2 ∙ ap (λ v. r.0 ++ v ∷ []) last)

bound_step : (v before digit scale next : ℕ) → digit ≤ 9 → next ≡ scale * 10 → v < (before * 10 + digit + 1) * scale → v < (before + 1) * next
bound_step v before digit scale next l e h =
    let most : before * 10 + digit + 1 ≤ (before + 1) * 10 = omega arith in
    rw e (omega (arith, mul-le-mul_left scale most))

value_bound : (before : ℕ) (ds : List ℕ) → All IsAsciiDigit ds → digits_value_after 10 before ds < (before + 1) * 10 ^ length ds
value_bound before [] all = omega arith
value_bound before (x ∷ ds) all =
    let digit = first_of_all x ds all in
    let shown = digit_value-digit x digit in
    let power : 10 ^ suc (length ds) ≡ 10 ^ length ds * 10 = ap (λ k. 10 ^ k) (let k : suc (length ds) ≡ length ds + 1 = omega arith in k) ∙ pow-add 10 (length ds) 1 in
    bound_step _ before (digit_value x) (10 ^ length ds) (10 ^ suc (length ds)) (omega arith) power (value_bound (before * 10 + digit_value x) ds (after_first x ds all))

fraction_bound : (ds : List ℕ) → All IsAsciiDigit ds → length ds ≤ 9 → fraction_nanos ds < 1_000_000_000
fraction_bound ds all fine =
    scaled_bound (digits_value 10 ds) (length ds) fine (omega (arith, value_bound 0 ds all))

cancel : (x y scale : ℕ) → 1 ≤ scale → x * scale ≡ y * scale → x ≡ y
cancel x y scale h e =
    let le : x ≤ y = le_of_mul-le-mul_left (let m : scale * x ≤ scale * y = omega arith in m) h in
    let ge : y ≤ x = le_of_mul-le-mul_left (let m : scale * y ≤ scale * x = omega arith in m) h in
    omega arith

spread : (value power next scale rest : ℕ) → power ≡ next * rest → next ≡ scale * 10 → (value * scale * 10) * rest ≡ value * power
spread value power next scale rest e f = rw (e, f) (omega arith)

-- a longer fraction of as many nanoseconds ends in 0
longer_ends : (ds es : List ℕ) → length ds < length es → length es ≤ 9 → All IsAsciiDigit es → fraction_nanos ds ≡ fraction_nanos es → EndsInZero es
longer_ends ds es l fine all e =
    let k = length es - length ds - 1 in
    let scale = 10 ^ (9 - length es) in
    let exponent : 9 - length ds ≡ (k + 1) + (9 - length es) = omega arith in
    let power : 10 ^ (9 - length ds) ≡ 10 ^ (k + 1) * scale = ap (λ v. 10 ^ v) exponent ∙ pow-add 10 (k + 1) (9 - length es) in
    let apart : (digits_value 10 ds * 10 ^ k * 10) * scale ≡ digits_value 10 es * scale = spread (digits_value 10 ds) (10 ^ (9 - length ds)) (10 ^ (k + 1)) (10 ^ k) scale power (pow-add 10 k 1) ∙ e in
    ends_in_zero es (digits_value 10 ds * 10 ^ k) (omega arith) all (sym (cancel (digits_value 10 ds * 10 ^ k * 10) (digits_value 10 es) scale (one-le-pow (9 - length es) 10 (omega arith)) apart))

same_length_fraction : (ds es : List ℕ) → All IsAsciiDigit ds → All IsAsciiDigit es → length ds ≡ length es → fraction_nanos ds ≡ fraction_nanos es → ds ≡ es
same_length_fraction ds es p q same e =
    (same_digits_from 0 0 ds es same p q (cancel (digits_value 10 ds) (digits_value 10 es) (10 ^ (9 - length es)) (one-le-pow (9 - length es) 10 (omega arith)) (sym (ap (λ k. digits_value 10 ds * 10 ^ (9 - k)) same) ∙ e))).digits

same_fraction : (ds es : List ℕ) → All IsAsciiDigit ds → All IsAsciiDigit es → length ds ≤ 9 → length es ≤ 9 → ¬ EndsInZero ds → ¬ EndsInZero es → fraction_nanos ds ≡ fraction_nanos es → ds ≡ es
same_fraction ds es p q f g m n e = ⊎_elim
    (λ same. same_length_fraction ds es p q same e)
    (⊎_elim (λ l. absurd (n (longer_ends ds es l g q e))) (λ l. absurd (m (longer_ends es ds l f p (sym e)))))
    (cases_order (length ds) (length es))

-- the day and the time of day of an instant
split : (day day₂ : ℤ) (nanos nanos₂ : ℕ) → nanos < 86_400_000_000_000 → nanos₂ < 86_400_000_000_000 → day *ℤ pos 86_400_000_000_000 +ℤ pos nanos ≡ day₂ *ℤ pos 86_400_000_000_000 +ℤ pos nanos₂ → (day ≡ day₂) × (nanos ≡ nanos₂)
split day day₂ nanos nanos₂ l m e = (omega (arith, signed_arith), omega (arith, signed_arith))

-- the parts of a time of day
record SameClock (t u : Timestamp) : Type 0 where
  hour : t.hour ≡ u.hour
  minute : t.minute ≡ u.minute
  second : t.second ≡ u.second
  fraction : fraction_nanos t.fraction ≡ fraction_nanos u.fraction

same_clock : (t u : Timestamp) → IsShaped t → IsShaped u → fraction_nanos t.fraction < 1_000_000_000 → fraction_nanos u.fraction < 1_000_000_000 → nanos_of_day t ≡ nanos_of_day u → SameClock t u
same_clock t u p q f g e = record { hour = omega arith; minute = omega arith; second = omega arith; fraction = omega arith }

-- timestamps of one instant are one, where their fractions of as many nanoseconds are
same_timestamp : (t u : Timestamp) → IsShaped t → IsShaped u → IsExact t → IsExact u → nanos_of t ≡ nanos_of u → (fraction_nanos t.fraction ≡ fraction_nanos u.fraction → t.fraction ≡ u.fraction) → t ≡ u
unfolding date_of
same_timestamp t u p q x y e fraction =
    let f = fraction_bound t.fraction p.fraction x.fine in
    let g = fraction_bound u.fraction q.fraction y.fine in
    let parts = split (day_number t) (day_number u) (nanos_of_day t) (nanos_of_day u) (omega arith) (omega arith) e in
    let date = epoch_day_injective (date_of t p x.day) (date_of u q y.day) parts.0 in
    let clock = same_clock t u p q f g parts.1 in
    same_parts t u (omega (arith, signed_arith)) date.1 date.2 clock.hour clock.minute clock.second (fraction clock.fraction)

-- an instant has one canonical text
pub one_canonical_text : (z : ℤ) (a b : List ℕ) → IsCanonicalTextOf a z → IsCanonicalTextOf b z → a ≡ b
one_canonical_text z a b p q =
    let fraction = same_fraction p.0.fraction q.0.fraction p.1.shaped.fraction q.1.shaped.fraction p.2.0.fine q.2.0.fine p.2.2 q.2.2 in
    p.1.spelling ∙ ap text_of (same_timestamp p.0 q.0 p.1.shaped q.1.shaped p.2.0 q.2.0 (p.2.1 ∙ sym q.2.1) fraction) ∙ sym q.1.spelling

-- and one with this many digits
pub one_text_of_digits : (n : ℕ) (z : ℤ) (a b : List ℕ) → IsTextOfDigits n a z → IsTextOfDigits n b z → a ≡ b
one_text_of_digits n z a b p q =
    let fraction = same_length_fraction p.0.fraction q.0.fraction p.1.shaped.fraction q.1.shaped.fraction (p.2.2 ∙ sym q.2.2) in
    p.1.spelling ∙ ap text_of (same_timestamp p.0 q.0 p.1.shaped q.1.shaped p.2.0 q.2.0 (p.2.1 ∙ sym q.2.1) fraction) ∙ sym q.1.spelling
