-- A timestamp with three to six digits of a second names a whole number of microseconds.
use Rattle.std.proofs.Common.{◌≡◌, ℕ, ℤ, pos, ◌+◌, ◌-◌, ◌*◌, ◌^◌, ◌≤◌, ◌+ℤ◌, ◌*ℤ◌, List, length, sym, ap, ◌∙◌, arith}
use Rattle.std.specs.Prelude.{unsigned_abs}
use Rattle.std.specs.Str.Parse.{digits_value}
use Rattle.std.proofs.lemmas.Int.{ints, unsigned_abs-mul}
use Rattle.std.proofs.lemmas.Nat.{pow-add}
use Rattle.stix_times.specs.Timestamp.{Timestamp, day_number, fraction_nanos}
use Rattle.stix_times.specs.Reading.{IsMillisTextOf}
use Rattle.stix_times.specs.Writing.{IsWhole}

in_thousands : (n : ℕ) → n ≤ 6 → 10 ^ (9 - n) ≡ 1000 * 10 ^ (6 - n)
in_thousands n few = ap (λ k. 10 ^ k) (let split : 9 - n ≡ 3 + (6 - n) = omega arith in split) ∙ pow-add 10 3 (6 - n)

-- the microseconds of a fraction's digits
fraction_micros : List ℕ → ℕ
fraction_micros digits = digits_value 10 digits * 10 ^ (6 - length digits)

fraction_whole : (digits : List ℕ) → length digits ≤ 6 → fraction_nanos digits ≡ fraction_micros digits * 1000
unfolding fraction_micros
fraction_whole digits few =
    let value = digits_value 10 digits in
    let scale : value * 10 ^ (9 - length digits) ≡ value * (1000 * 10 ^ (6 - length digits)) = ap (λ k. value * k) (in_thousands (length digits) few) in
    omega arith

sum_whole : (day : ℤ) (seconds nanos micros : ℕ) → nanos ≡ micros * 1000
    → day *ℤ pos 86_400_000_000_000 +ℤ pos (seconds * 1_000_000_000 + nanos) ≡ (day *ℤ pos 86_400_000_000 +ℤ pos (seconds * 1_000_000 + micros)) *ℤ pos 1000
sum_whole day seconds nanos micros is = omega (arith, ints)

seconds_of : Timestamp → ℕ
seconds_of t = 3600 * t.hour + 60 * t.minute + t.second

-- the microseconds of a text with this many digits
pub millis_whole : (text : List ℕ) (instant : ℤ) → IsMillisTextOf text instant → (micros : ℤ) × (instant ≡ micros *ℤ pos 1000)
unfolding seconds_of
millis_whole text instant named =
    let t = named.0 in
    let micros = day_number t *ℤ pos 86_400_000_000 +ℤ pos (seconds_of t * 1_000_000 + fraction_micros t.fraction) in
    (micros, sym named.2.2 ∙ sum_whole (day_number t) (seconds_of t) (fraction_nanos t.fraction) (fraction_micros t.fraction) (fraction_whole t.fraction named.2.1.1))

pub is_whole : (micros instant : ℤ) → instant ≡ micros *ℤ pos 1000 → IsWhole 1000 instant
is_whole micros instant is =
    let size : unsigned_abs instant ≡ unsigned_abs micros * 1000 = ap unsigned_abs is ∙ unsigned_abs-mul micros (pos 1000) in
    omega arith
