-- Numbers in decimal read back.
use Rattle.std.proofs.Common.{◌≡◌, ◌≢◌, ℕ, zero, suc, ◌^◌, ◌<◌, ◌≤◌, ℤ, pos, negsuc, false, ◌==◌, List, [], ◌∷◌, length, get_or, refl, sym, ap, arith, Some}
use Rattle.std.specs.Prelude.{All, decimal, slice_get, neg_ℤ}
use Rattle.std.specs.Fmt.{signed_decimal}
use Rattle.std.specs.Str.Parse.{IsNumeral, digits_value, without_leading_sign, starts_with_minus, signed_digits_value}
use Rattle.std.proofs.lemmas.Fmt.{decimal_is_IsNumeral, first_decimal, decimal_digit}
use Rattle.std.proofs.lemmas.Str.Parse.{digit_at}
use Rattle.std.proofs.lemmas.Bool.Decides.{nat_tests}
use Rattle.std.proofs.lemmas.Int.{ints}
use Rattle.std.proofs.lemmas.List.{get_or_default}
use Rattle.std.proofs.lemmas.List.Elements.{All-cons}
use Rattle.pattern_lexer.specs.Values.{HasNoLeadingZero, FitsIn64Bits, IsIntegerText}

-- digits have no sign
unsigned : (ds : List ℕ) → IsNumeral 10 ds → (starts_with_minus ds ≡ false) × (without_leading_sign ds ≡ ds)
unsigned [] h = absurd (omega (arith, h.0))
unsigned (c ∷ ds) h =
    let d = digit_at (c ∷ ds) 0 h.1 (omega arith) in
    let low : 48 ≤ c = d.0 in
    let p : (c == 45) ≡ false = grind (arith, nat_tests) in
    let q : (c == 43) ≡ false = grind (arith, nat_tests) in
    (p, rw (p, q) refl)

first_zero : (ds : List ℕ) → slice_get ds 0 ≡ Some 48 → get_or ds 0 0 ≡ 48
first_zero [] e = absurd (cc)
first_zero (c ∷ ds) e = cc

plain : (n : ℕ) → n < 2 ^ 64 → HasNoLeadingZero (decimal n)
plain zero h e = let f = ap length (decimal_digit 0 (omega arith)) in omega (arith, f)
plain (suc n) h e = let f = first_decimal (suc n) (omega arith) h in let g = first_zero (decimal (suc n)) e in absurd (omega arith)

pub numeral : (n : ℕ) → n < 2 ^ 64 → IsNumeral 10 (decimal n)
numeral n h = (decimal_is_IsNumeral n h).0

value_from : (ds : List ℕ) (n : ℕ) → starts_with_minus ds ≡ false → without_leading_sign ds ≡ ds → digits_value 10 ds ≡ n → pos n ≡ signed_digits_value 10 ds
value_from ds n p q e = rw (q, p, e) refl

whole_pos : (n : ℕ) → n < 2 ^ 64 → FitsIn64Bits (pos n) → IsIntegerText (decimal n) (pos n)
whole_pos n h fits =
    let d = decimal_is_IsNumeral n h in
    let u = unsigned (decimal n) d.0 in
    record { number = rw u.1 d.0; plain = rw u.1 (plain n h); value = value_from (decimal n) n u.0 u.1 d.1; fits = fits }

pub whole_text : (z : ℤ) → FitsIn64Bits z → IsIntegerText (signed_decimal z) z
whole_text (pos n) h = whole_pos n (omega (arith, ints, h.1)) h
whole_text (negsuc n) h =
    let small : suc n < 2 ^ 64 = omega (arith, ints, h.0) in
    let d = decimal_is_IsNumeral (suc n) small in
    record { number = d.0; plain = plain (suc n) small; value = ap (λ (x : ℕ). neg_ℤ (pos x)) (sym d.1); fits = h }

pub count_text : (n : ℕ) → n ≤ 4_294_967_295 → IsIntegerText (decimal n) (pos n)
count_text n h = whole_pos n (omega arith) (omega (arith, ints), omega (arith, ints))

-- a number has no quote, and begins with a digit or `-`
pub record IsNumeralShape (text : List ℕ) : Type 0 where
  pub some : 0 < length text
  pub plain : All (λ b. b ≢ 39) text
  pub ascii : get_or text 0 0 < 128
  pub first : get_or text 0 0 ≢ 77

digits_shape : (ds : List ℕ) → IsNumeral 10 ds → IsNumeralShape ds
digits_shape ds h =
    let d = digit_at ds 0 h.1 h.0 in
    record {
      some = h.0;
      plain = λ k x b e. let f = digit_at ds k h.1 b in let g = get_or_default ds k x 0 b in omega (arith, f.0);
      ascii = omega (arith, d.1);
      first = λ e. omega (arith, d.1);
    }

pub count_shape : (n : ℕ) → n < 2 ^ 64 → IsNumeralShape (decimal n)
count_shape n h = digits_shape (decimal n) (numeral n h)

pub whole_shape : (z : ℤ) → FitsIn64Bits z → IsNumeralShape (signed_decimal z)
whole_shape (pos n) h = count_shape n (omega (arith, ints, h.1))
whole_shape (negsuc n) h =
    let s = count_shape (suc n) (omega (arith, ints, h.0)) in
    record { some = omega arith; plain = All-cons (λ b. b ≢ 39) 45 (decimal (suc n)) (λ e. omega arith) s.plain; ascii = omega arith; first = λ e. omega arith }
