-- What `parse` gives for a number in decimal without a sign or a leading zero.
use Rattle.std.proofs.Common.{◌≡◌, ℕ, ◌^◌, ◌<◌, List, length, decimal, Result, Ok, Err, sym, ap, ◌∙◌, subst, arith, inl, inr}
use Rattle.std.specs.Result.{OkIff}
use Rattle.std.specs.Str.Parse.{AllDigits, digits_value, ParsesUnsigned}
use Rattle.std.proofs.lemmas.Bool.{cases_lt}
use Rattle.std.proofs.lemmas.Fmt.{decimal_is_IsNumeral, decimal_digit, first_decimal, decimal-digits_value, parse-decimal}
use Rattle.std.proofs.lemmas.Str.Parse.{digit_at, numerals_by_value, tells_digits, parse_plain}
use Rattle.pattern_types.specs.PrefixLength.{BeginsAsDecimal}

-- a number in decimal begins as one
decimal-begins : (n : ℕ) → n < 2 ^ 8 → BeginsAsDecimal (decimal n)
decimal-begins n small =
    let numeral = (decimal_is_IsNumeral n (omega arith)).0 in
    let first = digit_at (decimal n) 0 numeral.1 numeral.0 in
    record {
      some = numeral.0;
      no_sign = λ plus. omega (arith, first.0, plus);
      no_zero = λ zero. elim (cases_lt n 10) [
        | inl one ↦ ap length (decimal_digit n one)
        | inr more ↦ absurd (omega (arith, zero, first_decimal n (omega arith) (omega arith)))
      ];
    }

pub begins_from_decimal : (n : ℕ) (bs : List ℕ) → n < 2 ^ 8 → bs ≡ decimal n → BeginsAsDecimal bs
begins_from_decimal n bs small spelled = subst BeginsAsDecimal (sym spelled) (decimal-begins n small)

-- the parse of such a text is its number
module _ {E : Type 0} where
  value_of : (bs : List ℕ) (r : Result ℕ E) (n : ℕ) → BeginsAsDecimal bs → OkIff r (AllDigits 10 bs × (0 < length bs) × (digits_value 10 bs < 2 ^ 8)) (digits_value 10 bs) → r ≡ Ok n → bs ≡ decimal n
  value_of bs (Ok m) n begins parsed given =
      let own = numerals_by_value (AllDigits 10) tells_digits in
      let digits = parsed.0 in
      let spelled = decimal-digits_value own bs digits.0 digits.1 begins.no_zero (omega (arith, digits.2)) in
      let value : digits_value 10 bs ≡ n = cc in
      sym spelled ∙ ap decimal value
  value_of bs (Err e) n begins parsed given = cc

  pub spelled_from_parse : (bs : List ℕ) (r : Result ℕ E) (n : ℕ) → BeginsAsDecimal bs → ParsesUnsigned 8 10 bs r → r ≡ Ok n → bs ≡ decimal n
  spelled_from_parse bs r n begins parses given =
      value_of bs r n begins (parse_plain (numerals_by_value (AllDigits 10) tells_digits) 8 bs r parses begins.no_sign) given

  pub parse_from_spelled : (bs : List ℕ) (r : Result ℕ E) (n : ℕ) → n < 2 ^ 8 → ParsesUnsigned 8 10 bs r → bs ≡ decimal n → r ≡ Ok n
  parse_from_spelled bs r n small parses spelled = parse-decimal 8 n bs r small (omega arith) spelled parses
