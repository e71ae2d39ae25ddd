-- A length digit by digit.
use Rattle.std.proofs.Common.{◌≡◌, ℕ, ◌+◌, ◌-◌, ◌*◌, ◌<◌, ◌≤◌, ◌^◌, true, List, length, get_or, take, arith, ap, ◌∙◌}
use Rattle.std.specs.List.{list_all}
use Rattle.std.specs.Char.{is_ascii_digit, digit_value}
use Rattle.std.specs.Int.{IsInRange}
use Rattle.std.specs.Str.Parse.{digits_value}
use Rattle.std.proofs.Common.{rules}
use Rattle.std.proofs.lemmas.List.{take_more}
use Rattle.std.proofs.lemmas.Bool.Decides.{nat_tests}
use Rattle.std.proofs.lemmas.Int.Digits.{digits_value_push}
use Rattle.std.proofs.lemmas.Str.Parse.{IsNumeralModel, numerals_by_value, digit_at, digits_value_short, digits_value-take-le}

abbrev AreDigits : List ℕ → Type 0
AreDigits ds = list_all is_ascii_digit ds ≡ true

own : IsNumeralModel AreDigits (digits_value 10)
own = numerals_by_value AreDigits (search rules)

-- the number of one more digit
pub record OneMore (ds : List ℕ) (i : ℕ) : Type 0 where
  pub digit : IsInRange 48 57 (get_or ds i 0)
  pub value : digits_value 10 (take (i + 1) ds) ≡ 10 * digits_value 10 (take i ds) + (get_or ds i 0 - 48)
  pub small : digits_value 10 (take (i + 1) ds) < 10 ^ 18

pub number_small : (ds : List ℕ) → list_all is_ascii_digit ds ≡ true → length ds ≤ 18 → digits_value 10 ds < 10 ^ 18
number_small ds all few = digits_value_short own ds 18 all few

-- a digit's value
digit_is : (c : ℕ) → IsInRange 48 57 c → digit_value c ≡ c - 48
digit_is c range = grind (arith, nat_tests)

pub one_more : (ds : List ℕ) (i : ℕ) → list_all is_ascii_digit ds ≡ true → length ds ≤ 18 → i < length ds → OneMore ds i
one_more ds i all few within =
    let digit = digit_at ds i (own.to ds all) within in
    let pushed : digits_value 10 (take (i + 1) ds) ≡ digits_value 10 (take i ds) * 10 + digit_value (get_or ds i 0) =
    ap (digits_value 10) (take_more ds i 0 within) ∙ digits_value_push 10 (take i ds) (get_or ds i 0) in
    let least = digits_value-take-le 10 ds (i + 1) (omega arith) in
    let small = number_small ds all few in record {
      digit = digit;
      value = omega (arith, pushed, digit_is (get_or ds i 0) digit);
      small = omega arith;
    }
