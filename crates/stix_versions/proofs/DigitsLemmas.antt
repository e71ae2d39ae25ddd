-- Texts of decimal digits.
use Rattle.std.proofs.Common.{◌≡◌, ℕ, ◌<◌, ◌≤◌, ◌^◌, List, length, All, get_or, Option, Result, Ok, Err, MatchOption, inl, inr, sym, subst}
use Rattle.std.specs.Result.{result_ok}
use Rattle.std.specs.Int.{IsInRange}
use Rattle.std.specs.Char.{IsAsciiDigit}
use Rattle.std.specs.Str.Parse.{AllDigits, IsNumeral, digits_value, ParsesUnsigned}
use Rattle.std.proofs.lemmas.Str.Parse.{IsNumeralModel, numerals_by_value, tells_by_index, tells_digits, parse_digits}
use Rattle.std.proofs.lemmas.Bool.{cases_lt}
use Rattle.std.proofs.lemmas.List.Elements.{All-from_get_or}

by_index : IsNumeralModel (λ ds. (i : ℕ) → i < length ds → IsInRange 48 57 (get_or ds i 0)) (digits_value 10)
by_index = numerals_by_value _ tells_by_index

pub are_digits : (text : List ℕ) → All IsAsciiDigit text → AllDigits 10 text
are_digits text all = by_index.to text (λ i inside. all i 0 inside)

pub digits_are : (text : List ℕ) → AllDigits 10 text → All IsAsciiDigit text
digits_are text all = All-from_get_or IsAsciiDigit text 0 (by_index.from text all)

-- the number that a numeral is parsed as, and none where it is too large
abbrev pub IsParsed : List ℕ → Option ℕ → Type 0
IsParsed digits at = MatchOption at (2 ^ 64 ≤ digits_value 10 digits) (λ n. n ≡ digits_value 10 digits)

by_digits : IsNumeralModel (AllDigits 10) (digits_value 10)
by_digits = numerals_by_value (AllDigits 10) tells_digits

pub parsed : {E : Type 0} (digits : List ℕ) → IsNumeral 10 digits → (read : Result ℕ E) → ParsesUnsigned 64 10 digits read → (at : Option ℕ) → at ≡ result_ok read → IsParsed digits at
parsed {E} digits numeral (Ok n) parses at is =
    subst (IsParsed digits) (sym is) (parse_digits by_digits {E = E} 64 digits (Ok n) parses numeral.1).1
parsed {E} digits numeral (Err e) parses at is =
    let too_large = parse_digits by_digits {E = E} 64 digits (Err e) parses numeral.1 in
    subst (IsParsed digits) (sym is)
    (elim (cases_lt (digits_value 10 digits) (2 ^ 64)) [ inl small ↦ absurd (too_large (numeral.0, small)) | inr large ↦ large ])
