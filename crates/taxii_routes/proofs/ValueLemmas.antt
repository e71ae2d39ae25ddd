-- Values of one word: instants, limits, places and picks.
use Rattle.std.proofs.Common.{◌≡◌, ◌≢◌, inl, inr, ℕ, ◌^◌, ◌<◌, ℤ, pos, ◌*ℤ◌, ◌+ℤ◌, List, [], ◌∷◌, length, get_or, Option, Some, None, Result, Ok, Err, codes, sym, ap, subst, ◌∙◌, arith}
use Rattle.std.specs.Int.RustNames.{int_div, int_rem, unsigned_abs}
use Rattle.std.proofs.lemmas.Int.{ints, to_z-of_z, quot-rem, rem_below, quot_fits}
use Rattle.std.specs.Prelude.{All, IfOk}
use Rattle.std.specs.Result.{OkIff, result_ok}
use Rattle.std.specs.Char.{digit_value}
use Rattle.std.specs.Str.Parse.{AllDigits, IsNumeral, digits_value, without_leading_plus, ParsesUnsigned}
use Rattle.std.proofs.lemmas.Int.Digits.{digits_value-lt}
use Rattle.std.proofs.lemmas.Str.Parse.{numerals_by_value, tells_digits, parse_gives, digits_value_short, without_leading_plus_none}
use Rattle.std.proofs.lemmas.List.Elements.{All-head, All-tail}
use Rattle.flow_values.specs.Answers.{FindsExactly}
use Rattle.stix_times.specs.declared.refusal.TimeRefusal.{TimeRefusal}
use Rattle.stix_times.specs.Reading as time
use Rattle.stix_times.specs.Instant.{IsInstant}
use Rattle.stix_times.proofs.LawLemmas.{one_instant}
use Rattle.stix_ids.specs.declared.pick.Pick.{Pick}
use Rattle.taxii_routes.specs.Value.{IsLimit, IsHexDigit, IsNextCursor, IsTextOfMicros, IsPickText}
use mir.Syntax.{w64, w128}
use mir.Val.{SFits, of_z, to_z}

-- ---- instants

pub found_instant : (text : List ℕ) (answer : Result ℤ TimeRefusal) (found : Option ℤ) → IfOk answer (time.IsTextOfInstant text)
    → ((other : Result ℤ TimeRefusal) → time.ReadsTimestamp text other → other ≡ answer) → found ≡ result_ok answer → FindsExactly (time.IsTextOfInstant text) found
found_instant text (Ok instant) found ok only is = subst (FindsExactly (time.IsTextOfInstant text)) (sym is) ok
found_instant text (Err e) found ok only is = subst (FindsExactly (time.IsTextOfInstant text)) (sym is) (λ instant named. no_error instant (only (Ok instant) named))
  where
    no_error : (instant : ℤ) → ◌≡◌ {A = Result ℤ TimeRefusal} (Ok instant) (Err e) → ⊥
    no_error instant same = cc

-- ---- limits

limit_below : (value : List ℕ) (n : ℕ) → IsLimit value n → digits_value 10 value < 2 ^ 64
limit_below value n is = let small = digits_value_short (numerals_by_value (AllDigits 10) tells_digits) value 18 is.digits.1 is.few in omega arith

-- the text of a limit is read
limit_read : {E : Type 0} (value : List ℕ) (n : ℕ) (answer : Result ℕ E) → ParsesUnsigned 64 10 value answer → IsLimit value n → answer ≡ Ok n
limit_read value n answer parses is =
    parse_gives (numerals_by_value (AllDigits 10) tells_digits) 64 value answer parses is.digits.1 is.digits.0 (limit_below value n is) ∙ ap Ok (sym is.number)

pub no_limit : {E : Type 0} (value : List ℕ) (answer : Result ℕ E) (found : Option ℕ) → ParsesUnsigned 64 10 value answer → found ≡ result_ok answer → found ≡ None
    → (n : ℕ) → ¬ IsLimit value n
no_limit {E} value answer found parses is none n limit = clash (sym none ∙ is ∙ ap result_ok (limit_read value n answer parses limit))
  where
    clash : ◌≡◌ {A = Option ℕ} None (Some n) → ⊥
    clash same = cc

-- ---- places

hex_value : (byte : ℕ) → IsHexDigit byte → digit_value byte < 16
hex_value byte (inl digit) = grind arith
hex_value byte (inr letter) = grind arith

hex_digits : (text : List ℕ) → All IsHexDigit text → AllDigits 16 text
hex_digits [] all = tt
hex_digits (byte ∷ text) all = (hex_value byte (All-head IsHexDigit byte text all), hex_digits text (All-tail IsHexDigit byte text all))

no_plus : (byte : ℕ) → IsHexDigit byte → byte ≢ 43
no_plus byte (inl digit) is = omega arith
no_plus byte (inr letter) is = omega arith

plain_hex : (text : List ℕ) → All IsHexDigit text → 0 < length text → without_leading_plus text ≡ text
plain_hex text all some = without_leading_plus_none text (no_plus (get_or text 0 0) (all 0 0 some))

pub found_next : {E : Type 0} (value : List ℕ) (answer : Result ℕ E) (found : Option ℕ) → length value ≡ 16 → All IsHexDigit value → ParsesUnsigned 64 16 value answer → found ≡ result_ok answer
    → FindsExactly (IsNextCursor value) found
found_next {E} value answer found long all parses is = subst (FindsExactly (IsNextCursor value)) (sym is) (go answer parses)
  where
    digits : AllDigits 16 value
    digits = hex_digits value all

    plain : without_leading_plus value ≡ value
    plain = plain_hex value all (omega arith)

    below : digits_value 16 value < 2 ^ 64
    below = subst (λ n. digits_value 16 value < 16 ^ n) long (digits_value-lt 16 value digits)

    go : (answer : Result ℕ E) → ParsesUnsigned 64 16 value answer → FindsExactly (IsNextCursor value) (result_ok answer)
    go (Ok n) parses = record { digits = all; long = long; number = parses.1 ∙ ap (digits_value 16) plain }
    go (Err e) parses = λ n next.
        absurd (parses (subst (λ (text : List ℕ). IsNumeral 16 text × (digits_value 16 text < 2 ^ 64)) (sym plain) ((omega arith, digits), below)))

-- ---- microseconds

-- a remainder below the divisor is none where the dividend is a multiple
rem_none : (q m r : ℤ) → q *ℤ pos 1000 +ℤ r ≡ pos 1000 *ℤ m → unsigned_abs r < 1000 → r ≡ pos 0
rem_none q m r same small = omega (arith, ints)

-- the bits of a small number
bits_none : (r : ℤ) → unsigned_abs r < 1000 → of_z w128 r ≡ 0 → r ≡ pos 0
bits_none r small none = omega (arith, ints)

rem_small : (z : ℤ) → unsigned_abs (int_rem z (pos 1000)) < 1000
rem_small z = rem_below z (pos 1000) (omega arith)

-- a division by 1000 as the bits show it
abbrev pub rem_bits : ℤ → ℕ
rem_bits z = of_z w128 (int_rem (to_z w128 (of_z w128 z)) (pos 1000))

abbrev pub quot_bits : ℤ → ℤ
quot_bits z = to_z w128 (of_z w128 (int_div (to_z w128 (of_z w128 z)) (pos 1000)))

rem_is : (z : ℤ) → SFits w128 z → rem_bits z ≡ of_z w128 (int_rem z (pos 1000))
rem_is z fits = ap (λ y. of_z w128 (int_rem y (pos 1000))) (to_z-of_z w128 z fits)

quot_is : (z : ℤ) → SFits w128 z → quot_bits z ≡ int_div z (pos 1000)
quot_is z fits =
    ap (λ y. to_z w128 (of_z w128 (int_div y (pos 1000)))) (to_z-of_z w128 z fits)
    ∙ to_z-of_z w128 (int_div z (pos 1000)) (quot_fits w128 z (pos 1000) fits (omega (arith, ints)))

-- an instant between two microseconds has no number of them
pub no_micros : (text : List ℕ) (z : ℤ) → SFits w128 z → time.IsTextOfInstant text z → (rem_bits z ≡ 0 → ⊥) → (micros : ℤ) → ¬ IsTextOfMicros text micros
no_micros text z fits named some micros other =
    let same : z ≡ pos 1000 *ℤ micros = one_instant text z (pos 1000 *ℤ micros) named other in
    let none : int_rem z (pos 1000) ≡ pos 0 = rem_none (int_div z (pos 1000)) micros (int_rem z (pos 1000)) (quot-rem z (pos 1000) ∙ same) (rem_small z) in
    some (rem_is z fits ∙ ap (of_z w128) none ∙ zero_bits)
  where
    zero_bits : of_z w128 (pos 0) ≡ 0
    zero_bits = omega (arith, ints)

pub found_micros : {E : Type 0} (text : List ℕ) (z : ℤ) (answer : Result ℤ E) (found : Option ℤ) → SFits w128 z → IsInstant z → time.IsTextOfInstant text z → rem_bits z ≡ 0
    → OkIff answer (SFits w64 (quot_bits z)) (quot_bits z) → found ≡ result_ok answer → FindsExactly (IsTextOfMicros text) found
found_micros {E = E} text z answer found fits range named none told is = subst (FindsExactly (IsTextOfMicros text)) (sym is) (go answer told)
  where
    rest : int_rem z (pos 1000) ≡ pos 0
    rest = bits_none (int_rem z (pos 1000)) (rem_small z) (sym (rem_is z fits) ∙ none)

    whole : z ≡ pos 1000 *ℤ int_div z (pos 1000)
    whole = let same = quot-rem z (pos 1000) in omega (arith, ints, rest)

    small : SFits w64 (int_div z (pos 1000))
    small = omega (arith, ints, whole)

    go : (answer : Result ℤ E) → OkIff answer (SFits w64 (quot_bits z)) (quot_bits z) → FindsExactly (IsTextOfMicros text) (result_ok answer)
    go (Ok micros) told = subst (time.IsTextOfInstant text) (whole ∙ ap (λ q. pos 1000 *ℤ q) (sym (quot_is z fits) ∙ sym told.1)) named
    go (Err e) told = absurd (told (subst (SFits w64) (sym (quot_is z fits)) small))

-- ---- picks

pub no_pick : (text : List ℕ) → text ≢ codes "last" → text ≢ codes "first" → text ≢ codes "all" → ((micros : ℤ) → ¬ IsTextOfMicros text micros) → (pick : Pick) → ¬ IsPickText text pick
no_pick text last first all none Pick.Last is = last is
no_pick text last first all none Pick.First is = first is
no_pick text last first all none Pick.All is = all is
no_pick text last first all none (Pick.At micros) is = none micros is
