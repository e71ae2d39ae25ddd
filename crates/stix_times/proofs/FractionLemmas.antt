-- The value of a fraction's digits, one digit on and as a whole.
use Rattle.std.proofs.Common.{◌≡◌, ◌≢◌, ℕ, zero, suc, ◌/◌, ◌%◌, ◌++◌, [], ◌∷◌, append_assoc, length-append, All, ◌+◌, ◌-◌, ◌*◌, ◌^◌, ◌<◌, ◌≤◌, List, length, get_or, take, refl, sym, ap, ◌∙◌, arith}
use Rattle.std.specs.Char.{IsAsciiDigit, digit_value}
use Rattle.std.specs.Str.Parse.{digits_value, digits_value_after}
use Rattle.stix_times.proofs.ShapeLemmas.{all_cons}
use Rattle.stix_times.specs.Timestamp.{fraction_nanos}
use Rattle.stix_times.specs.Digits.{digits_text, EndsInZero}
use Rattle.std.proofs.lemmas.Int.Digits.{digits_value_more, digits_value_push}
use Rattle.std.proofs.lemmas.Bool.Decides.{nat_tests}
use Rattle.std.proofs.Math.Nat.{one-le-pow, mul-le-mul_left, div-lt_iff_lt-mul, mod-lt, div-add-mod}
use Rattle.std.proofs.lemmas.Nat.{pow-add}

pub digit_value-digit : (c : ℕ) → IsAsciiDigit c → digit_value c ≡ c - 48
digit_value-digit c h = grind (arith, nat_tests)

pub value_more : (ds : List ℕ) (i value : ℕ) → i < length ds → IsAsciiDigit (get_or ds i 0) → value ≡ digits_value 10 (take i ds) → 10 * value + (get_or ds i 0 - 48) ≡ digits_value 10 (take (i + 1) ds)
value_more ds i value l digit e = omega (arith, digits_value_more 10 ds i l, digit_value-digit (get_or ds i 0) digit)

pub bound_more : (value digit i : ℕ) → value < 10 ^ i → digit ≤ 9 → 10 * value + digit < 10 ^ (i + 1)
bound_more value digit i h d = omega (arith, pow-add 10 i 1)

-- nine digits in all, with the zeros that scale them
pub scaled_bound : (value n : ℕ) → n ≤ 9 → value < 10 ^ n → value * 10 ^ (9 - n) < 1_000_000_000
scaled_bound value n h l =
    let whole : 10 ^ n * 10 ^ (9 - n) ≡ 1_000_000_000 = sym (pow-add 10 n (9 - n)) ∙ ap (λ k. 10 ^ k) (let e : n + (9 - n) ≡ 9 = omega arith in e) in
    let positive : 1 ≤ 10 ^ (9 - n) = one-le-pow (9 - n) 10 (omega arith) in
    let below : value + 1 ≤ 10 ^ n = omega arith in
    omega (arith, mul-le-mul_left (10 ^ (9 - n)) below)

-- one digit fewer, where the last is 0
pub shorter_value : (value d n : ℕ) → 0 < d → d ≤ 9 → value % 10 ≡ 0 → value * 10 ^ (9 - d) ≡ n → value / 10 * 10 ^ (9 - (d - 1)) ≡ n
shorter_value value d n low high last e =
    let scale : 10 ^ (9 - (d - 1)) ≡ 10 ^ (9 - d) * 10 = ap (λ k. 10 ^ k) (let k : 9 - (d - 1) ≡ (9 - d) + 1 = omega arith in k) ∙ pow-add 10 (9 - d) 1 in
    let tens : value ≡ value / 10 * 10 = omega arith in
    let left : value / 10 * 10 ^ (9 - (d - 1)) ≡ value / 10 * (10 ^ (9 - d) * 10) = ap (λ k. value / 10 * k) scale in
    let right : value * 10 ^ (9 - d) ≡ (value / 10 * 10) * 10 ^ (9 - d) = ap (λ k. k * 10 ^ (9 - d)) tens in
    omega arith

pub shorter_fits : (value d : ℕ) → 0 < d → value < 10 ^ d → value / 10 < 10 ^ (d - 1)
shorter_fits value d low l =
    let scale : 10 ^ d ≡ 10 ^ (d - 1) * 10 = ap (λ k. 10 ^ k) (let k : d ≡ (d - 1) + 1 = omega arith in k) ∙ pow-add 10 (d - 1) 1 in
    omega arith

-- the scale of the next of n digits
pub next_scale : (n offset scale : ℕ) → offset < n → scale ≡ 10 ^ (n - offset) → scale / 10 ≡ 10 ^ (n - (offset + 1))
next_scale n offset scale l e =
    let step : 10 ^ (n - offset) ≡ 10 ^ (n - (offset + 1)) * 10 = ap (λ k. 10 ^ k) (let k : n - offset ≡ (n - (offset + 1)) + 1 = omega arith in k) ∙ pow-add 10 (n - (offset + 1)) 1 in
    omega arith

pub scale_positive : (n offset scale : ℕ) → offset < n → scale ≡ 10 ^ (n - offset) → 1 ≤ scale / 10
scale_positive n offset scale l e =
    omega (arith, next_scale n offset scale l e, one-le-pow (n - (offset + 1)) 10 (omega arith))

pub next_digit : (n offset scale rest : ℕ) → offset < n → scale ≡ 10 ^ (n - offset) → rest < scale → rest / (scale / 10) < 10
next_digit n offset scale rest l e h =
    let step : 10 ^ (n - offset) ≡ 10 ^ (n - (offset + 1)) * 10 = ap (λ k. 10 ^ k) (let k : n - offset ≡ (n - (offset + 1)) + 1 = omega arith in k) ∙ pow-add 10 (n - (offset + 1)) 1 in
    let below : rest < 10 * (scale / 10) = omega arith in
    (div-lt_iff_lt-mul (scale_positive n offset scale l e)).1 below

-- the digits written and the digits left are the same as before
pub next_text : (text : List ℕ) (n offset scale rest : ℕ) → offset < n → scale ≡ 10 ^ (n - offset) → (text ++ (48 + rest / (scale / 10)) ∷ []) ++ digits_text (n - (offset + 1)) (rest % (scale / 10)) ≡ text ++ digits_text (n - offset) rest
next_text text n offset scale rest l e =
    let k : n - offset ≡ suc (n - (offset + 1)) = omega arith in
    let s : scale / 10 ≡ 10 ^ (n - (offset + 1)) = next_scale n offset scale l e in
    rw (s, append_assoc) (ap (λ v. text ++ digits_text v rest) (sym k))

pub next_rest : (n offset scale rest : ℕ) → offset < n → scale ≡ 10 ^ (n - offset) → rest % (scale / 10) < scale / 10
next_rest n offset scale rest l e = mod-lt rest (scale_positive n offset scale l e)

pub length-digits_text : (n value : ℕ) → length (digits_text n value) ≡ n
length-digits_text zero value = refl
length-digits_text (suc n) value = ap suc (length-digits_text n (value % 10 ^ n))

one_digit_more : (before shown digit rest scale next value : ℕ) → shown ≡ digit → scale * digit + rest ≡ value → next ≡ scale * 10 → (before * 10 + shown) * scale + rest ≡ before * next + value
one_digit_more before shown digit rest scale next value e f g = rw (e, g) (omega arith)

-- the value of the digits of a number is the number
pub value_after-digits_text : (n value before : ℕ) → value < 10 ^ n → digits_value_after 10 before (digits_text n value) ≡ before * 10 ^ n + value
value_after-digits_text zero value before l = omega arith
value_after-digits_text (suc n) value before l =
    let power : 10 ^ suc n ≡ 10 ^ n * 10 = ap (λ k. 10 ^ k) (let k : suc n ≡ n + 1 = omega arith in k) ∙ pow-add 10 n 1 in
    let positive : 1 ≤ 10 ^ n = one-le-pow n 10 (omega arith) in
    let small : value / 10 ^ n < 10 = (div-lt_iff_lt-mul positive).1 (omega arith) in
    let digit : digit_value (48 + value / 10 ^ n) ≡ value / 10 ^ n = digit_value-digit (48 + value / 10 ^ n) (omega arith, omega arith) ∙ omega arith in
    let rest : digits_value_after 10 before (digits_text (suc n) value) ≡ (before * 10 + digit_value (48 + value / 10 ^ n)) * 10 ^ n + value % 10 ^ n = value_after-digits_text n (value % 10 ^ n) (before * 10 + digit_value (48 + value / 10 ^ n)) (mod-lt value positive) in
    rest ∙ one_digit_more before (digit_value (48 + value / 10 ^ n)) (value / 10 ^ n) (value % 10 ^ n) (10 ^ n) (10 ^ suc n) value digit (div-add-mod value (10 ^ n)) power

pub digits_of_number : (n value : ℕ) → value < 10 ^ n → All IsAsciiDigit (digits_text n value)
digits_of_number zero value l = λ k d h. absurd (omega arith)
digits_of_number (suc n) value l =
    let power : 10 ^ suc n ≡ 10 ^ n * 10 = ap (λ k. 10 ^ k) (let k : suc n ≡ n + 1 = omega arith in k) ∙ pow-add 10 n 1 in
    let positive : 1 ≤ 10 ^ n = one-le-pow n 10 (omega arith) in
    let small : value / 10 ^ n < 10 = (div-lt_iff_lt-mul positive).1 (omega arith) in
    all_cons (48 + value / 10 ^ n) (digits_text n (value % 10 ^ n)) (omega arith, omega arith) (digits_of_number n (value % 10 ^ n) (mod-lt value positive))

pub fraction_nanos-digits_text : (n value : ℕ) → value < 10 ^ n → fraction_nanos (digits_text n value) ≡ value * 10 ^ (9 - n)
fraction_nanos-digits_text n value l =
    let whole : digits_value 10 (digits_text n value) ≡ value = value_after-digits_text n value 0 l ∙ omega arith in
    ap (λ k. k * 10 ^ (9 - length (digits_text n value))) whole ∙ ap (λ k. value * 10 ^ (9 - k)) (length-digits_text n value)

-- a number that ends in 0 ends so in its digits alone
pub not_EndsInZero : (n value : ℕ) → value < 10 ^ n → (0 < n → value % 10 ≢ 0) → ¬ EndsInZero (digits_text n value)
not_EndsInZero n value l last z =
    let whole : digits_value 10 (digits_text n value) ≡ value = value_after-digits_text n value 0 l ∙ omega arith in
    let tens : digits_value 10 (digits_text n value) ≡ digits_value 10 z.0 * 10 + 0 = ap (digits_value 10) z.1 ∙ digits_value_push 10 z.0 48 in
    let some : 0 < n = omega (arith, length-digits_text n value, ap length z.1, length-append z.0 (48 ∷ [])) in
    last some (omega arith)
