-- The shape by its parts is the shape by its offsets: a text of the shape has each byte at its offset,
-- and bytes that fit up to a last `Z` spell the parts that stand at the offsets.
use Rattle.std.proofs.Common.{◌≡◌, ◌≢◌, ℕ, zero, suc, subst, length-append, ◌+◌, ◌-◌, ◌*◌, ◌/◌, ◌%◌, ◌<◌, ◌≤◌, true, List, [], ◌∷◌, ◌++◌, length, take, drop, get_or, All, refl, sym, ap, ◌∙◌, arith}
use Rattle.std.specs.Char.{IsAsciiDigit}
use Rattle.std.specs.Int.{IsInRange}
use Rattle.std.proofs.lemmas.Bool.Decides.{nat_tests}
use Rattle.std.proofs.lemmas.List.{take_at}
use Rattle.stix_times.specs.Timestamp.{Timestamp, IsShaped, Spells, text_of, fraction_text}
use Rattle.stix_times.specs.Offsets.{fits, bounds_at, fits_fraction, parts_at, AreDigits}
use Rattle.stix_times.proofs.OffsetLemmas.{AllFit, last_or}

year_fits : (y b : ℕ) → y < 10000 → (fits 0 b (48 + y / 100 / 10) ≡ true) × (fits 1 (48 + y / 100 / 10) (48 + (y / 100) % 10) ≡ true)
    × (fits 2 (48 + (y / 100) % 10) (48 + (y % 100) / 10) ≡ true) × (fits 3 (48 + (y % 100) / 10) (48 + (y % 100) % 10) ≡ true)
unfolding fits bounds_at
year_fits y b h = (grind (arith, nat_tests), grind (arith, nat_tests), grind (arith, nat_tests), grind (arith, nat_tests))

month_fits : (m : ℕ) → IsInRange 1 12 m → (fits 5 45 (48 + m / 10) ≡ true) × (fits 6 (48 + m / 10) (48 + m % 10) ≡ true)
unfolding fits bounds_at
month_fits m h = (grind (arith, nat_tests), grind (arith, nat_tests))

day_fits : (d : ℕ) → IsInRange 1 31 d → (fits 8 45 (48 + d / 10) ≡ true) × (fits 9 (48 + d / 10) (48 + d % 10) ≡ true)
unfolding fits bounds_at
day_fits d h = (grind (arith, nat_tests), grind (arith, nat_tests))

hour_fits : (h : ℕ) → h < 24 → (fits 11 84 (48 + h / 10) ≡ true) × (fits 12 (48 + h / 10) (48 + h % 10) ≡ true)
unfolding fits bounds_at
hour_fits h l = (grind (arith, nat_tests), grind (arith, nat_tests))

minute_fits : (m : ℕ) → m < 60 → (fits 14 58 (48 + m / 10) ≡ true) × (fits 15 (48 + m / 10) (48 + m % 10) ≡ true)
unfolding fits bounds_at
minute_fits m l = (grind (arith, nat_tests), grind (arith, nat_tests))

second_fits : (m : ℕ) → m < 60 → (fits 17 58 (48 + m / 10) ≡ true) × (fits 18 (48 + m / 10) (48 + m % 10) ≡ true)
unfolding fits bounds_at
second_fits m l = (grind (arith, nat_tests), grind (arith, nat_tests))

pub all_cons : (x : ℕ) (xs : List ℕ) → IsAsciiDigit x → All IsAsciiDigit xs → All IsAsciiDigit (x ∷ xs)
all_cons x xs p all zero d l = p
all_cons x xs p all (suc k) d l = all k d (omega arith)

-- digits and a last `Z` fit after a digit
digits_fit : (at before : ℕ) (ds : List ℕ) → 19 < at → IsAsciiDigit before → All IsAsciiDigit ds → AllFit at before (ds ++ 90 ∷ [])
unfolding fits fits_fraction
digits_fit at before [] late digit all = (grind (arith, nat_tests), tt)
digits_fit at before (d ∷ ds) late digit all =
    let d_digit : IsAsciiDigit d = all 0 0 (omega arith) in
    (grind (arith, nat_tests), digits_fit (at + 1) d ds (omega arith) d_digit (λ k e l. all (suc k) e (omega arith)))

fraction_fits : (before : ℕ) (ds : List ℕ) → All IsAsciiDigit ds → AllFit 19 before (fraction_text ds ++ 90 ∷ [])
unfolding fits fits_fraction
fraction_fits before [] all = (refl, tt)
fraction_fits before (d ∷ ds) all =
    let d_digit : IsAsciiDigit d = all 0 0 (omega arith) in
    (refl, (grind (arith, nat_tests), digits_fit 21 d ds (omega arith) d_digit (λ k e l. all (suc k) e (omega arith))))

-- each byte of a text of the shape fits its offset
pub AllFit-text_of : (t : Timestamp) → IsShaped t → AllFit 0 0 (text_of t)
unfolding text_of fits bounds_at
AllFit-text_of t h =
    let y = year_fits t.year 0 h.year in
    let m = month_fits t.month h.month in
    let d = day_fits t.day h.day in
    let o = hour_fits t.hour h.hour in
    let i = minute_fits t.minute h.minute in
    let s = second_fits t.second h.second in
    (y.0, (y.1, (y.2, (y.3, (refl, (m.0, (m.1, (refl, (d.0, (d.1, (refl, (o.0, (o.1, (refl, (i.0, (i.1, (refl, (s.0, (s.1, fraction_fits _ t.fraction h.fraction)))))))))))))))))))

-- ---- from the bytes to the parts

-- both bytes are digits of this number
record ArePair (a b low high : ℕ) : Type 0 where
  first : IsAsciiDigit a
  second : IsAsciiDigit b
  range : IsInRange low high (10 * (a - 48) + (b - 48))

century_pair : (p a b : ℕ) → fits 0 p a ≡ true → fits 1 a b ≡ true → ArePair a b 0 99
unfolding fits bounds_at
century_pair p a b f g = record { first = grind (arith, nat_tests); second = grind (arith, nat_tests); range = grind (arith, nat_tests) }

year_pair : (p a b : ℕ) → fits 2 p a ≡ true → fits 3 a b ≡ true → ArePair a b 0 99
unfolding fits bounds_at
year_pair p a b f g = record { first = grind (arith, nat_tests); second = grind (arith, nat_tests); range = grind (arith, nat_tests) }

month_pair : (p a b : ℕ) → fits 5 p a ≡ true → fits 6 a b ≡ true → ArePair a b 1 12
unfolding fits bounds_at
month_pair p a b f g = record { first = grind (arith, nat_tests); second = grind (arith, nat_tests); range = grind (arith, nat_tests) }

day_pair : (p a b : ℕ) → fits 8 p a ≡ true → fits 9 a b ≡ true → ArePair a b 1 31
unfolding fits bounds_at
day_pair p a b f g = record { first = grind (arith, nat_tests); second = grind (arith, nat_tests); range = grind (arith, nat_tests) }

hour_pair : (p a b : ℕ) → fits 11 p a ≡ true → fits 12 a b ≡ true → ArePair a b 0 23
unfolding fits bounds_at
hour_pair p a b f g = record { first = grind (arith, nat_tests); second = grind (arith, nat_tests); range = grind (arith, nat_tests) }

minute_pair : (p a b : ℕ) → fits 14 p a ≡ true → fits 15 a b ≡ true → ArePair a b 0 59
unfolding fits bounds_at
minute_pair p a b f g = record { first = grind (arith, nat_tests); second = grind (arith, nat_tests); range = grind (arith, nat_tests) }

second_pair : (p a b : ℕ) → fits 17 p a ≡ true → fits 18 a b ≡ true → ArePair a b 0 59
unfolding fits bounds_at
second_pair p a b f g = record { first = grind (arith, nat_tests); second = grind (arith, nat_tests); range = grind (arith, nat_tests) }

-- a byte after a digit, before a byte that is no end, is a digit
digit_between : (at before x y : ℕ) → 19 < at → IsAsciiDigit before → fits at before x ≡ true → fits (at + 1) x y ≡ true → IsAsciiDigit x
unfolding fits fits_fraction
digit_between at before x y late digit f g =
    let not_last : x ≢ 90 = λ e. grind (arith, nat_tests) in
    grind (arith, nat_tests)

-- a list of digits before a last `Z`
record AreDigitsTo (rest ds : List ℕ) : Type 0 where
  digits : All IsAsciiDigit ds
  is : rest ≡ ds ++ 90 ∷ []

AreDigitsTo-cons : (x : ℕ) (rest ds : List ℕ) → IsAsciiDigit x → AreDigitsTo rest ds → AreDigitsTo (x ∷ rest) (x ∷ ds)
AreDigitsTo-cons x rest ds p r = record { digits = all_cons x ds p r.digits; is = ap (λ v. x ∷ v) r.is }

AreDigitsTo-none : (x : ℕ) → x ≡ 90 → AreDigitsTo (x ∷ []) []
AreDigitsTo-none x e = record { digits = λ k d l. absurd (omega arith); is = ap (λ v. v ∷ []) e }

-- after a digit come digits and a last `Z`
digits_from_fit : (at before : ℕ) (rest : List ℕ) → 19 < at → IsAsciiDigit before → AllFit at before rest → last_or before rest ≡ 90 → (ds : List ℕ) × AreDigitsTo rest ds
digits_from_fit at before [] late digit f z = absurd (omega arith)
digits_from_fit at before (x ∷ []) late digit f z = ([], AreDigitsTo-none x z)
digits_from_fit at before (x ∷ y ∷ ys) late digit f z =
    let x_digit : IsAsciiDigit x = digit_between at before x y late digit f.0 f.1.0 in
    let r = digits_from_fit (at + 1) x (y ∷ ys) (omega arith) x_digit f.1 z in
    (x ∷ r.0, AreDigitsTo-cons x (y ∷ ys) r.0 x_digit r.1)

at_dot : (p b x : ℕ) → fits 19 p b ≡ true → fits 20 b x ≡ true → (b ≡ 46) × IsAsciiDigit x
unfolding fits fits_fraction
at_dot p b x f g =
    let not_last : b ≢ 90 = λ e. grind (arith, nat_tests) in
    let dot : b ≡ 46 = grind (arith, nat_tests) in
    (dot, grind (arith, nat_tests))

-- the fraction and the last `Z`
record AreFractionTo (tail ds : List ℕ) : Type 0 where
  digits : All IsAsciiDigit ds
  is : tail ≡ fraction_text ds ++ 90 ∷ []

fraction_from_fit : (before : ℕ) (tail : List ℕ) → 0 < length tail → AllFit 19 before tail → last_or before tail ≡ 90 → (ds : List ℕ) × AreFractionTo tail ds
fraction_from_fit before [] l f z = absurd (omega arith)
fraction_from_fit before (x ∷ []) l f z = ([], record { digits = λ k d l. absurd (omega arith); is = ap (λ v. v ∷ []) z })
fraction_from_fit before (x ∷ y ∷ ys) l f z =
    let dot = at_dot before x y f.0 f.1.0 in
    let r = digits_from_fit 21 y ys (omega arith) dot.1 f.1.1 z in
    (y ∷ r.0, record { digits = all_cons y r.0 dot.1 r.1.digits; is = ap (λ v. x ∷ y ∷ v) r.1.is ∙ ap (λ v. v ∷ y ∷ r.0 ++ 90 ∷ []) dot.0 })

-- where the fraction's digits stand after the seconds
fraction_offset : (ds : List ℕ) → take (length (fraction_text ds ++ 90 ∷ []) - 2) (drop 1 (fraction_text ds ++ 90 ∷ [])) ≡ ds
fraction_offset [] = refl
fraction_offset (d ∷ ds) =
    let n : length ds ≡ length (46 ∷ d ∷ ds ++ 90 ∷ []) - 3 = omega (arith, length-append ds (90 ∷ [])) in
    let m : suc (length (46 ∷ d ∷ ds ++ 90 ∷ []) - 3) ≡ length (46 ∷ d ∷ ds ++ 90 ∷ []) - 2 = omega (arith, length-append ds (90 ∷ [])) in
    ap (λ v. take v (d ∷ ds ++ 90 ∷ [])) (sym m) ∙ ap (λ v. d ∷ v) (take_at ds (90 ∷ []) _ n)

-- the last byte, by its offset
pub last_or-at : (before : ℕ) (s : List ℕ) → 0 < length s → last_or before s ≡ get_or s (length s - 1) 0
last_or-at before [] l = absurd (omega arith)
last_or-at before (x ∷ []) l = refl
last_or-at before (x ∷ y ∷ ys) l =
    let e : suc (suc (length ys) - 1) ≡ suc (suc (length ys)) - 1 = omega arith in
    last_or-at x (y ∷ ys) (omega arith) ∙ ap (λ n. get_or (x ∷ y ∷ ys) n 0) e

-- the parts from their offsets, and the pairs of bytes that they are
spelled : (a0 a1 a2 a3 a4 a5 a6 a7 a8 a9 a10 a11 a12 a13 a14 a15 a16 a17 a18 : ℕ) (tail ds : List ℕ) → ArePair a0 a1 0 99 → ArePair a2 a3 0 99 → a4 ≡ 45 → ArePair a5 a6 1 12 → a7 ≡ 45 → ArePair a8 a9 1 31 → a10 ≡ 84 → ArePair a11 a12 0 23 → a13 ≡ 58 → ArePair a14 a15 0 59 → a16 ≡ 58 → ArePair a17 a18 0 59 → AreFractionTo tail ds → Spells (parts_at (a0 ∷ a1 ∷ a2 ∷ a3 ∷ a4 ∷ a5 ∷ a6 ∷ a7 ∷ a8 ∷ a9 ∷ a10 ∷ a11 ∷ a12 ∷ a13 ∷ a14 ∷ a15 ∷ a16 ∷ a17 ∷ a18 ∷ tail)) (a0 ∷ a1 ∷ a2 ∷ a3 ∷ a4 ∷ a5 ∷ a6 ∷ a7 ∷ a8 ∷ a9 ∷ a10 ∷ a11 ∷ a12 ∷ a13 ∷ a14 ∷ a15 ∷ a16 ∷ a17 ∷ a18 ∷ tail)
unfolding text_of parts_at
spelled a0 a1 a2 a3 a4 a5 a6 a7 a8 a9 a10 a11 a12 a13 a14 a15 a16 a17 a18 tail ds c y e4 m e7 d e10 h e13 i e16 s t =
    let n : length tail - 2 ≡ length (a0 ∷ a1 ∷ a2 ∷ a3 ∷ a4 ∷ a5 ∷ a6 ∷ a7 ∷ a8 ∷ a9 ∷ a10 ∷ a11 ∷ a12 ∷ a13 ∷ a14 ∷ a15 ∷ a16 ∷ a17 ∷ a18 ∷ tail) - 21 = omega arith in
    let fraction : take (length (a0 ∷ a1 ∷ a2 ∷ a3 ∷ a4 ∷ a5 ∷ a6 ∷ a7 ∷ a8 ∷ a9 ∷ a10 ∷ a11 ∷ a12 ∷ a13 ∷ a14 ∷ a15 ∷ a16 ∷ a17 ∷ a18 ∷ tail) - 21) (drop 1 tail) ≡ ds = ap (λ v. take v (drop 1 tail)) (sym n) ∙ ap (λ v. take (length v - 2) (drop 1 v)) t.is ∙ fraction_offset ds in
    let shaped : IsShaped (parts_at (a0 ∷ a1 ∷ a2 ∷ a3 ∷ a4 ∷ a5 ∷ a6 ∷ a7 ∷ a8 ∷ a9 ∷ a10 ∷ a11 ∷ a12 ∷ a13 ∷ a14 ∷ a15 ∷ a16 ∷ a17 ∷ a18 ∷ tail)) = record {
      year = omega arith;
      month = m.range;
      day = d.range;
      hour = omega arith;
      minute = omega arith;
      second = omega arith;
      fraction = subst (λ v. All IsAsciiDigit v) (sym fraction) t.digits;
    } in
    let q0 : a0 ≡ 48 + (100 * (10 * (a0 - 48) + (a1 - 48)) + (10 * (a2 - 48) + (a3 - 48))) / 100 / 10 = omega arith in
    let q1 : a1 ≡ 48 + (100 * (10 * (a0 - 48) + (a1 - 48)) + (10 * (a2 - 48) + (a3 - 48))) / 100 % 10 = omega arith in
    let q2 : a2 ≡ 48 + (100 * (10 * (a0 - 48) + (a1 - 48)) + (10 * (a2 - 48) + (a3 - 48))) % 100 / 10 = omega arith in
    let q3 : a3 ≡ 48 + (100 * (10 * (a0 - 48) + (a1 - 48)) + (10 * (a2 - 48) + (a3 - 48))) % 100 % 10 = omega arith in
    let q5 : a5 ≡ 48 + (10 * (a5 - 48) + (a6 - 48)) / 10 = omega arith in
    let q6 : a6 ≡ 48 + (10 * (a5 - 48) + (a6 - 48)) % 10 = omega arith in
    let q8 : a8 ≡ 48 + (10 * (a8 - 48) + (a9 - 48)) / 10 = omega arith in
    let q9 : a9 ≡ 48 + (10 * (a8 - 48) + (a9 - 48)) % 10 = omega arith in
    let q11 : a11 ≡ 48 + (10 * (a11 - 48) + (a12 - 48)) / 10 = omega arith in
    let q12 : a12 ≡ 48 + (10 * (a11 - 48) + (a12 - 48)) % 10 = omega arith in
    let q14 : a14 ≡ 48 + (10 * (a14 - 48) + (a15 - 48)) / 10 = omega arith in
    let q15 : a15 ≡ 48 + (10 * (a14 - 48) + (a15 - 48)) % 10 = omega arith in
    let q17 : a17 ≡ 48 + (10 * (a17 - 48) + (a18 - 48)) / 10 = omega arith in
    let q18 : a18 ≡ 48 + (10 * (a17 - 48) + (a18 - 48)) % 10 = omega arith in
    let rest : tail ≡ fraction_text (take (length (a0 ∷ a1 ∷ a2 ∷ a3 ∷ a4 ∷ a5 ∷ a6 ∷ a7 ∷ a8 ∷ a9 ∷ a10 ∷ a11 ∷ a12 ∷ a13 ∷ a14 ∷ a15 ∷ a16 ∷ a17 ∷ a18 ∷ tail) - 21) (drop 1 tail)) ++ 90 ∷ [] = t.is ∙ ap (λ v. fraction_text v ++ 90 ∷ []) (sym fraction) in
    record { shaped = shaped; spelling = cc }

-- the bytes between the numbers
byte_4 : (p b : ℕ) → fits 4 p b ≡ true → b ≡ 45
unfolding fits bounds_at
byte_4 p b f = grind (arith, nat_tests)

byte_7 : (p b : ℕ) → fits 7 p b ≡ true → b ≡ 45
unfolding fits bounds_at
byte_7 p b f = grind (arith, nat_tests)

byte_10 : (p b : ℕ) → fits 10 p b ≡ true → b ≡ 84
unfolding fits bounds_at
byte_10 p b f = grind (arith, nat_tests)

byte_13 : (p b : ℕ) → fits 13 p b ≡ true → b ≡ 58
unfolding fits bounds_at
byte_13 p b f = grind (arith, nat_tests)

byte_16 : (p b : ℕ) → fits 16 p b ≡ true → b ≡ 58
unfolding fits bounds_at
byte_16 p b f = grind (arith, nat_tests)

-- bytes that fit up to a last `Z` spell the parts at their offsets
pub Spells-parts_at : (s : List ℕ) → AllFit 0 0 s → 20 ≤ length s → last_or 0 s ≡ 90 → Spells (parts_at s) s
Spells-parts_at (a0 ∷ a1 ∷ a2 ∷ a3 ∷ a4 ∷ a5 ∷ a6 ∷ a7 ∷ a8 ∷ a9 ∷ a10 ∷ a11 ∷ a12 ∷ a13 ∷ a14 ∷ a15 ∷ a16 ∷ a17 ∷ a18 ∷ tail) f l z =
    let t = fraction_from_fit a18 tail (omega arith) f.1.1.1.1.1.1.1.1.1.1.1.1.1.1.1.1.1.1.1 z in
    spelled a0 a1 a2 a3 a4 a5 a6 a7 a8 a9 a10 a11 a12 a13 a14 a15 a16 a17 a18 tail t.0
    (century_pair 0 a0 a1 f.0 f.1.0)
    (year_pair a1 a2 a3 f.1.1.0 f.1.1.1.0)
    (byte_4 a3 a4 f.1.1.1.1.0)
    (month_pair a4 a5 a6 f.1.1.1.1.1.0 f.1.1.1.1.1.1.0)
    (byte_7 a6 a7 f.1.1.1.1.1.1.1.0)
    (day_pair a7 a8 a9 f.1.1.1.1.1.1.1.1.0 f.1.1.1.1.1.1.1.1.1.0)
    (byte_10 a9 a10 f.1.1.1.1.1.1.1.1.1.1.0)
    (hour_pair a10 a11 a12 f.1.1.1.1.1.1.1.1.1.1.1.0 f.1.1.1.1.1.1.1.1.1.1.1.1.0)
    (byte_13 a12 a13 f.1.1.1.1.1.1.1.1.1.1.1.1.1.0)
    (minute_pair a13 a14 a15 f.1.1.1.1.1.1.1.1.1.1.1.1.1.1.0 f.1.1.1.1.1.1.1.1.1.1.1.1.1.1.1.0)
    (byte_16 a15 a16 f.1.1.1.1.1.1.1.1.1.1.1.1.1.1.1.1.0)
    (second_pair a16 a17 a18 f.1.1.1.1.1.1.1.1.1.1.1.1.1.1.1.1.1.0 f.1.1.1.1.1.1.1.1.1.1.1.1.1.1.1.1.1.1.0)
    t.1
Spells-parts_at _ f l z = absurd (omega arith)

last_or-append : (before : ℕ) (p : List ℕ) (z : ℕ) → last_or before (p ++ z ∷ []) ≡ z
last_or-append before [] z = refl
last_or-append before (x ∷ xs) z = last_or-append x xs z

-- the parts of a printed timestamp
fraction_part : (ds : List ℕ) (n : ℕ) → n ≡ length (fraction_text ds ++ 90 ∷ []) - 2 → take n (drop 1 (fraction_text ds ++ 90 ∷ [])) ≡ ds
fraction_part ds n e = ap (λ v. take v (drop 1 (fraction_text ds ++ 90 ∷ []))) e ∙ fraction_offset ds

pub same_parts : (t u : Timestamp) → t.year ≡ u.year → t.month ≡ u.month → t.day ≡ u.day → t.hour ≡ u.hour → t.minute ≡ u.minute → t.second ≡ u.second → t.fraction ≡ u.fraction → t ≡ u
same_parts t u a b c d e f g =
    λ i. record { year = a i; month = b i; day = c i; hour = d i; minute = e i; second = f i; fraction = g i }

pub parts_at-text_of : (t : Timestamp) → IsShaped t → parts_at (text_of t) ≡ t
unfolding text_of parts_at
parts_at-text_of t h =
    same_parts (parts_at (text_of t)) t (omega arith) (omega arith) (omega arith) (omega arith) (omega arith) (omega arith) (fraction_part t.fraction _ (omega arith))

-- a text of the shape has one timestamp
pub one_timestamp : (s : List ℕ) (t u : Timestamp) → Spells t s → Spells u s → t ≡ u
one_timestamp s t u p q = sym (parts_at-text_of t p.shaped) ∙ ap parts_at (sym p.spelling ∙ q.spelling) ∙ parts_at-text_of u q.shaped

-- how many digits the fraction has, by the length of the text
pub length-fraction : (t : Timestamp) → length t.fraction ≡ length (text_of t) - 21
unfolding text_of
length-fraction t = (elim (t.fraction) as (λ v. length v ≡ 19 + length (fraction_text v ++ 90 ∷ []) - 21) [ [] ↦ refl | d ∷ ds ↦ omega (arith, length-append ds (90 ∷ [])) ]) ∙ omega arith

pub text_of_long : (t : Timestamp) → 20 ≤ length (text_of t)
unfolding text_of
text_of_long t = omega (arith, length-append (fraction_text t.fraction) (90 ∷ []))

text_of_last : (t : Timestamp) → last_or 0 (text_of t) ≡ 90
unfolding text_of
text_of_last t = last_or-append _ (fraction_text t.fraction) 90

-- a text of the shape has 20 bytes or more, and the last is `Z`
pub Spells-ends : (t : Timestamp) (s : List ℕ) → Spells t s → AllFit 0 0 s × (20 ≤ length s) × (last_or 0 s ≡ 90)
Spells-ends t s h =
    let P : List ℕ → Type 0 = λ v. AllFit 0 0 v × (20 ≤ length v) × (last_or 0 v ≡ 90) in
    subst P (sym h.spelling) (AllFit-text_of t h.shaped, text_of_long t, text_of_last t)

digits_of_text : (t : Timestamp) → IsShaped t → AreDigits (text_of t)
unfolding text_of
digits_of_text t h = record {
  digit_0 = (omega arith, omega arith);
  digit_1 = (omega arith, omega arith);
  digit_2 = (omega arith, omega arith);
  digit_3 = (omega arith, omega arith);
  digit_5 = (omega arith, omega arith);
  digit_6 = (omega arith, omega arith);
  digit_8 = (omega arith, omega arith);
  digit_9 = (omega arith, omega arith);
  digit_11 = (omega arith, omega arith);
  digit_12 = (omega arith, omega arith);
  digit_14 = (omega arith, omega arith);
  digit_15 = (omega arith, omega arith);
  digit_17 = (omega arith, omega arith);
  digit_18 = (omega arith, omega arith);
}

-- where the numbers stand are digits
pub digits_of_shape : (t : Timestamp) (s : List ℕ) → Spells t s → AreDigits s
digits_of_shape t s h = subst (λ v. AreDigits v) (sym h.spelling) (digits_of_text t h.shaped)
