-- A written time has digits, `-`, `.`, `:`, `T` and `Z`: it is ASCII, and so it is text.
use Rattle.std.proofs.Common.{ℕ, zero, suc, ◌+◌, ◌<◌, ◌/◌, ◌%◌, ℤ, List, [], ◌∷◌, ◌++◌, refl, sym, subst, arith, Result, Ok, Err, MatchResult}
use Rattle.std.specs.Prelude.{All, IsUtf8}
use Rattle.std.specs.Char.{IsAsciiDigit}
use Rattle.std.specs.Str.{IsAscii}
use Rattle.std.specs.Result.{IsOk}
use Rattle.std.proofs.lemmas.Str.{IsUtf8-from_ascii}
use Rattle.std.proofs.lemmas.List.Elements.{All-append, All-nil}
use Rattle.stix_times.specs.Timestamp.{Timestamp, IsShaped, two_digits, date_text, time_text, fraction_text, text_of}
use Rattle.stix_times.specs.Writing.{IsTextOfDigits}

abbrev IsLow : ℕ → Type 0
IsLow byte = byte < 128

abbrev Low : List ℕ → Type 0
Low = All IsLow

cons : (byte : ℕ) (bytes : List ℕ) → byte < 128 → Low bytes → Low (byte ∷ bytes)
cons byte bytes h k zero d i = h
cons byte bytes h k (suc n) d i = k n d (omega arith)

none : Low []
none = All-nil IsLow

join : (xs ys : List ℕ) → Low xs → Low ys → Low (xs ++ ys)
join xs ys h k = All-append IsLow xs ys h k

two : (n : ℕ) → n < 100 → Low (two_digits n)
two n h = cons (48 + n / 10) ((48 + n % 10) ∷ []) (omega arith) (cons (48 + n % 10) [] (omega arith) none)

digits : (ds : List ℕ) → All IsAsciiDigit ds → Low ds
digits ds h k d i = let here = h k d i in omega (arith, here.1)

fraction : (ds : List ℕ) → All IsAsciiDigit ds → Low (fraction_text ds)
fraction [] h = none
fraction (d ∷ ds) h = cons 46 (d ∷ ds) (omega arith) (digits (d ∷ ds) h)

date : (t : Timestamp) → IsShaped t → Low (date_text t)
date t h =
    let high = two_digits (t.year / 100) in
    let low = two_digits (t.year % 100) in
    let month = 45 ∷ two_digits t.month in
    let day = 45 ∷ two_digits t.day in
    let year : Low (high ++ low) = join high low (two (t.year / 100) (omega (arith, h.year))) (two (t.year % 100) (omega arith)) in
    let is_month : Low month = cons 45 (two_digits t.month) (omega arith) (two t.month (omega (arith, h.month.1))) in
    let is_day : Low day = cons 45 (two_digits t.day) (omega arith) (two t.day (omega (arith, h.day.1))) in
    join (high ++ low ++ month) day (join (high ++ low) month year is_month) is_day

time : (t : Timestamp) → IsShaped t → Low (time_text t)
time t h =
    let hour = two_digits t.hour in
    let minute = 58 ∷ two_digits t.minute in
    let second = 58 ∷ two_digits t.second in
    let is_minute : Low minute = cons 58 (two_digits t.minute) (omega arith) (two t.minute (omega (arith, h.minute))) in
    let is_second : Low second = cons 58 (two_digits t.second) (omega arith) (two t.second (omega (arith, h.second))) in
    join (hour ++ minute) second (join hour minute (two t.hour (omega (arith, h.hour))) is_minute) is_second

whole : (t : Timestamp) → IsShaped t → Low (text_of t)
unfolding text_of
whole t h =
    let behind = 84 ∷ time_text t in
    let ending = fraction_text t.fraction ++ 90 ∷ [] in
    let is_behind : Low behind = cons 84 (time_text t) (omega arith) (time t h) in
    let is_ending : Low ending = join (fraction_text t.fraction) (90 ∷ []) (fraction t.fraction h.fraction) (cons 90 [] (omega arith) none) in
    join (date_text t ++ behind) ending (join (date_text t) behind (date t h) is_behind) is_ending

ascii : (bs : List ℕ) → Low bs → IsAscii bs
ascii [] h i = omega arith
ascii (b ∷ bs) h zero = h 0 0 (omega arith)
ascii (b ∷ bs) h (suc i) = ascii bs (λ k d l. h (suc k) d (omega arith)) i

utf8_time : (digits : ℕ) (text : List ℕ) (instant : ℤ) → IsTextOfDigits digits text instant → IsUtf8 text
utf8_time digits text instant h = IsUtf8-from_ascii text (ascii text (subst Low (sym h.1.spelling) (whole h.0 h.1.shaped)))

read_back : {T E : Type 0} (r : Result T E) (text : List ℕ) (P : T → Type 0) (Q : E → Type 0) → MatchResult r P (λ e. (¬ IsUtf8 text) × Q e) → IsUtf8 text → IsOk r
read_back (Ok x) text P Q h u = refl
read_back (Err e) text P Q h u = absurd (h.0 u)

-- the bytes of a written time are taken as a text
pub time_taken : {T E : Type 0} (r : Result T E) (digits : ℕ) (text : List ℕ) (instant : ℤ) (P : T → Type 0) (Q : E → Type 0)
    → MatchResult r P (λ e. (¬ IsUtf8 text) × Q e) → IsTextOfDigits digits text instant → IsOk r
time_taken r digits text instant P Q h written = read_back r text P Q h (utf8_time digits text instant written)
