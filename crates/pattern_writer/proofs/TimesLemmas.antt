-- A written time has digits, `-`, `.`, `:`, `T` and `Z`: it is ASCII, and has no quote.
use Rattle.std.proofs.Common.{◌≢◌, ℕ, zero, suc, ◌+◌, ◌<◌, ◌≤◌, ◌/◌, ◌%◌, ℤ, List, [], ◌∷◌, ◌++◌, refl, sym, subst, arith, Result, Ok, Err, MatchResult}
use Rattle.std.specs.Prelude.{All, IsUtf8}
use Rattle.std.specs.Char.{IsAsciiDigit}
use Rattle.std.specs.Str.{IsAscii}
use Rattle.std.specs.Result.{IsOk}
use Rattle.std.proofs.lemmas.Str.{IsUtf8-from_ascii}
use Rattle.std.proofs.lemmas.List.Elements.{All-append, All-nil}
use Rattle.stix_times.specs.Timestamp.{Timestamp, IsShaped, two_digits, date_text, time_text, fraction_text, text_of}
use Rattle.stix_times.specs.Writing.{IsCanonicalTextOf}

abbrev IsTimeByte : ℕ → Type 0
IsTimeByte b = (45 ≤ b) × (b ≤ 90)

abbrev Timely : List ℕ → Type 0
Timely = All IsTimeByte

cons : (b : ℕ) (bs : List ℕ) → (45 ≤ b) × (b ≤ 90) → Timely bs → Timely (b ∷ bs)
cons b bs h k zero d i = h
cons b bs h k (suc n) d i = k n d (omega arith)

none : Timely []
none = All-nil IsTimeByte

join : (xs ys : List ℕ) → Timely xs → Timely ys → Timely (xs ++ ys)
join xs ys h k = All-append IsTimeByte xs ys h k

two : (n : ℕ) → n < 100 → Timely (two_digits n)
two n h = cons (48 + n / 10) ((48 + n % 10) ∷ []) (omega arith, omega arith) (cons (48 + n % 10) [] (omega arith, omega arith) none)

digits : (ds : List ℕ) → All IsAsciiDigit ds → Timely ds
digits ds h k d i = let here = h k d i in (omega (arith, here.0), omega (arith, here.1))

fraction : (ds : List ℕ) → All IsAsciiDigit ds → Timely (fraction_text ds)
fraction [] h = none
fraction (d ∷ ds) h = cons 46 (d ∷ ds) (omega arith, omega arith) (digits (d ∷ ds) h)

date : (t : Timestamp) → IsShaped t → Timely (date_text t)
date t h =
    let high = two_digits (t.year / 100) in
    let low = two_digits (t.year % 100) in
    let month = 45 ∷ two_digits t.month in
    let day = 45 ∷ two_digits t.day in
    let year : Timely (high ++ low) = join high low (two (t.year / 100) (omega (arith, h.year))) (two (t.year % 100) (omega arith)) in
    let is_month : Timely month = cons 45 (two_digits t.month) (omega arith, omega arith) (two t.month (omega (arith, h.month.1))) in
    let is_day : Timely day = cons 45 (two_digits t.day) (omega arith, omega arith) (two t.day (omega (arith, h.day.1))) in
    join (high ++ low ++ month) day (join (high ++ low) month year is_month) is_day

time : (t : Timestamp) → IsShaped t → Timely (time_text t)
time t h =
    let hour = two_digits t.hour in
    let minute = 58 ∷ two_digits t.minute in
    let second = 58 ∷ two_digits t.second in
    let is_hour : Timely hour = two t.hour (omega (arith, h.hour)) in
    let is_minute : Timely minute = cons 58 (two_digits t.minute) (omega arith, omega arith) (two t.minute (omega (arith, h.minute))) in
    let is_second : Timely second = cons 58 (two_digits t.second) (omega arith, omega arith) (two t.second (omega (arith, h.second))) in
    join (hour ++ minute) second (join hour minute is_hour is_minute) is_second

whole : (t : Timestamp) → IsShaped t → Timely (text_of t)
unfolding text_of
whole t h =
    let behind = 84 ∷ time_text t in
    let ending = fraction_text t.fraction ++ 90 ∷ [] in
    let is_behind : Timely behind = cons 84 (time_text t) (omega arith, omega arith) (time t h) in
    let is_ending : Timely ending = join (fraction_text t.fraction) (90 ∷ []) (fraction t.fraction h.fraction) (cons 90 [] (omega arith, omega arith) none) in
    join (date_text t ++ behind) ending (join (date_text t) behind (date t h) is_behind) is_ending

written : (text : List ℕ) (instant : ℤ) → IsCanonicalTextOf text instant → Timely text
written text instant h = subst Timely (sym h.1.spelling) (whole h.0 h.1.shaped)

ascii : (bs : List ℕ) → Timely bs → IsAscii bs
ascii [] h i = omega arith
ascii (b ∷ bs) h zero = let here = h 0 0 (omega arith) in omega (arith, here.1)
ascii (b ∷ bs) h (suc i) = ascii bs (λ k d l. h (suc k) d (omega arith)) i

pub utf8_time : (text : List ℕ) (instant : ℤ) → IsCanonicalTextOf text instant → IsUtf8 text
utf8_time text instant h = IsUtf8-from_ascii text (ascii text (written text instant h))

pub unquoted_time : (text : List ℕ) (instant : ℤ) → IsCanonicalTextOf text instant → All (λ b. b ≢ 39) text
unquoted_time text instant h k d i e = let here = written text instant h k d i in omega (arith, here.0)

pub read_back : {T E : Type 0} (r : Result T E) (text : List ℕ) (P : T → Type 0) (Q : E → Type 0) → MatchResult r P (λ e. (¬ IsUtf8 text) × Q e) → IsUtf8 text → IsOk r
read_back (Ok x) text P Q h u = refl
read_back (Err e) text P Q h u = absurd (h.0 u)
