-- Bytes that may stand in a head: visible ones, and spaces.
use Rattle.std.proofs.Common.{◌≡◌, ℕ, zero, suc, ◌/◌, ◌%◌, ◌<◌, ◌≤◌, Bool, true, false, ◌&&◌, List, [], ◌∷◌, ◌++◌, All, length, refl, arith, le-leb, lt-ltb, ne_eqb}
use Rattle.std.specs.Prelude.{⊤, IsTrue, IsUtf8, slice_index, nat_le, nat_lt}
use Rattle.std.specs.List.{list_all, AllByRecursion}
use Rattle.std.specs.Int.{bytes_high_first, byte_at, to_be_bytes, w64}
use Rattle.std.specs.Str.Parse.{AllDigits}
use Rattle.std.proofs.lemmas.Bool.{leb-true, ltb-true}
use Rattle.std.proofs.lemmas.List.Elements.{All-nil, All-cons, All-head, All-tail}
use Rattle.std.proofs.lemmas.Str.{IsUtf8-from_ascii}
use Rattle.std.proofs.lemmas.Str.Ascii.{IsAscii-from_all}
use Rattle.std.proofs.lemmas.Str.Parse.{digit_from_value}
use Rattle.hex.specs.Hex.{lower_digits, encode_with, encode_lower}
use Rattle.httparse.specs.Grammar.{is_value_byte, is_uri_byte, AllPass}
use Rattle.taxii_bodies.specs.Envelope.{next_text}

pub passes : (test : ℕ → Bool) (bytes : List ℕ) → list_all test bytes ≡ true → AllPass test bytes
passes test [] all = All-nil (λ b. IsTrue (test b))
passes test (b ∷ bytes) all = by_test (test b) refl all (passes test bytes)
  where
    by_test : (t : Bool) → test b ≡ t → t && list_all test bytes ≡ true → (list_all test bytes ≡ true → AllPass test bytes) → AllPass test (b ∷ bytes)
    by_test true is rest later = All-cons (λ x. IsTrue (test x)) b bytes is (later rest)
    by_test false is rest later = absurd (cc)

-- bytes from one on, and none after `~`
abbrev pub AreFrom : ℕ → List ℕ → Type 0
AreFrom least [] = ⊤
AreFrom least (b ∷ bytes) = (least ≤ b) × (b < 127) × AreFrom least bytes

-- of bytes that are written out
pub seen : (least : ℕ) (bytes : List ℕ) → list_all (λ b. nat_le least b && nat_lt b 127) bytes ≡ true → AreFrom least bytes
seen least [] all = tt
seen least (b ∷ bytes) all =
    let parts = both_true (nat_le least b) (nat_lt b 127) (list_all (λ x. nat_le least x && nat_lt x 127) bytes) all in
    (leb-true least b parts.0, ltb-true b 127 parts.1, seen least bytes parts.2)
  where
    both_true : (x y z : Bool) → (x && y) && z ≡ true → (x ≡ true) × (y ≡ true) × (z ≡ true)
    both_true true true z is = (refl, refl, is)
    both_true true false z is = absurd (cc)
    both_true false y z is = absurd (cc)

pub from_both : (least : ℕ) (first second : List ℕ) → AreFrom least first → AreFrom least second → AreFrom least (first ++ second)
from_both least [] second are more = more
from_both least (b ∷ first) second (low, high, are) more = (low, high, from_both least first second are more)

pub from_less : (least lower : ℕ) (bytes : List ℕ) → lower ≤ least → AreFrom least bytes → AreFrom lower bytes
from_less least lower [] le are = tt
from_less least lower (b ∷ bytes) le (low, high, are) = (omega (arith, le, low), high, from_less least lower bytes le are)

pub from_all : (bytes : List ℕ) → All (λ byte. (33 ≤ byte) × (byte < 127)) bytes → AreFrom 33 bytes
from_all [] are = tt
from_all (b ∷ bytes) are =
    let first = All-head (λ byte. (33 ≤ byte) × (byte < 127)) b bytes are in
    (first.0, first.1, from_all bytes (All-tail (λ byte. (33 ≤ byte) × (byte < 127)) b bytes are))

value_byte : (b : ℕ) → 32 ≤ b → b < 127 → is_value_byte b ≡ true
value_byte b low high = rw (ne_eqb b 9 (λ is. omega (arith, is, low)), le-leb 32 b low, ne_eqb b 127 (λ is. omega (arith, is, high))) refl

pub are_values : (bytes : List ℕ) → AreFrom 32 bytes → AllPass is_value_byte bytes
are_values [] are = All-nil (λ b. IsTrue (is_value_byte b))
are_values (b ∷ bytes) (low, high, are) = All-cons (λ x. IsTrue (is_value_byte x)) b bytes (value_byte b low high) (are_values bytes are)

uri_byte : (b : ℕ) → 33 ≤ b → b < 127 → is_uri_byte b ≡ true
uri_byte b low high = rw (lt-ltb 32 b (omega (arith, low)), ne_eqb b 127 (λ is. omega (arith, is, high))) refl

pub are_uri : (bytes : List ℕ) → AreFrom 33 bytes → AllPass is_uri_byte bytes
are_uri [] are = All-nil (λ b. IsTrue (is_uri_byte b))
are_uri (b ∷ bytes) (low, high, are) = All-cons (λ x. IsTrue (is_uri_byte x)) b bytes (uri_byte b low high) (are_uri bytes are)

pub all_low : (least : ℕ) (bytes : List ℕ) → AreFrom least bytes → All (λ b. b < 128) bytes
all_low least [] are = All-nil (λ b. b < 128)
all_low least (b ∷ bytes) (low, high, are) = All-cons (λ x. x < 128) b bytes (omega (arith, high)) (all_low least bytes are)

pub are_text : (least : ℕ) (bytes : List ℕ) → AreFrom least bytes → IsUtf8 bytes
are_text least bytes are = IsUtf8-from_ascii bytes (IsAscii-from_all bytes (all_low least bytes are))

-- ---- digits

pub are_digits : (bytes : List ℕ) → AllDigits 10 bytes → AreFrom 33 bytes
are_digits [] are = tt
are_digits (b ∷ bytes) (digit, are) = let range = digit_from_value b digit in (omega (arith, range.0), omega (arith, range.1), are_digits bytes are)

abbrev IsHexByte : ℕ → Type 0
IsHexByte b = (33 ≤ b) × (b < 127)

at_each : (bytes : List ℕ) → AllByRecursion IsHexByte bytes → (i : ℕ) → i < length bytes → IsHexByte (slice_index bytes i)
at_each [] are i within = absurd (omega arith)
at_each (byte ∷ bytes) are zero within = are.0
at_each (byte ∷ bytes) are (suc i) within = at_each bytes are.1 i (omega arith)

table : AllByRecursion IsHexByte lower_digits
table = (
  (omega arith, omega arith),
  (
    (omega arith, omega arith),
    (
      (omega arith, omega arith),
      (
        (omega arith, omega arith),
        (
          (omega arith, omega arith),
          (
            (omega arith, omega arith),
            (
              (omega arith, omega arith),
              (
                (omega arith, omega arith),
                (
                  (omega arith, omega arith),
                  (
                    (omega arith, omega arith),
                    (
                      (omega arith, omega arith),
                      (
                        (omega arith, omega arith),
                        ((omega arith, omega arith), ((omega arith, omega arith), ((omega arith, omega arith), ((omega arith, omega arith), tt)))),
                      ),
                    ),
                  ),
                ),
              ),
            ),
          ),
        ),
      ),
    ),
  ),
)

digit : (i : ℕ) → i < 16 → IsHexByte (slice_index lower_digits i)
digit i low = at_each lower_digits table i low

abbrev AreBytes : List ℕ → Type 0
AreBytes bytes = AllByRecursion (λ byte. byte < 256) bytes

hex_seen : (bytes : List ℕ) → AreBytes bytes → AreFrom 33 (encode_lower bytes)
unfolding encode_with
hex_seen [] are = tt
hex_seen (byte ∷ bytes) are =
    let high = digit (byte / 16) (omega (arith, are.0)) in
    let low = digit (byte % 16) (omega arith) in
    (high.0, high.1, (low.0, low.1, hex_seen bytes are.1))

byte_low : (k n : ℕ) → byte_at k n < 256
byte_low zero n = omega arith
byte_low (suc k) n = omega arith

are_bytes : (k n : ℕ) → AreBytes (bytes_high_first k n)
are_bytes zero n = tt
are_bytes (suc k) n = (byte_low k n, are_bytes k n)

-- the sixteen digits of a date
pub next_seen : (date : ℕ) → AreFrom 33 (next_text date)
next_seen date = hex_seen (to_be_bytes w64 date) (are_bytes 8 date)
