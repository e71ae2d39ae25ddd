-- The sixteen digits of a date read as that date.
use Rattle.std.proofs.Common.{◌≡◌, ℕ, zero, suc, ◌+◌, ◌*◌, ◌/◌, ◌%◌, ◌^◌, ◌<◌, List, [], ◌∷◌, length, refl, sym, ap, ◌∙◌, subst, arith, inl, inr}
use Rattle.std.specs.Prelude.{All, slice_index}
use Rattle.std.specs.Char.{digit_value}
use Rattle.std.specs.Int.{to_be_bytes, from_be_bytes, w64}
use Rattle.std.specs.Str.Parse.{digits_value, digits_value_after}
use Rattle.std.proofs.lemmas.List.Elements.{All-cons, All-nil}
use Rattle.std.proofs.lemmas.Nat.{from_be_bytes-to_be_bytes_8}
use Rattle.hex.specs.Hex.{lower_digits, encode_with, encode_lower}
use Rattle.hex.proofs.HexLemmas.{length-encode_with}
use Rattle.taxii_routes.specs.Value.{IsHexDigit, IsNextCursor}
use Rattle.taxii_bodies.specs.Envelope.{next_text}
use Rattle.taxii_bodies.proofs.EnvelopeJsonLemmas.{AreBytes, are_bytes}

-- ---- the table of digits

abbrev Represents : ℕ → ℕ → Type 0
Represents digit n = IsHexDigit digit × (digit_value digit ≡ n)

-- the digits stand for the numbers from this one on
abbrev Count : ℕ → List ℕ → Type 0
Count n [] = Unit {0}
Count n (digit ∷ digits) = Represents digit n × Count (n + 1) digits

count_at : (digits : List ℕ) (n : ℕ) → Count n digits → (i : ℕ) → i < length digits → Represents (slice_index digits i) (n + i)
count_at [] n count i within = absurd (omega arith)
count_at (digit ∷ digits) n count zero within = let same : n ≡ n + 0 = omega arith in subst (λ (k : ℕ). Represents digit k) same count.0
count_at (digit ∷ digits) n count (suc i) within =
    let same : n + 1 + i ≡ n + suc i = omega arith in
    subst (λ (k : ℕ). Represents (slice_index digits i) k) same (count_at digits (n + 1) count.1 i (omega arith))

table_counts : Count 0 lower_digits
table_counts = ((inl (omega arith, omega arith), refl), ((inl (omega arith, omega arith), refl), ((inl (omega arith, omega arith), refl), ((inl (omega arith, omega arith), refl), ((inl (omega arith, omega arith), refl), ((inl (omega arith, omega arith), refl), ((inl (omega arith, omega arith), refl), ((inl (omega arith, omega arith), refl), ((inl (omega arith, omega arith), refl), ((inl (omega arith, omega arith), refl), ((inr (omega arith, omega arith), refl), ((inr (omega arith, omega arith), refl), ((inr (omega arith, omega arith), refl), ((inr (omega arith, omega arith), refl), ((inr (omega arith, omega arith), refl), ((inr (omega arith, omega arith), refl), tt))))))))))))))))

digit_at : (i : ℕ) → i < 16 → Represents (slice_index lower_digits i) i
digit_at i low =
    let same : 0 + i ≡ i = omega arith in
    subst (λ (k : ℕ). Represents (slice_index lower_digits i) k) same (count_at lower_digits 0 table_counts i low)

-- ---- the digits of bytes

hex_digits : (bytes : List ℕ) → AreBytes bytes → All IsHexDigit (encode_lower bytes)
unfolding encode_with
hex_digits [] are = All-nil IsHexDigit
hex_digits (byte ∷ bytes) are =
    let low = slice_index lower_digits (byte % 16) in
    All-cons IsHexDigit (slice_index lower_digits (byte / 16)) (low ∷ encode_lower bytes) (digit_at (byte / 16) (omega (arith, are.0))).0
    (All-cons IsHexDigit low (encode_lower bytes) (digit_at (byte % 16) (omega arith)).0 (hex_digits bytes are.1))

-- the number that bytes make after another one
abbrev behind : ℕ → List ℕ → ℕ
behind n [] = n
behind n (byte ∷ bytes) = behind (n * 256 + byte) bytes

hex_value : (n : ℕ) (bytes : List ℕ) → AreBytes bytes → digits_value_after 16 n (encode_lower bytes) ≡ behind n bytes
unfolding encode_with
hex_value n [] are = refl
hex_value n (byte ∷ bytes) are =
    let high = slice_index lower_digits (byte / 16) in
    let low = slice_index lower_digits (byte % 16) in
    let high_is : digit_value high ≡ byte / 16 = (digit_at (byte / 16) (omega (arith, are.0))).1 in
    let low_is : digit_value low ≡ byte % 16 = (digit_at (byte % 16) (omega arith)).1 in
    let pair : (n * 16 + byte / 16) * 16 + byte % 16 ≡ n * 256 + byte = omega arith in
    let both : (n * 16 + digit_value high) * 16 + digit_value low ≡ n * 256 + byte =
    ap (λ (k : ℕ). (n * 16 + k) * 16 + digit_value low) high_is ∙ ap (λ (k : ℕ). (n * 16 + byte / 16) * 16 + k) low_is ∙ pair in
    ap (λ (k : ℕ). digits_value_after 16 k (encode_lower bytes)) both ∙ hex_value (n * 256 + byte) bytes are.1

eight : (a b c d e f g h : ℕ)
    → behind 0 (a ∷ b ∷ c ∷ d ∷ e ∷ f ∷ g ∷ h ∷ []) ≡ from_be_bytes w64 (a ∷ b ∷ c ∷ d ∷ e ∷ f ∷ g ∷ h ∷ [])
eight a b c d e f g h = omega arith

-- ---- the date

next_number : (date : ℕ) → date < 2 ^ 64 → date ≡ digits_value 16 (next_text date)
next_number date small =
    sym (hex_value 0 (to_be_bytes w64 date) (are_bytes 8 date) ∙ eight _ _ _ _ _ _ _ _ ∙ from_be_bytes-to_be_bytes_8 date small)

pub next_reads : (date : ℕ) → date < 2 ^ 64 → IsNextCursor (next_text date) date
next_reads date small = record {
  digits = hex_digits (to_be_bytes w64 date) (are_bytes 8 date);
  long = length-encode_with lower_digits (to_be_bytes w64 date);
  number = next_number date small;
}
