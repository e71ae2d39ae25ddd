-- A text is the UUID of one number, in digits of either case, exactly where the reader of the hyphenated
-- form gives that number.
use Rattle.std.proofs.Common.{◌≡◌, ℕ, zero, suc, ◌+◌, ◌*◌, ◌/◌, ◌%◌, ◌^◌, ◌<◌, ⊎_elim, Bool, true, false, ◌==◌, ◌&&◌, if◌then◌else◌, Option, Some, None, List, [], ◌∷◌, length, get_or, slice_index, All, refl, sym, ap, ◌∙◌, subst, arith, unwrap_or}
use Rattle.std.proofs.lemmas.Bool.{cases_lt, cases_Bool, and_parts}
use Rattle.std.proofs.lemmas.Bool.Decides.{nat_tests}
use Rattle.std.proofs.lemmas.List.{length-map, get_or-map, get_or_default, same_lists}
use Rattle.std.specs.Char.{to_ascii_lowercase}
use Rattle.std.specs.Int.{from_be_bytes, to_be_bytes, w128}
use Rattle.std.specs.List.{list_all}
use Rattle.std.specs.Str.{str_to_ascii_lowercase}
use Rattle.uuid.specs.Text.{lower, hex_digit, nibble, hyphenated_text, digit_place, is_hyphen_place, hyphen_place, is_hex_digit, value_of, byte_of_digits, digits_of, has_hyphens, parsed_simple, parsed_hyphenated, parsed, by_index}
use Rattle.uuid.proofs.TextLemmas.{by_index_length, by_index_at, nibble_small, nibble_even, nibble_odd, simple_some, hyphens_pass}
use Rattle.uuid.proofs.OrderLemmas.{from_be_bytes-to_be_bytes_16}
use Rattle.stix_ids.specs.Uuid.{IsUuidOf, uuid_text}
use Rattle.stix_ids.proofs.ByteLemmas.{to_be_bytes-from_be_bytes_16, from_be_bytes-below, to_be_bytes_all}

-- digits in lower case

digit_stays : (d : ℕ) → d < 16 → to_ascii_lowercase (hex_digit 97 d) ≡ hex_digit 97 d
digit_stays d small = grind (arith, nat_tests)

place_stays : (b : Bool) (d : ℕ) → d < 16 → to_ascii_lowercase (if b then 45 else hex_digit 97 d) ≡ (if b then 45 else hex_digit 97 d)
place_stays true d small = refl
place_stays false d small = digit_stays d small

digit_lowered : (c : ℕ) → is_hex_digit c ≡ true → to_ascii_lowercase c ≡ hex_digit 97 (value_of c)
digit_lowered c digit = grind (arith, nat_tests)

digit_from_lowered : (c d : ℕ) → d < 16 → to_ascii_lowercase c ≡ hex_digit 97 d → (is_hex_digit c ≡ true) × (value_of c ≡ d)
digit_from_lowered c d small e = (grind (arith, nat_tests), grind (arith, nat_tests))

hyphen_from_lowered : (c : ℕ) → to_ascii_lowercase c ≡ 45 → c ≡ 45
hyphen_from_lowered c e = grind (arith, nat_tests)

value_small : (c : ℕ) → is_hex_digit c ≡ true → value_of c < 16
value_small c digit = grind (arith, nat_tests)

-- what stands at a place of the hyphenated form
abbrev form_at : List ℕ → ℕ → ℕ
form_at bytes k = if is_hyphen_place k then 45 else hex_digit 97 (nibble bytes (digit_place k))

form_is : (bytes : List ℕ) (k d : ℕ) → k < 36 → get_or (hyphenated_text lower bytes) k d ≡ form_at bytes k
form_is bytes k d l = by_index_at 36 (form_at bytes) k d l

lowered_at : (s : List ℕ) (k d : ℕ) → k < length s → get_or (str_to_ascii_lowercase s) k d ≡ to_ascii_lowercase (get_or s k 0)
lowered_at s k d l = get_or-map to_ascii_lowercase s k 0 d l

-- a text whose bytes are those of the form in lower case
lowered_by_place : (s bytes : List ℕ) → length s ≡ 36 → ((k : ℕ) → k < 36 → to_ascii_lowercase (get_or s k 0) ≡ form_at bytes k) → str_to_ascii_lowercase s ≡ hyphenated_text lower bytes
lowered_by_place s bytes long at =
    let size : length (str_to_ascii_lowercase s) ≡ 36 = length-map s to_ascii_lowercase ∙ long in
    same_lists (str_to_ascii_lowercase s) (hyphenated_text lower bytes) (size ∙ sym (by_index_length 36 (form_at bytes)))
    (λ k d l. lowered_at s k d (omega arith) ∙ at k (omega arith) ∙ sym (form_is bytes k d (omega arith)))

-- the lower-case form is its own
text_stays : (bytes : List ℕ) → str_to_ascii_lowercase (hyphenated_text lower bytes) ≡ hyphenated_text lower bytes
text_stays bytes =
    lowered_by_place (hyphenated_text lower bytes) bytes (by_index_length 36 (form_at bytes))
    (λ k l. ap to_ascii_lowercase (form_is bytes k 0 l) ∙ place_stays (is_hyphen_place k) (nibble bytes (digit_place k)) (nibble_small bytes (digit_place k)))

-- what is read from a text
record IsRead (s bytes : List ℕ) : Type 0 where
  hyphens : has_hyphens s ≡ true
  digits : (i : ℕ) → i < 32 → is_hex_digit (get_or s (hyphen_place i) 0) ≡ true
  value : bytes ≡ by_index 16 (byte_of_digits (digits_of s))

if_some : {A : Type 0} (b : Bool) (o : Option A) (x : A) → (if b then o else None) ≡ Some x → (b ≡ true) × (o ≡ Some x)
if_some true o x e = (refl, e)
if_some false o x e = let bad : None ≡ Some x = e in cc

same_some : {A : Type 0} (x y : A) → Some x ≡ Some y → x ≡ y
same_some x y e = ap (λ o. unwrap_or o x) e

all_at : (p : ℕ → Bool) (xs : List ℕ) (k : ℕ) → k < length xs → list_all p xs ≡ true → p (get_or xs k 0) ≡ true
all_at p [] k l all = absurd (omega arith)
all_at p (x ∷ xs) zero l all = (and_parts (p x) (list_all p xs) all).0
all_at p (x ∷ xs) (suc k) l all = all_at p xs k (omega arith) (and_parts (p x) (list_all p xs) all).1

digits_at : (s : List ℕ) (i d : ℕ) → i < 32 → get_or (digits_of s) i d ≡ get_or s (hyphen_place i) 0
digits_at s i d l = by_index_at 32 (λ j. slice_index s (hyphen_place j)) i d l

read_parts : (s bytes : List ℕ) → parsed_hyphenated s ≡ Some bytes → IsRead s bytes
read_parts s bytes e =
    let hex = digits_of s in
    let outer = if_some ((length s == 36) && has_hyphens s) (parsed_simple hex) bytes e in
    let inner = if_some ((length hex == 32) && list_all is_hex_digit hex) (Some (by_index 16 (byte_of_digits hex))) bytes outer.1 in
    let all = (and_parts (length hex == 32) (list_all is_hex_digit hex) inner.0).1 in
    record {
      hyphens = (and_parts (length s == 36) (has_hyphens s) outer.0).1;
      digits = λ i l. ap is_hex_digit (sym (digits_at s i 0 l)) ∙ all_at is_hex_digit hex i (rw (by_index_length 32 (λ j. slice_index s (hyphen_place j))) l) all;
      value = same_some bytes (by_index 16 (byte_of_digits hex)) (sym inner.1);
    }

-- its bytes, and the halves of these
byte_read : (s bytes : List ℕ) → IsRead s bytes → (j d : ℕ) → j < 16 → get_or bytes j d ≡ value_of (get_or s (hyphen_place (2 * j)) 0) * 16 + value_of (get_or s (hyphen_place (2 * j + 1)) 0)
byte_read s bytes r j d l =
    let hex = digits_of s in
    ap (λ bs. get_or bs j d) r.value ∙ by_index_at 16 (byte_of_digits hex) j d l
    ∙ ap (λ c. value_of c * 16 + value_of (slice_index hex (2 * j + 1))) (digits_at s (2 * j) 0 (omega arith))
    ∙ ap (λ c. value_of (get_or s (hyphen_place (2 * j)) 0) * 16 + value_of c) (digits_at s (2 * j + 1) 0 (omega arith))

halves : (b high low : ℕ) → b ≡ high * 16 + low → high < 16 → low < 16 → (b / 16 % 16 ≡ high) × (b % 16 ≡ low)
halves b high low e h l = (omega arith, omega arith)

half_read : (s bytes : List ℕ) → IsRead s bytes → (i : ℕ) → i < 32 → nibble bytes i ≡ value_of (get_or s (hyphen_place i) 0)
half_read s bytes r i l =
    let j = i / 2 in
    let within : j < 16 = omega arith in
    let high = value_of (get_or s (hyphen_place (2 * j)) 0) in
    let low = value_of (get_or s (hyphen_place (2 * j + 1)) 0) in
    let high_small = value_small (get_or s (hyphen_place (2 * j)) 0) (r.digits (2 * j) (omega arith)) in
    let low_small = value_small (get_or s (hyphen_place (2 * j + 1)) 0) (r.digits (2 * j + 1) (omega arith)) in
    let both = halves (slice_index bytes j) high low (byte_read s bytes r j 0 within) high_small low_small in
    ⊎_elim
    (λ even. let is : 2 * j ≡ i = omega arith in
    let P : ℕ → Type 0 = λ k. nibble bytes k ≡ value_of (get_or s (hyphen_place k) 0) in
    subst P is (nibble_even bytes j ∙ both.0))
    (λ odd. let is : 2 * j + 1 ≡ i = omega arith in
    let P : ℕ → Type 0 = λ k. nibble bytes k ≡ value_of (get_or s (hyphen_place k) 0) in
    subst P is (nibble_odd bytes j ∙ both.1))
    (cases_lt (i % 2) 1)

-- a text that is read is the form in lower case, once its letters are
hyphen_there : (s : List ℕ) (k : ℕ) → has_hyphens s ≡ true → is_hyphen_place k ≡ true → get_or s k 0 ≡ 45
hyphen_there s k there here = grind (arith, nat_tests)

form_by : (bytes : List ℕ) (k : ℕ) (b : Bool) → is_hyphen_place k ≡ b → form_at bytes k ≡ (if b then 45 else hex_digit 97 (nibble bytes (digit_place k)))
form_by bytes k b e = ap (λ v. if v then 45 else hex_digit 97 (nibble bytes (digit_place k))) e

place_read : (s bytes : List ℕ) → IsRead s bytes → (k : ℕ) → k < 36 → to_ascii_lowercase (get_or s k 0) ≡ form_at bytes k
place_read s bytes r k l = ⊎_elim
    (λ here. ap to_ascii_lowercase (hyphen_there s k r.hyphens here) ∙ sym (form_by bytes k true here))
    (λ digit.
    let i = digit_place k in
    let within : i < 32 = grind (arith, nat_tests) in
    let back : hyphen_place i ≡ k = grind (arith, nat_tests) in
    let P : ℕ → Type 0 = λ p. (is_hex_digit (get_or s p 0) ≡ true) × (nibble bytes i ≡ value_of (get_or s p 0)) in
    let both = subst P back (r.digits i within, half_read s bytes r i within) in
    digit_lowered (get_or s k 0) both.0 ∙ ap (hex_digit 97) (sym both.1) ∙ sym (form_by bytes k false digit))
    (cases_Bool (is_hyphen_place k))

read_all : (s bytes : List ℕ) → IsRead s bytes → All (λ b. b < 256) bytes
read_all s bytes r j d l =
    let within : j < 16 = omega (arith, ap length r.value, by_index_length 16 (byte_of_digits (digits_of s))) in
    let high_small = value_small (get_or s (hyphen_place (2 * j)) 0) (r.digits (2 * j) (omega arith)) in
    let low_small = value_small (get_or s (hyphen_place (2 * j + 1)) 0) (r.digits (2 * j + 1) (omega arith)) in
    omega (arith, byte_read s bytes r j d within)

-- 36 bytes are read in hyphenated form alone
at_36 : (s : List ℕ) → length s ≡ 36 → parsed s ≡ parsed_hyphenated s
at_36 s long = rw long refl

-- the number that the reader gives is the text's
pub uuid_from_parsed : (s bytes : List ℕ) → length s ≡ 36 → Some bytes ≡ parsed s → IsUuidOf s (from_be_bytes w128 bytes)
unfolding uuid_text
uuid_from_parsed s bytes long e =
    let r = read_parts s bytes (sym (e ∙ at_36 s long)) in
    let size = ap length r.value ∙ by_index_length 16 (byte_of_digits (digits_of s)) in
    let all = read_all s bytes r in
    record {
      fits = from_be_bytes-below bytes size all;
      spelling = lowered_by_place s bytes long (place_read s bytes r) ∙ ap (hyphenated_text lower) (sym (to_be_bytes-from_be_bytes_16 bytes size all));
    }

-- and a text that is a number's is read
hyphen_place_digit : (bytes : List ℕ) (i : ℕ) → i < 32 → form_at bytes (hyphen_place i) ≡ hex_digit 97 (nibble bytes i)
hyphen_place_digit bytes i l =
    let no_hyphen : is_hyphen_place (hyphen_place i) ≡ false = grind (arith, nat_tests) in
    let back : digit_place (hyphen_place i) ≡ i = grind (arith, nat_tests) in
    rw (no_hyphen, back) refl

parsed_from_places : (s bytes : List ℕ) → length s ≡ 36 → length bytes ≡ 16 → All (λ b. b < 256) bytes → ((k : ℕ) → k < 36 → to_ascii_lowercase (get_or s k 0) ≡ form_at bytes k) → Some bytes ≡ parsed_hyphenated s
parsed_from_places s bytes long size all at =
    let hex = digits_of s in
    let digit = λ (i : ℕ) (l : i < 32). digit_from_lowered (get_or s (hyphen_place i) 0) (nibble bytes i) (nibble_small bytes i) (at (hyphen_place i) (grind (arith, nat_tests)) ∙ hyphen_place_digit bytes i l) in
    let hyphen_8 = hyphen_from_lowered (get_or s 8 0) (at 8 (omega arith)) in
    let hyphen_13 = hyphen_from_lowered (get_or s 13 0) (at 13 (omega arith)) in
    let hyphen_18 = hyphen_from_lowered (get_or s 18 0) (at 18 (omega arith)) in
    let hyphen_23 = hyphen_from_lowered (get_or s 23 0) (at 23 (omega arith)) in
    let hyphens : has_hyphens s ≡ true = rw (hyphen_8, hyphen_13, hyphen_18, hyphen_23) refl in
    let byte = λ (i d : ℕ) (l : i < 16).
    let small : slice_index bytes i < 256 = all i 0 (omega arith) in
    let high = (digit (2 * i) (omega arith)).1 in
    let low = (digit (2 * i + 1) (omega arith)).1 in
    let whole : get_or bytes i 0 ≡ value_of (get_or s (hyphen_place (2 * i)) 0) * 16 + value_of (get_or s (hyphen_place (2 * i + 1)) 0) = rw (high, low, nibble_even bytes i, nibble_odd bytes i) (omega arith) in
    let read : byte_of_digits hex i ≡ value_of (get_or s (hyphen_place (2 * i)) 0) * 16 + value_of (get_or s (hyphen_place (2 * i + 1)) 0) = rw (digits_at s (2 * i) 0 (omega arith), digits_at s (2 * i + 1) 0 (omega arith)) refl in
    let is : get_or bytes i d ≡ byte_of_digits hex i = get_or_default bytes i d 0 (omega arith) ∙ whole ∙ sym read in
    is in
    simple_some hex bytes (by_index_length 32 _) size (λ k l. ap is_hex_digit (digits_at s k 0 l) ∙ (digit k l).0) byte
    ∙ hyphens_pass s long hyphens

pub length-uuid : (s : List ℕ) (n : ℕ) → IsUuidOf s n → length s ≡ 36
unfolding uuid_text
length-uuid s n u = sym (length-map s to_ascii_lowercase) ∙ ap length u.spelling ∙ by_index_length 36 (form_at (to_be_bytes w128 n))

pub parsed_from_uuid : (s : List ℕ) (n : ℕ) → IsUuidOf s n → parsed s ≡ Some (to_be_bytes w128 n)
unfolding uuid_text
parsed_from_uuid s n u =
    let bytes = to_be_bytes w128 n in
    let long = length-uuid s n u in
    let at = λ (k : ℕ) (l : k < 36). sym (lowered_at s k 0 (omega arith)) ∙ ap (λ t. get_or t k 0) u.spelling ∙ form_is bytes k 0 l in
    at_36 s long ∙ sym (parsed_from_places s bytes long refl (to_be_bytes_all 16 n) at)

-- a text is one number's
pub one_number : (s : List ℕ) (n m : ℕ) → IsUuidOf s n → IsUuidOf s m → n ≡ m
one_number s n m u v =
    sym (from_be_bytes-to_be_bytes_16 n u.fits)
    ∙ ap (from_be_bytes w128) (same_some (to_be_bytes w128 n) (to_be_bytes w128 m) (sym (parsed_from_uuid s n u) ∙ parsed_from_uuid s m v))
    ∙ from_be_bytes-to_be_bytes_16 m v.fits

-- the text that is written is its number's
pub uuid_of_text : (n : ℕ) → n < 2 ^ 128 → IsUuidOf (uuid_text n) n
unfolding uuid_text
uuid_of_text n fits = record { fits = fits; spelling = text_stays (to_be_bytes w128 n) }
