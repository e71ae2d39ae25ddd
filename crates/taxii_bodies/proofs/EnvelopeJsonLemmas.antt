-- The text of an envelope is the compact text of a JSON value, whose objects are those of the rows.
use Rattle.std.proofs.Common.{◌≡◌, ℕ, zero, suc, ◌/◌, ◌%◌, ◌<◌, Bool, false, List, [], ◌∷◌, ◌++◌, length, refl, sym, ap, ◌∙◌, arith, append_assoc, Option, Some, None}
use Rattle.std.specs.Prelude.{map, codes, slice_index}
use Rattle.std.specs.List.{AllZip, AllByRecursion, join_with_byte}
use Rattle.std.specs.Int.{bytes_high_first, byte_at, to_be_bytes, w64}
use Rattle.hex.specs.Hex.{lower_digits, encode_with, encode_lower}
use Rattle.json.specs.Print.{escape_byte, escape}
use Rattle.serde_json.specs.Data.{Data, item}
use Rattle.serde_json.specs.View.{items_of}
use Rattle.serde_json.specs.Written.{compact_text, items_text}
use Rattle.taxii_rows.specs.declared.stored_row.StoredRow.{StoredRow}
use Rattle.taxii_rows.specs.SoundRow.{IsRowOf}
use Rattle.taxii_bodies.specs.Envelope.{next_of, next_text, head_text, objects_text, envelope_text, envelope_data}

-- ---- a date's digits stand in JSON as they are

abbrev IsPlain : ℕ → Type 0
IsPlain byte = escape_byte byte ≡ byte ∷ []

at_each : (bytes : List ℕ) → AllByRecursion IsPlain bytes → (i : ℕ) → i < length bytes → IsPlain (slice_index bytes i)
at_each [] are i within = absurd (omega arith)
at_each (byte ∷ bytes) are zero within = are.0
at_each (byte ∷ bytes) are (suc i) within = at_each bytes are.1 i (omega arith)

digits_plain : AllByRecursion IsPlain lower_digits
unfolding escape_byte
digits_plain = (refl, (refl, (refl, (refl, (refl, (refl, (refl, (refl, (refl, (refl, (refl, (refl, (refl, (refl, (refl, (refl, tt))))))))))))))))

digit_plain : (i : ℕ) → i < 16 → IsPlain (slice_index lower_digits i)
digit_plain i low = at_each lower_digits digits_plain i low

-- bytes are below 256
abbrev pub AreBytes : List ℕ → Type 0
AreBytes bytes = AllByRecursion (λ byte. byte < 256) bytes

hex_plain : (bytes : List ℕ) → AreBytes bytes → escape (encode_lower bytes) ≡ encode_lower bytes
unfolding encode_with
hex_plain [] are = refl
hex_plain (byte ∷ bytes) are =
    let high = slice_index lower_digits (byte / 16) in
    let low = slice_index lower_digits (byte % 16) in
    let rest = escape (encode_lower bytes) in
    ap (λ (x : List ℕ). x ++ (escape_byte low ++ rest)) (digit_plain (byte / 16) (omega (arith, are.0)))
    ∙ ap (λ (x : List ℕ). high ∷ (x ++ rest)) (digit_plain (byte % 16) (omega arith))
    ∙ ap (λ (x : List ℕ). high ∷ low ∷ x) (hex_plain bytes are.1)

byte_low : (k n : ℕ) → byte_at k n < 256
byte_low zero n = omega arith
byte_low (suc k) n = omega arith

pub are_bytes : (k n : ℕ) → AreBytes (bytes_high_first k n)
are_bytes zero n = tt
are_bytes (suc k) n = (byte_low k n, are_bytes k n)

next_plain : (date : ℕ) → escape (next_text date) ≡ next_text date
next_plain date = hex_plain (to_be_bytes w64 date) (are_bytes 8 date)

-- ---- the objects

items_joined : (first : Data) (others : List Data)
    → items_text false (item first (items_of others)) ≡ join_with_byte 44 (compact_text first ∷ map compact_text others) ++ 93 ∷ []
items_joined first [] = refl
items_joined first (other ∷ others) =
    ap (λ (x : List ℕ). compact_text first ++ 44 ∷ x) (items_joined other others)
    ∙ sym (append_assoc (compact_text first) (44 ∷ join_with_byte 44 (compact_text other ∷ map compact_text others)) (93 ∷ []))

-- ---- the whole text

whole : (next : Option ℕ) (objects : List Data)
    → head_text next ++ (objects_text (map compact_text objects) ++ codes "}") ≡ compact_text (envelope_data next objects)
unfolding escape_byte
whole None [] = refl
whole None (first ∷ others) =
    ap (λ (x : List ℕ). codes "{\"more\":false,\"objects\":[" ++ (x ++ codes "}")) (sym (items_joined first others))
whole (Some date) [] =
    append_assoc (codes "{\"more\":true,\"next\":\"") (next_text date ++ codes "\"") (codes "}")
    ∙ ap (λ (x : List ℕ). codes "{\"more\":true,\"next\":\"" ++ x) (append_assoc (next_text date) (codes "\"") (codes "}"))
    ∙ ap (λ (x : List ℕ). codes "{\"more\":true,\"next\":\"" ++ (x ++ codes "\"}")) (sym (next_plain date))
    ∙ ap (λ (x : List ℕ). codes "{\"more\":true,\"next\":\"" ++ x) (sym (append_assoc (escape (next_text date)) (codes "\"") (codes "}")))
whole (Some date) (first ∷ others) =
    let tail = codes ",\"objects\":[" ++ ((join_with_byte 44 (compact_text first ∷ map compact_text others) ++ codes "]") ++ codes "}") in
    append_assoc (codes "{\"more\":true,\"next\":\"") (next_text date ++ codes "\"") tail
    ∙ ap (λ (x : List ℕ). codes "{\"more\":true,\"next\":\"" ++ x) (append_assoc (next_text date) (codes "\"") tail)
    ∙ ap (λ (x : List ℕ). codes "{\"more\":true,\"next\":\"" ++ (x ++ (codes "\"" ++ tail))) (sym (next_plain date))
    ∙ ap (λ (x : List ℕ). codes "{\"more\":true,\"next\":\"" ++ x) (sym (append_assoc (escape (next_text date)) (codes "\"") tail))
    ∙ ap (λ (x : List ℕ). codes "{\"more\":true,\"next\":\"" ++ ((escape (next_text date) ++ codes "\"") ++ (codes ",\"objects\":[" ++ (x ++ codes "}")))) (sym (items_joined first others))

bodies_are : (rows : List StoredRow) (objects : List Data) → AllZip IsRowOf rows objects → map (λ row. row.body) rows ≡ map compact_text objects
bodies_are [] [] zip = refl
bodies_are [] (one ∷ objects) zip = absurd zip
bodies_are (row ∷ rows) [] zip = absurd zip
bodies_are (row ∷ rows) (one ∷ objects) zip =
    ap (λ (x : List ℕ). x ∷ map (λ row. row.body) rows) zip.0.compact ∙ ap (λ (x : List (List ℕ)). compact_text one ∷ x) (bodies_are rows objects zip.1)

pub envelope_is : (rows : List StoredRow) (more : Bool) (objects : List Data) → AllZip IsRowOf rows objects
    → envelope_text rows more ≡ compact_text (envelope_data (next_of rows more) objects)
envelope_is rows more objects zip =
    ap (λ (x : List (List ℕ)). head_text (next_of rows more) ++ (objects_text x ++ codes "}")) (bodies_are rows objects zip)
    ∙ whole (next_of rows more) objects
