-- The body of a page of objects (TAXII 2.1, section 3.7): whether there are more, where the next
-- page begins, and the objects. The rows' bodies are JSON texts already and are joined as they
-- stand. Of the bytes, 44 is `,`.
use Rattle.std.specs.Prelude.{ℕ, List, [], ◌∷◌, ◌++◌, map, codes, Bool, true, false, if◌then◌else◌, Option, None, Some}
use Rattle.std.specs.List.{last_or, join_with_byte}
use Rattle.std.specs.Int.{to_be_bytes, w64}
use Rattle.hex.specs.Hex.{encode_lower}
use Rattle.serde_json.specs.Data.{Data, boolean, string, object, no_members, member}
use Rattle.taxii_rows.specs.declared.stored_row.StoredRow.{StoredRow}
use Rattle.taxii_rows.specs.StoreState.{dates_of}
use Rattle.taxii_bodies.specs.Page.{list_before}

-- where the next page begins: after the date of the last row, where there is more
abbrev pub next_of : List StoredRow → Bool → Option ℕ
next_of rows more = if more then last_or None (dates_of rows) else None

-- a date as sixteen hex digits in lower case
abbrev pub next_text : ℕ → List ℕ
next_text date = encode_lower (to_be_bytes w64 date)

-- {"more":true,"next":".." and {"more":false
abbrev pub head_text : Option ℕ → List ℕ
head_text None = codes "{\"more\":false"
head_text (Some date) = codes "{\"more\":true,\"next\":\"" ++ (next_text date ++ codes "\"")

-- ,"objects":[..] with a comma between each two, and nothing if there is none
abbrev pub objects_text : List (List ℕ) → List ℕ
objects_text [] = []
objects_text (body ∷ bodies) = codes ",\"objects\":[" ++ (join_with_byte 44 (body ∷ bodies) ++ codes "]")

-- the page of these rows, and whether there are more
abbrev pub envelope_text : List StoredRow → Bool → List ℕ
envelope_text rows more = head_text (next_of rows more) ++ (objects_text (map (λ row. row.body) rows) ++ codes "}")

-- the same as a JSON value, of the objects that the rows' bodies are
abbrev pub envelope_data : Option ℕ → List Data → Data
envelope_data None objects = object (member (codes "more") (boolean false) (list_before (codes "objects") objects no_members))
envelope_data (Some date) objects = object
    (member (codes "more") (boolean true)
    (member (codes "next") (string (next_text date))
    (list_before (codes "objects") objects no_members)))
