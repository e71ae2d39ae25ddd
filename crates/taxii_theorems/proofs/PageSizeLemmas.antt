-- The bytes of a page of objects: what its rows take, and a little more.
use Rattle.std.proofs.Common.{◌≡◌, ◌⊎◌, inl, inr, ℕ, ◌+◌, ◌≤◌, List, [], ◌∷◌, ◌++◌, length, map, codes, Bool, Option, Some, None, refl, arith, length-append}
use Rattle.std.specs.List.{join_with_byte}
use Rattle.hex.specs.Hex.{encode_with}
use Rattle.stix_ids.specs.declared.id.Id.{Id}
use Rattle.taxii_routes.specs.declared.query.Query.{Query}
use Rattle.taxii_rows.specs.declared.stored_row.StoredRow.{StoredRow}
use Rattle.taxii_bodies.specs.Envelope.{next_of, next_text, head_text, objects_text, envelope_text}
use Rattle.taxii_store.specs.Page.{IsPage, page_bytes}

abbrev bodies_of : List StoredRow → List (List ℕ)
bodies_of rows = map (λ row. row.body) rows

joined_short : (row : StoredRow) (rows : List StoredRow) → length (join_with_byte 44 (bodies_of (row ∷ rows))) ≤ page_bytes (row ∷ rows)
joined_short row [] = omega arith
joined_short row (other ∷ rows) =
    let rest = joined_short other rows in
    let long = length-append row.body (44 ∷ join_with_byte 44 (bodies_of (other ∷ rows))) in
    omega (arith, rest, long)

objects_short : (rows : List StoredRow) → length (objects_text (bodies_of rows)) ≤ page_bytes rows + 13
objects_short [] = omega arith
objects_short (row ∷ rows) =
    let joined = join_with_byte 44 (bodies_of (row ∷ rows)) in
    let short = joined_short row rows in
    let inner = length-append joined (codes "]") in
    let outer = length-append (codes ",\"objects\":[") (joined ++ codes "]") in
    omega (arith, short, inner, outer)

sixteen : (date : ℕ) → length (next_text date) ≡ 16
unfolding encode_with
sixteen date = refl

head_short : (next : Option ℕ) → length (head_text next) ≤ 38
head_short None = omega arith
head_short (Some date) =
    let inner = length-append (next_text date) (codes "\"") in
    let outer = length-append (codes "{\"more\":true,\"next\":\"") (next_text date ++ codes "\"") in
    omega (arith, sixteen date, inner, outer)

envelope_short : (rows : List StoredRow) (more : Bool) → length (envelope_text rows more) ≤ page_bytes rows + 52
envelope_short rows more =
    let objects = objects_text (bodies_of rows) in
    let inner = length-append objects (codes "}") in
    let outer = length-append (head_text (next_of rows more)) (objects ++ codes "}") in
    omega (arith, head_short (next_of rows more), objects_short rows, inner, outer)

pub page_bounded : (rows : List StoredRow) (collection : ℕ) (only : Option Id) (query : Query) (page : List StoredRow) (more : Bool)
    → IsPage rows collection only query page more → (length page ≤ 1) ⊎ (length (envelope_text page more) ≤ 67108864)
page_bounded rows collection only query page more its = elim its.fits.1 [
  | inl one ↦ inl one
  | inr short ↦ inr (omega (arith, short, envelope_short page more))
]
