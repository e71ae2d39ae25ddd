-- The rows of a page, and the values that stand for them.
use Rattle.std.proofs.Common.{◌≡◌, ℕ, ◌+◌, ◌<◌, List, [], ◌∷◌, ◌++◌, length, get_or, take, sym, ap, subst, ◌∙◌, arith, Bor}
use Rattle.std.specs.Prelude.{All, Bool, map, codes}
use Rattle.std.specs.List.{AllZip}
use Rattle.std.specs.Ordering.{nat_cmp}
use Rattle.std.specs.declared.cmp.Ordering.TheVariants.{Less}
use Rattle.std.specs.Cmp.Lexicographic.{slice_cmp}
use Rattle.std.proofs.lemmas.List.{map_more, get_or-map, length-map, map-append}
use Rattle.std.proofs.lemmas.Slice.Zip.{all_zipped_more}
use Rattle.serde_json.specs.Data.{Data}
use Rattle.serde_json.specs.View.{items_of}
use Rattle.stix_json.specs.declared.value.Json.{Json}
use Rattle.stix_json.specs.DataOf.{data_of}
use Rattle.stix_json.specs.Ordered.{IsOrdered, ItemsAreOrdered}
use Rattle.taxii_rows.specs.declared.stored_row.StoredRow.{StoredRow}
use Rattle.taxii_bodies.specs.Page.{page_data}

abbrev pub rows_in : List (Bor StoredRow) → List StoredRow
rows_in rows = map (λ row. row.now) rows

-- what holds of each row holds of the one at a position
pub row_at : (Rule : StoredRow → Type 0) (rows : List (Bor StoredRow)) (i : ℕ) (row : Bor StoredRow) → All Rule (rows_in rows) → i < length rows
    → row ≡ get_or rows i row → Rule row.now
row_at Rule rows i row all below is =
    let now = λ (one : Bor StoredRow). one.now in
    let there : i < length (rows_in rows) = omega (arith, length-map rows now) in
    let same : get_or (rows_in rows) i row.now ≡ row.now = get_or-map now rows i row row.now below ∙ ap now (sym is) in
    subst Rule same (all i row.now there)

-- one row and one value more
pub next_value : (R : StoredRow → Data → Type 0) (rows : List (Bor StoredRow)) (i : ℕ) (row : Bor StoredRow) (values : List Json) (value : Json)
    → i < length rows → row ≡ get_or rows i row → AllZip R (rows_in (take i rows)) (map data_of values) → R row.now (data_of value)
    → AllZip R (rows_in (take (i + 1) rows)) (map data_of (values ++ value ∷ []))
next_value R rows i row values value below is so_far holds =
    let now = λ (one : Bor StoredRow). one.now in
    let longer : rows_in (take (i + 1) rows) ≡ rows_in (take i rows) ++ row.now ∷ [] =
    map_more now rows i row below ∙ ap (λ (x : StoredRow). rows_in (take i rows) ++ x ∷ []) (ap now (sym is)) in
    let more = all_zipped_more R (rows_in (take i rows)) (map data_of values) row.now (data_of value) so_far holds in
    subst (λ (xs : List StoredRow). AllZip R xs (map data_of (values ++ value ∷ []))) (sym longer)
    (subst (λ (ys : List Data). AllZip R (rows_in (take i rows) ++ row.now ∷ []) ys) (sym (map-append data_of values (value ∷ []))) more)

-- ---- the order of names

pub each_ordered : {X : Type 0} (R : X → Data → Type 0) → ((x : X) (value : Data) → R x value → IsOrdered value) → (xs : List X) (values : List Data)
    → AllZip R xs values → ItemsAreOrdered (items_of values)
each_ordered R one [] [] zip = tt
each_ordered R one [] (value ∷ values) zip = absurd zip
each_ordered R one (x ∷ xs) [] zip = absurd zip
each_ordered R one (x ∷ xs) (value ∷ values) zip = (one x value zip.0, each_ordered R one xs values zip.1)

pub page_ordered : (more : Bool) (name : List ℕ) (values : List Data) → slice_cmp nat_cmp (codes "more") name ≡ Less → ItemsAreOrdered (items_of values)
    → IsOrdered (page_data more name values)
page_ordered more name [] less ordered = (tt, tt, tt)
page_ordered more name (value ∷ values) less ordered = (less, tt, (tt, ordered, tt))
