-- When lists, and the values that are made of them, are the same.
use Rattle.std.proofs.Common.{rules, Bool, IsTrue, ◌↔◌, ◌≡◌, ◌<◌, ℕ, List, [], ◌∷◌, length, map, slice_get, slice_index_or, Option, Some, option_map, sym, ap, refl, ◌∙◌}
use Rattle.std.proofs.lemmas.Option.{slice_get-map, slice_get_read}
use Rattle.serde_json.specs.Data.{Data, array, object}
use Rattle.serde_json.specs.View.{items_of}
use Rattle.stix_json.specs.declared.value.Json.{Json, the_lemmas}
use Rattle.stix_json.specs.declared.value.Json.TheVariants as json
use Rattle.stix_json.specs.declared.value.Field.{Field}
use Rattle.stix_json.specs.DataOf.{Member, members_of, data_of, field_data}
use Rattle.stix_versions.proofs.VersionLemmas.{one_some}
use Rattle.stix_versions.proofs.ItemsLemmas.{data_of-Array}

read_at : {A : Type 0} (xs : List A) (at : ℕ) (x : A) → at < length xs → x ≡ slice_index_or xs at x → slice_get xs at ≡ Some x
read_at xs at x inside is = slice_get_read xs (length xs) at x refl inside is

-- the same lists have the same items
pub same_item : {A B : Type 0} (f : A → B) (xs ys : List A) (at : ℕ) (x y : A) → at < length xs → at < length ys → x ≡ slice_index_or xs at x
    → y ≡ slice_index_or ys at y → map f xs ≡ map f ys → f x ≡ f y
same_item {A} {B} f xs ys at x y inside within is also same =
    one_some (f x) (f y)
    (sym (slice_get-map f xs at ∙ ap (λ (o : Option A). option_map f o) (read_at xs at x inside is))
    ∙ ap (λ (zs : List B). slice_get zs at) same
    ∙ (slice_get-map f ys at ∙ ap (λ (o : Option A). option_map f o) (read_at ys at y within also)))

one_items : (xs ys : List Data) → items_of xs ≡ items_of ys → xs ≡ ys
one_items [] [] is = refl
one_items [] (y ∷ ys) is = absurd cc
one_items (x ∷ xs) [] is = absurd cc
one_items (x ∷ xs) (y ∷ ys) is =
    let rest : items_of xs ≡ items_of ys = cc in
    let same : xs ≡ ys = one_items xs ys rest in
    let head : x ≡ y = cc in cc

one_members : (xs ys : List Member) → members_of xs ≡ members_of ys → xs ≡ ys
one_members [] [] is = refl
one_members [] (y ∷ ys) is = absurd cc
one_members (x ∷ xs) [] is = absurd cc
one_members (x ∷ xs) (y ∷ ys) is =
    let rest : members_of xs ≡ members_of ys = cc in
    let same : xs ≡ ys = one_members xs ys rest in
    let name : x.name ≡ y.name = cc in
    let value : x.value ≡ y.value = cc in
    let head : x ≡ y = ap (λ n. record { name = n; value = x.value }) name ∙ ap (λ v. record { name = y.name; value = v }) value in cc

pub same_array : (xs ys : List Data) → array (items_of xs) ≡ array (items_of ys) → xs ≡ ys
same_array xs ys is = let inside : items_of xs ≡ items_of ys = cc in one_items xs ys inside

pub same_object : (xs ys : List Member) → object (members_of xs) ≡ object (members_of ys) → xs ≡ ys
same_object xs ys is = let inside : members_of xs ≡ members_of ys = cc in one_members xs ys inside

data_of-Object : (fields : List Field) → data_of (json.Object fields) ≡ object (members_of (map field_data fields))
data_of-Object fields = search (rules, the_lemmas)

-- two lists are the same value where their items are
pub same_rows : (first second : Json) (xs ys read also : List Json) → first ≡ json.Array xs → second ≡ json.Array ys → read ≡ xs → also ≡ ys → (told : Bool)
    → (IsTrue told ↔ (map data_of read ≡ map data_of also)) → IsTrue told ↔ (data_of first ≡ data_of second)
same_rows first second xs ys read also is other reads reads_also told same =
    let one : data_of first ≡ array (items_of (map data_of read)) = ap data_of is ∙ data_of-Array xs ∙ sym (ap (λ (zs : List Json). array (items_of (map data_of zs))) reads) in
    let two : data_of second ≡ array (items_of (map data_of also)) =
    ap data_of other ∙ data_of-Array ys ∙ sym (ap (λ (zs : List Json). array (items_of (map data_of zs))) reads_also) in (
      λ yes. one ∙ ap (λ (ds : List Data). array (items_of ds)) (same.0 yes) ∙ sym two,
      λ equal. same.1 (same_array (map data_of read) (map data_of also) (sym one ∙ equal ∙ two)),
    )

-- two objects are the same value where their fields are
pub same_objects : (first second : Json) (xs ys read also : List Field) → first ≡ json.Object xs → second ≡ json.Object ys → read ≡ xs → also ≡ ys
    → (told : Bool) → (IsTrue told ↔ (map field_data read ≡ map field_data also)) → IsTrue told ↔ (data_of first ≡ data_of second)
same_objects first second xs ys read also is other reads reads_also told same =
    let one : data_of first ≡ object (members_of (map field_data read)) =
    ap data_of is ∙ data_of-Object xs ∙ sym (ap (λ (zs : List Field). object (members_of (map field_data zs))) reads) in
    let two : data_of second ≡ object (members_of (map field_data also)) =
    ap data_of other ∙ data_of-Object ys ∙ sym (ap (λ (zs : List Field). object (members_of (map field_data zs))) reads_also) in (
      λ yes. one ∙ ap (λ (ms : List Member). object (members_of ms)) (same.0 yes) ∙ sym two,
      λ equal. same.1 (same_object (map field_data read) (map field_data also) (sym one ∙ equal ∙ two)),
    )
