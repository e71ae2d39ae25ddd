-- The first values of a list, one more.
use Rattle.std.proofs.Common.{◌≡◌, ℕ, ◌+◌, ◌<◌, ◌≤◌, List, [], ◌∷◌, ◌++◌, length, take, slice_get, slice_index_or, Option, Some, option_map, refl, sym, ap, subst, ◌∙◌}
use Rattle.std.proofs.lemmas.Option.{get_or_from_slice_get, slice_get-map, slice_get_read}
use Rattle.std.proofs.lemmas.List.{take_more, take_all, length-map, length-take-le}
use Rattle.stix_json.specs.declared.value.Json.{Json}
use Rattle.stix_json.specs.DataOf.{data_of}
use Rattle.stix_bundles.specs.Objects.{data_in}

pub data_read : (values : List Json) (at : ℕ) (value : Json) → at < length values → value ≡ slice_index_or values at value → slice_get (data_in values) at ≡ Some (data_of value)
data_read values at value inside is =
    slice_get-map data_of values at ∙ ap (λ (x : Option Json). option_map data_of x) (slice_get_read values (length values) at value refl inside is)

-- one more is taken
pub taken_more : (values : List Json) (at : ℕ) (value : Json) → at < length values → value ≡ slice_index_or values at value
    → take (at + 1) (data_in values) ≡ take at (data_in values) ++ data_of value ∷ []
taken_more values at value inside is =
    let within : at < length (data_in values) = subst (λ n. at < n) (sym (length-map values data_of)) inside in
    let there = data_read values at value inside is in
    take_more (data_in values) at (data_of value) within
    ∙ ap (λ y. take at (data_in values) ++ y ∷ []) (get_or_from_slice_get (data_in values) at (data_of value) (data_of value) there)

pub taken_count : (values : List Json) (at : ℕ) → at ≤ length values → length (take at (data_in values)) ≡ at
taken_count values at inside =
    let within : at ≤ length (data_in values) = subst (λ n. at ≤ n) (sym (length-map values data_of)) inside in
    length-take-le at (data_in values) within

pub taken_all : (values : List Json) (at : ℕ) → length values ≤ at → take at (data_in values) ≡ data_in values
taken_all values at past = take_all at (data_in values) (subst (λ n. n ≤ at) (sym (length-map values data_of)) past)
