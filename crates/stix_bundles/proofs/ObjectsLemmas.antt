-- The members of a list by their places.
use Rattle.std.proofs.Common.{arith, ◌≡◌, ℕ, ◌+◌, ◌<◌, List, length, All, slice_get, slice_index_or, Option, Some, inl, inr, option_map, unwrap_or, sym, ap, refl, ◌∙◌, subst}
use Rattle.std.proofs.lemmas.Bool.{cases_lt}
use Rattle.std.proofs.lemmas.Option.{slice_get-map, slice_get-get_or, slice_get_read}
use Rattle.std.proofs.lemmas.List.{get_or-map, length-map}
use Rattle.serde_json.specs.Data.{Data}
use Rattle.stix_json.specs.declared.value.Json.{Json}
use Rattle.stix_json.specs.DataOf.{data_of}
use Rattle.stix_json.specs.Ordered.{IsOrdered}
use Rattle.stix_bundles.specs.Objects.{data_in}

-- of each of the first members the fact holds
abbrev pub HoldsBefore : (Data → Type 0) → List Data → ℕ → Type 0
HoldsBefore P xs at = (n : ℕ) (other : Data) → n < at → slice_get xs n ≡ Some other → P other

pub data_read : (values : List Json) (at : ℕ) (value : Json) → at < length values → value ≡ slice_index_or values at value → slice_get (data_in values) at ≡ Some (data_of value)
data_read values at value inside is =
    slice_get-map data_of values at ∙ ap (λ (x : Option Json). option_map data_of x) (slice_get_read values (length values) at value refl inside is)

-- the value at a place of ordered values is ordered
pub ordered_at : (values : List Json) (at : ℕ) (value : Json) → at < length values → value ≡ slice_index_or values at value → All IsOrdered (data_in values) → IsOrdered (data_of value)
ordered_at values at value inside is ordered =
    let within = subst (λ (n : ℕ). at < n) (sym (length-map values data_of)) inside in
    let own = subst IsOrdered (get_or-map data_of values at value (data_of value) inside) (ordered at (data_of value) within) in
    subst (λ (v : Json). IsOrdered (data_of v)) (sym is) own

pub holds_before_more : (P : Data → Type 0) (xs : List Data) (at : ℕ) (x : Data) → slice_get xs at ≡ Some x → P x → HoldsBefore P xs at → HoldsBefore P xs (at + 1)
holds_before_more P xs at x there p before n other less is =
    elim (cases_lt n at) [
      | inl earlier ↦ before n other earlier is
      | inr not_earlier ↦
          let same : n ≡ at = omega arith in
          let is_x : Some x ≡ Some other = sym there ∙ subst (λ m. slice_get xs m ≡ Some other) same is in
          subst P (ap (λ (o : Option Data). unwrap_or o x) is_x) p
    ]

pub holds_all : (P : Data → Type 0) (xs : List Data) → HoldsBefore P xs (length xs) → All P xs
holds_all P xs before = λ k d inside. before k (slice_index_or xs k d) inside (slice_get-get_or xs k d inside)

pub same_some : {A : Type 0} (x y : A) → Some x ≡ Some y → x ≡ y
same_some {A} x y e = ap (λ (o : Option A). unwrap_or o x) e
