-- The object at a place of a list of JSON values, against a time.
use Rattle.std.proofs.Common.{arith, ◌≡◌, ◌<◌, ◌≤◌, ℕ, ℤ, List, length, All, Option, Some, true, false, nat_lt, slice_index_or, sym, subst, ◌∙◌}
use Rattle.std.proofs.lemmas.Bool.Decides.{nat_tests}
use Rattle.std.proofs.lemmas.Option.{slice_get_within}
use Rattle.std.proofs.lemmas.List.{length-map}
use Rattle.serde_json.specs.Data.{Data}
use Rattle.stix_json.specs.declared.value.Json.{Json}
use Rattle.stix_json.specs.DataOf.{data_of}
use Rattle.stix_json.specs.Ordered.{IsOrdered}
use Rattle.stix_bundles.specs.Objects.{data_in}
use Rattle.stix_bundles.specs.Lookup.{IsModified, IsEarlier}
use Rattle.stix_bundles.specs.inner.Index.{Supersedes}
use Rattle.stix_bundles.proofs.ObjectsLemmas.{same_some}
use Rattle.stix_bundles.proofs.ObjectsLemmas.{data_read, ordered_at}
use Rattle.stix_bundles.proofs.IndexLemmas.{OneModified}

not_less : (a b : ℕ) → false ≡ nat_lt a b → b ≤ a
not_less a b is = grind (arith, nat_tests)

less : (a b : ℕ) → true ≡ nat_lt a b → a < b
less a b is = grind (arith, nat_tests)

-- the value found at a place of ordered values is ordered
pub ordered_found : (values : List Json) (at : ℕ) (value : Json) → true ≡ nat_lt at (length values) → value ≡ slice_index_or values at value → All IsOrdered (data_in values)
    → IsOrdered (data_of value)
ordered_found values at value inside is ordered = ordered_at values at value (less at (length values) inside) is ordered

-- nothing stands past the end
pub not_past : (values : List Json) (at : ℕ) (time : Option ℤ) → false ≡ nat_lt at (length values) → ¬ Supersedes (data_in values) (Some at) time
not_past values at time past over =
    let inside = slice_get_within (data_in values) at over.0 over.2 in
    let count = length-map values data_of in
    let outside = not_less at (length values) past in
    absurd (omega arith)

pub supersedes_at : (values : List Json) (at : ℕ) (time modified : Option ℤ) (value : Json) → true ≡ nat_lt at (length values) → value ≡ slice_index_or values at value
    → IsModified (data_of value) modified → IsEarlier time modified → Supersedes (data_in values) (Some at) time
supersedes_at values at time modified value inside read when earlier =
    (data_of value, modified, data_read values at value (less at (length values) inside) read, when, earlier)

pub earlier_at : OneModified → (values : List Json) (at : ℕ) (time modified : Option ℤ) (value : Json) → true ≡ nat_lt at (length values)
    → value ≡ slice_index_or values at value → IsModified (data_of value) modified → Supersedes (data_in values) (Some at) time → IsEarlier time modified
earlier_at one values at time modified value inside read when over =
    let same : over.0 ≡ data_of value = same_some over.0 (data_of value) (sym over.2 ∙ data_read values at value (less at (length values) inside) read) in
    let its : IsModified (data_of value) over.1 = subst (λ (d : Data). IsModified d over.1) same over.3 in
    subst (IsEarlier time) (one (data_of value) over.1 modified its when) over.4
