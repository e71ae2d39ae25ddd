-- What stands in a list of ordered values is ordered.
use Rattle.std.proofs.Common.{◌≡◌, ℕ, List, Option, Some, None, IfSome, All, option_map, slice_get, sym, ap, subst, ◌∙◌, Bor}
use Rattle.std.proofs.lemmas.Option.{slice_get-map, slice_get_within, get_or_from_slice_get}
use Rattle.serde_json.specs.Data.{Data}
use Rattle.stix_json.specs.declared.value.Json.{Json}
use Rattle.stix_json.specs.DataOf.{data_of}
use Rattle.stix_json.specs.Ordered.{IsOrdered}
use Rattle.stix_bundles.specs.Objects.{data_in}

ordered_at : (ds : List Data) (at : ℕ) (d : Data) → slice_get ds at ≡ Some d → All IsOrdered ds → IsOrdered d
ordered_at ds at d is all = subst IsOrdered (get_or_from_slice_get ds at d d is) (all at d (slice_get_within ds at d is))

pub ordered_found : (trees : List Json) (at : ℕ) (found : Option (Bor Json)) → option_map (λ (tree : Bor Json). tree.now) found ≡ slice_get trees at
    → All IsOrdered (data_in trees) → IfSome found (λ tree. IsOrdered (data_of tree.now))
ordered_found trees at None is all = tt
ordered_found trees at (Some tree) is all =
    ordered_at (data_in trees) at (data_of tree.now) (slice_get-map data_of trees at ∙ ap (λ (o : Option Json). option_map data_of o) (sym is)) all

pub value_found : (trees : List Json) (at : ℕ) (found : Option (Bor Json)) → option_map (λ (tree : Bor Json). tree.now) found ≡ slice_get trees at
    → option_map (λ (tree : Bor Json). data_of tree.now) found ≡ slice_get (data_in trees) at
value_found trees at None is = sym (slice_get-map data_of trees at ∙ ap (λ (o : Option Json). option_map data_of o) (sym is))
value_found trees at (Some tree) is = sym (slice_get-map data_of trees at ∙ ap (λ (o : Option Json). option_map data_of o) (sym is))
