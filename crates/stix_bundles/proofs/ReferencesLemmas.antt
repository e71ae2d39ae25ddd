-- The references of an object, where its `object_refs` is a list of JSON values.
use Rattle.std.proofs.Common.{◌≡◌, List, [], Option, Some, filter_map, option_and_then, codes, sym, ap, ◌∙◌}
use Rattle.std.specs.Option.{option_map_or}
use Rattle.serde_json.specs.Data.{Data, array}
use Rattle.serde_json.specs.Find.{get, as_array, as_str}
use Rattle.serde_json.specs.View.{items_of}
use Rattle.stix_json.specs.declared.value.Json.{Json}
use Rattle.stix_json.specs.declared.value.Json.TheVariants as json
use Rattle.stix_json.specs.DataOf.{data_of}
use Rattle.stix_bundles.specs.Objects.{data_in}
use Rattle.stix_bundles.specs.Bundle.{items_in_order}
use Rattle.stix_bundles.specs.Observations.{references}
use Rattle.stix_bundles.proofs.OutlineLemmas.{data_of-Array, listed_items}

pub references_of : (d : Data) (row : Json) (items : List Json) → Some (data_of row) ≡ get (codes "object_refs") d → row ≡ json.Array items
    → references d ≡ filter_map as_str (data_in items)
references_of d row items there is =
    let value : get (codes "object_refs") d ≡ Some (array (items_of (data_in items))) =
    sym there ∙ ap (λ (value : Json). Some (data_of value)) is ∙ ap Some (data_of-Array items) in
    ap (λ (o : Option Data). filter_map as_str (option_map_or items_in_order (option_and_then as_array o) [])) value ∙ ap (filter_map as_str) (listed_items (data_in items))
