-- What collections say of themselves has its names in order.
use Rattle.std.proofs.Common.{◌≡◌, List, [], ◌∷◌, sym, subst, rules}
use Rattle.std.specs.Prelude.{map}
use Rattle.serde_json.specs.View.{items_of}
use Rattle.stix_json.specs.declared.value.Json.{Json}
use Rattle.stix_json.specs.DataOf.{data_of}
use Rattle.stix_json.specs.Ordered.{IsOrdered, ItemsAreOrdered}
use Rattle.taxii_bodies.specs.declared.collections.CollectionInfo.{CollectionInfo}
use Rattle.taxii_bodies.specs.Collections.{collection_data}

pub collection_ordered : (info : CollectionInfo) → IsOrdered (collection_data info)
collection_ordered info = search rules

pub collections_ordered : (infos : List CollectionInfo) → ItemsAreOrdered (items_of (map collection_data infos))
collections_ordered [] = tt
collections_ordered (info ∷ infos) = (collection_ordered info, collections_ordered infos)

pub values_ordered : (values : List Json) (infos : List CollectionInfo) → map data_of values ≡ map collection_data infos
    → ItemsAreOrdered (items_of (map data_of values))
values_ordered values infos are = subst (λ ds. ItemsAreOrdered (items_of ds)) (sym are) (collections_ordered infos)
