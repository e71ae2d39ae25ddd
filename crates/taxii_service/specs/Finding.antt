-- Which resource a route leads to (TAXII 2.1, sections 4 and 5): a status that is kept, a
-- collection of the configuration, an object with a row in its collection.
use Rattle.std.specs.Prelude.{◌≡◌, ◌≢◌, ℕ, List, Some, None}
use Rattle.stix_ids.specs.declared.id.Id.{Id}
use Rattle.stix_ids.specs.Identifier.{IsTextOfId}
use Rattle.taxii_routes.specs.declared.route.Route.{Route}
use Rattle.taxii_routes.specs.declared.route.Route.TheVariants as route
use Rattle.taxii_rows.specs.declared.stored_row.StoredRow.{StoredRow}
use Rattle.taxii_index.specs.Index.{HasRowOf}
use Rattle.taxii_bodies.specs.declared.collections.CollectionInfo.{CollectionInfo}
use Rattle.taxii_exchange.specs.Statuses.{kept_status_body}
use Rattle.taxii_exchange.specs.Config.{collection_named}
use Rattle.taxii_service.specs.declared.state.State.{State}
use Rattle.taxii_service.specs.Resource.{Resource, Discovery, Root, Status, Collections, Collection, Manifest, Objects, Object, Versions}

-- the text names the collection, and this is it
abbrev pub NamesCollection : List ℕ → List CollectionInfo → CollectionInfo → Type 0
NamesCollection text infos info = collection_named text infos ≡ Some info

-- the text is the identifier of an object with a row in the collection
pub record NamesObject (text : List ℕ) (info : CollectionInfo) (rows : List StoredRow) (id : Id) : Type 0 where
  pub text_of : IsTextOfId text id
  pub stored : HasRowOf rows info.id id

-- the route leads to the resource, and the resource is there
abbrev pub IsResource : List CollectionInfo → State → Route → Resource → Type 0
IsResource infos state route.Discovery resource = resource ≡ Discovery
IsResource infos state route.Root resource = resource ≡ Root
IsResource infos state (route.Status id) resource = (resource ≡ Status id) × (kept_status_body id state.statuses ≢ None)
IsResource infos state route.Collections resource = resource ≡ Collections
IsResource infos state (route.Collection name) resource =
    (info : CollectionInfo) × NamesCollection name infos info × (resource ≡ Collection info)
IsResource infos state (route.Manifest name) resource =
    (info : CollectionInfo) × NamesCollection name infos info × (resource ≡ Manifest info)
IsResource infos state (route.Objects name) resource =
    (info : CollectionInfo) × NamesCollection name infos info × (resource ≡ Objects info)
IsResource infos state (route.Object name text) resource =
    (info : CollectionInfo) × (id : Id) × NamesCollection name infos info × NamesObject text info state.library.rows id
    × (resource ≡ Object info id)
IsResource infos state (route.Versions name text) resource =
    (info : CollectionInfo) × (id : Id) × NamesCollection name infos info × NamesObject text info state.library.rows id
    × (resource ≡ Versions info id)
IsResource infos state route.None resource = ⊥

-- the route leads to no resource
abbrev pub HasNoResource : List CollectionInfo → State → Route → Type 0
HasNoResource infos state route = (resource : Resource) → ¬ IsResource infos state route resource
