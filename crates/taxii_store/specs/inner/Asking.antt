-- The filters of a query, compiled: for each parameter the set of its values.
use Rattle.std.specs.Prelude.{◌≡◌, ⊤, ℕ, List, Option, Some, None, IfSome, option_map}
use Rattle.std.specs.List.{Contains}
use Rattle.stix_ids.specs.declared.id.Id.{Id}
use Rattle.taxii_routes.specs.declared.query.Query.{Query}
use Rattle.taxii_store.specs.Picks.{HasPicks}
use Rattle.taxii_store.specs.Meeting.{picks_of}
use Rattle.taxii_store.specs.declared.text_set.TextSet.{TextSet}
use Rattle.taxii_store.specs.declared.id_set.IdSet.{IdSet}
use Rattle.taxii_store.specs.declared.asked.RowFilter.{RowFilter}
use Rattle.taxii_store.specs.inner.Sets.{HasTexts, HasIds}

-- the set is of these texts, and what it missed is none of them
pub record IsSetOf (texts : List (List ℕ)) (set : TextSet) : Type 0 where
  pub has : HasTexts texts set.texts.items
  pub missed : IfSome set.missed (λ text. ¬ (Contains texts text.now))

-- where texts are named, a set of them, and else none
abbrev pub HasTextsWhere : Option (List (List ℕ)) → Option TextSet → Type 0
HasTextsWhere None None = ⊤
HasTextsWhere None (Some set) = ⊥
HasTextsWhere (Some texts) None = ⊥
HasTextsWhere (Some texts) (Some set) = IsSetOf texts set

-- where identifiers are named, a set of them, and else none
abbrev pub HasIdsWhere : Option (List Id) → Option IdSet → Type 0
HasIdsWhere None None = ⊤
HasIdsWhere None (Some set) = ⊥
HasIdsWhere (Some ids) None = ⊥
HasIdsWhere (Some ids) (Some set) = HasIds ids set.ids.items

-- what the query asks of the collection and of the one object, if any
pub record AsksOfCollection (collection : ℕ) (only : Option Id) (query : Query) (asked : RowFilter) : Type 0 where
  pub collection_is : asked.collection ≡ collection
  pub only_is : option_map (λ id. id.now) asked.only ≡ only
  pub kinds_are : HasTextsWhere query.kinds asked.kinds
  pub ids_are : HasIdsWhere query.ids asked.ids
  pub picks_are : HasPicks (picks_of query) asked.picks
