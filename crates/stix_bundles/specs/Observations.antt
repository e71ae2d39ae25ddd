-- The observations of a bundle: its observed-data objects (STIX 2.1, section 4.14), sorted by
-- `last_observed` and numbered.
use Rattle.std.specs.Prelude.{◌≡◌, ◌⊎◌, ℕ, ◌+◌, ◌<◌, ◌<ℤ◌, List, [], ◌∷◌, ◌++◌, map, filter_map, count_by, Bool, false, Option, Some, IsSome, slice_get, option_and_then, option_to_list, bytes_eq, codes}
use Rattle.std.specs.Option.{option_map_or}
use Rattle.serde_json.specs.Data.{Data}
use Rattle.serde_json.specs.Find.{get, as_array, as_str}
use Rattle.stix_json.specs.Properties.{property_text}
use Rattle.stix_bundles.specs.declared.observation.Observation.{Observation}
use Rattle.stix_bundles.specs.declared.observation.ObservationRefusal.{ObservationRefusal}
use Rattle.stix_bundles.specs.declared.observation.ObservationRefusal.TheVariants.{EmbeddedObjects, NoMemory}
use Rattle.stix_objects.specs.declared.form.Precision.TheVariants.{Any}
use Rattle.stix_objects.specs.Properties.{IsTimestampAt, HasId}
use Rattle.stix_bundles.specs.Bundle.{items_in_order}
use Rattle.stix_bundles.specs.Lookup.{ResolvesTo}

-- it is an observed-data
abbrev pub IsObservedData : Data → Type 0
IsObservedData d = property_text (codes "type") d ≡ Some (codes "observed-data")

-- whether it is an observed-data
abbrev pub is_observed_data : Data → Bool
is_observed_data d = option_map_or (λ type. bytes_eq type (codes "observed-data")) (property_text (codes "type") d) false

-- the number of observed-data objects
abbrev pub observation_count : List Data → ℕ
observation_count objects = count_by is_observed_data objects

-- the object at the position is an observed-data
pub record IsObservedAt (objects : List Data) (at : ℕ) : Type 0 where
  pub object : Data
  pub there : slice_get objects at ≡ Some object
  pub observed : IsObservedData object

-- it is an observed-data that embeds its objects, in the deprecated property `objects`
abbrev pub Embeds : Data → Type 0
Embeds d = IsObservedData d × IsSome (get (codes "objects") d)

-- the object at the position embeds its objects
pub record EmbedsAt (objects : List Data) (at : ℕ) : Type 0 where
  pub object : Data
  pub there : slice_get objects at ≡ Some object
  pub embeds : Embeds object

-- the first such position
pub record IsFirstEmbedding (objects : List Data) (at : ℕ) : Type 0 where
  pub embeds : EmbedsAt objects at
  pub before : (n : ℕ) → n < at → ¬ EmbedsAt objects n

-- no observed-data embeds its objects
abbrev pub NoneEmbeds : List Data → Type 0
NoneEmbeds objects = (at : ℕ) → ¬ EmbedsAt objects at

-- the texts of its `object_refs`
abbrev pub references : Data → List (List ℕ)
references d = filter_map as_str (option_map_or items_in_order (option_and_then as_array (get (codes "object_refs") d)) [])

-- the positions that the texts resolve to, in order, and none for a text that doesn't resolve
abbrev pub AreResolved : List Data → List (List ℕ) → List ℕ → Type 0
AreResolved objects [] places = places ≡ []
AreResolved objects (text ∷ texts) places = (place : Option ℕ) × (rest : List ℕ)
    × ResolvesTo objects text place × AreResolved objects texts rest × (places ≡ option_to_list place ++ rest)

-- the observation of the observed-data at the position, with this number
pub record IsObservationAt (objects : List Data) (at number : ℕ) (observation : Observation) : Type 0 where
  pub object : Data
  pub there : slice_get objects at ≡ Some object
  pub observed : IsObservedData object
  pub numbered : observation.number ≡ number
  pub named : HasId object observation.id
  pub first : IsTimestampAt Any (codes "first_observed") object observation.first
  pub last : IsTimestampAt Any (codes "last_observed") object observation.last
  pub roots : AreResolved objects (references object) observation.roots

-- an observation, and the position of its object
pub record ObservationAt : Type 0 where
  pub at : ℕ
  pub observation : Observation

-- it was last observed before the other, or at the same time and has the lower position
abbrev pub IsObservedBefore : ObservationAt → ObservationAt → Type 0
IsObservedBefore seen other = (seen.observation.last <ℤ other.observation.last)
    ⊎ ((seen.observation.last ≡ other.observation.last) × (seen.at < other.at))

-- the observations of the objects, numbered from the first number on: one for each observed-data,
-- in order
pub record AreObservations (objects : List Data) (first : ℕ) (observations : List Observation) : Type 0 where
  pub seen : List ObservationAt
  pub are : observations ≡ map (λ s. s.observation) seen
  pub each : (k : ℕ) (s : ObservationAt) → slice_get seen k ≡ Some s → IsObservationAt objects s.at (first + k) s.observation
  pub all : (at : ℕ) → IsObservedAt objects at → (k : ℕ) × (s : ObservationAt) × (slice_get seen k ≡ Some s) × (s.at ≡ at)
  pub in_order : (j k : ℕ) (s t : ObservationAt) → j < k → slice_get seen j ≡ Some s → slice_get seen k ≡ Some t → IsObservedBefore s t

-- why there are no observations: the first object that embeds, if any; memory may run out only if
-- none does
abbrev pub AreRefused : List Data → ObservationRefusal → Type 0
AreRefused objects (EmbeddedObjects at) = IsFirstEmbedding objects at
AreRefused objects NoMemory = NoneEmbeds objects
