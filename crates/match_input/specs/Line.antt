-- The reading of one line: a bundle (STIX 2.1, section 8) with its observations, or why it is
-- refused. `last` is when the observation before it was last observed, if any, and `next` is the
-- number of its first observation.
use Rattle.std.specs.Prelude.{◌≡◌, ◌≢◌, ⊤, ℕ, ◌-◌, ℤ, ◌≤ℤ◌, ◌<ℤ◌, List, [], ◌∷◌, length, slice_get, Option, Some, None, option_map}
use Rattle.std.specs.Option.{option_or}
use Rattle.serde_json.specs.Data.{Data}
use Rattle.stix_json.specs.declared.value.Json.{Json}
use Rattle.stix_json.specs.declared.refusal.JsonRefusal.TheVariants as json_refusal
use Rattle.stix_json.specs.DataOf.{data_of}
use Rattle.stix_json.specs.Reading.{IsJsonOf, IsJsonRefusedAs}
use Rattle.stix_bundles.specs.declared.observation.Observation.{Observation}
use Rattle.stix_bundles.specs.declared.refusal.BundleRefusal.{BundleRefusal}
use Rattle.stix_bundles.specs.Bundle.{IsBundle, IsBundleRefused}
use Rattle.stix_bundles.specs.Observations.{NoneEmbeds, IsFirstEmbedding, AreObservations}
use Rattle.match_input.specs.declared.rule.InputRule.{InputRule}
use Rattle.match_input.specs.declared.rule.InputRule.TheVariants.{LineTooLong, InputTooLong, Json as NoJson, Bundle as NoBundle, Embedded, OutOfOrder}

-- the bytes are JSON for a bundle of these objects
pub record IsTextOfBundle (bytes : List ℕ) (objects : List Data) : Type 0 where
  pub value : Json
  pub json : IsJsonOf bytes value
  pub bundle : IsBundle (data_of value) objects

-- the first observation was last observed no earlier than the one before it
abbrev pub IsInOrderAfter : Option ℤ → List Observation → Type 0
IsInOrderAfter None observations = ⊤
IsInOrderAfter (Some last) [] = ⊤
IsInOrderAfter (Some last) (first ∷ observations) = last ≤ℤ first.last

-- it was last observed earlier: the two times
abbrev pub Decreases : Option ℤ → List Observation → ℤ → ℤ → Type 0
Decreases None observations before now = ⊥
Decreases (Some last) [] before now = ⊥
Decreases (Some last) (first ∷ observations) before now = (before ≡ last) × (now ≡ first.last) × (now <ℤ before)

-- when the last of these was last observed; `last` if there are none
abbrev pub last_after : Option ℤ → List Observation → Option ℤ
last_after last observations = option_or (option_map (λ observation. observation.last) (slice_get observations (length observations - 1))) last

-- the bytes are a bundle of these objects, with these observations, in order
pub record IsBundleLine (last : Option ℤ) (next : ℕ) (bytes : List ℕ) (objects : List Data) (observations : List Observation) : Type 0 where
  pub text : IsTextOfBundle bytes objects
  pub apart : NoneEmbeds objects
  pub are : AreObservations objects next observations
  pub in_order : IsInOrderAfter last observations

-- the JSON value is no bundle
abbrev pub IsNoBundleLine : List ℕ → BundleRefusal → Type 0
IsNoBundleLine bytes refusal = (value : Json) × IsJsonOf bytes value × IsBundleRefused (data_of value) refusal

-- the first observed-data of the bundle that embeds its objects
abbrev pub IsEmbedded : List ℕ → ℕ → Type 0
IsEmbedded bytes object = (objects : List Data) × IsTextOfBundle bytes objects × IsFirstEmbedding objects object

-- the first observation of the bundle is earlier than the one before it
pub record IsOutOfOrder (last : Option ℤ) (next : ℕ) (bytes : List ℕ) (before now : ℤ) : Type 0 where
  pub objects : List Data
  pub text : IsTextOfBundle bytes objects
  pub apart : NoneEmbeds objects
  pub observations : List Observation
  pub are : AreObservations objects next observations
  pub behind : Decreases last observations before now

-- why the bytes, if not too many, are refused: the first cause in this order
abbrev pub IsRefusedInputLine : Option ℤ → ℕ → List ℕ → InputRule → Type 0
IsRefusedInputLine last next bytes LineTooLong = ⊥
IsRefusedInputLine last next bytes InputTooLong = ⊥
IsRefusedInputLine last next bytes (NoJson refusal) = (refusal ≢ json_refusal.NoMemory) × IsJsonRefusedAs bytes refusal
IsRefusedInputLine last next bytes (NoBundle refusal) = IsNoBundleLine bytes refusal
IsRefusedInputLine last next bytes (Embedded object) = IsEmbedded bytes object
IsRefusedInputLine last next bytes (OutOfOrder before now) = IsOutOfOrder last next bytes before now
