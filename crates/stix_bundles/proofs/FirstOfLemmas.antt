-- The first object of which a fact holds, where it is decidable of each object whether it does.
use Rattle.std.proofs.Common.{arith, ◌≡◌, ◌⊎◌, inl, inr, ℕ, zero, suc, ◌<◌, List, [], ◌∷◌, Option, Some, None, slice_get, true, false, bytes_eq, is_some, codes, refl, sym, ap, subst, ◌∙◌}
use Rattle.std.specs.Option.{option_map_or}
use Rattle.std.proofs.lemmas.Bool.{cases_Bool, false≢true}
use Rattle.std.proofs.lemmas.Slice.Eq.{bytes_eq-Decides}
use Rattle.serde_json.specs.Data.{Data}
use Rattle.serde_json.specs.Find.{get, as_object}
use Rattle.stix_json.specs.Properties.{property_text}
use Rattle.stix_bundles.specs.Bundle.{IsObject}
use Rattle.stix_bundles.specs.Observations.{IsObservedData, is_observed_data, Embeds, NoneEmbeds, IsFirstEmbedding}
use Rattle.stix_bundles.proofs.ObjectsLemmas.{same_some}
use Rattle.stix_bundles.proofs.LastTimesLemmas.{observed_test}

-- it is decidable for each object
abbrev pub IsTold : (Data → Type 0) → Type 0
IsTold P = (d : Data) → P d ⊎ (¬ P d)

-- the fact holds of the object at the place, and of none before it
pub record IsFirstOf (P : Data → Type 0) (ds : List Data) (at : ℕ) : Type 0 where
  pub object : Data
  pub there : slice_get ds at ≡ Some object
  pub holds : P object
  pub before : (n : ℕ) (other : Data) → n < at → slice_get ds n ≡ Some other → ¬ P other

-- the fact holds of none
abbrev pub HoldsOfNone : (Data → Type 0) → List Data → Type 0
HoldsOfNone P ds = (n : ℕ) (d : Data) → slice_get ds n ≡ Some d → ¬ P d

none_more : (P : Data → Type 0) (x : Data) (xs : List Data) → ¬ P x → HoldsOfNone P xs → HoldsOfNone P (x ∷ xs)
none_more P x xs not none zero d there is = not (subst P (sym (same_some x d there)) is)
none_more P x xs not none (suc n) d there is = none n d there is

before_more : (P : Data → Type 0) (x : Data) (xs : List Data) (at : ℕ) → ¬ P x → IsFirstOf P xs at
    → (n : ℕ) (other : Data) → n < suc at → slice_get (x ∷ xs) n ≡ Some other → ¬ P other
before_more P x xs at not first zero d less there is = not (subst P (sym (same_some x d there)) is)
before_more P x xs at not first (suc n) d less there is = first.before n d (omega arith) there is

first_more : (P : Data → Type 0) (x : Data) (xs : List Data) → ¬ P x → ((at : ℕ) × IsFirstOf P xs at) ⊎ HoldsOfNone P xs
    → ((at : ℕ) × IsFirstOf P (x ∷ xs) at) ⊎ HoldsOfNone P (x ∷ xs)
first_more P x xs not (inl (at, first)) =
    inl (suc at, record { object = first.object; there = first.there; holds = first.holds; before = before_more P x xs at not first })
first_more P x xs not (inr none) = inr (none_more P x xs not none)

pub first_or_none : (P : Data → Type 0) → IsTold P → (ds : List Data) → ((at : ℕ) × IsFirstOf P ds at) ⊎ HoldsOfNone P ds
first_or_none P told [] = inr (λ n d there. absurd cc)
first_or_none P told (x ∷ xs) = elim (told x) [
  | inl is ↦ inl (0, record { object = x; there = refl; holds = is; before = λ n other less. absurd (omega arith) })
  | inr not ↦ first_more P x xs not (first_or_none P told xs)
]

-- ---- what is decidable

pub object_told : IsTold IsObject
object_told d = elim (cases_Bool (is_some (as_object d))) [ inl is ↦ inl is | inr not ↦ inr (λ is. false≢true (sym not ∙ is)) ]

pub no_object_told : IsTold (λ d. ¬ IsObject d)
no_object_told d = elim (object_told d) [ inl is ↦ inr (λ not. not is) | inr not ↦ inl not ]

there_told : (d : Data) → (is_some (get (codes "objects") d) ≡ true) ⊎ (is_some (get (codes "objects") d) ≡ false)
there_told d = cases_Bool (is_some (get (codes "objects") d))

from_test : (type : Option (List ℕ)) (wanted : List ℕ) → option_map_or (λ t. bytes_eq t wanted) type false ≡ true → type ≡ Some wanted
from_test None wanted is = absurd cc
from_test (Some t) wanted is = ap Some ((bytes_eq-Decides t wanted).0 is)

observed_told : IsTold IsObservedData
observed_told d = elim (cases_Bool (is_observed_data d)) [
  | inl is ↦ inl (from_test (property_text (codes "type") d) (codes "observed-data") is)
  | inr not ↦ inr (λ is. false≢true (sym not ∙ observed_test d is))
]

embeds_told : IsTold Embeds
embeds_told d = elim (observed_told d) [
  | inl observed ↦ elim (there_told d) [
    | inl there ↦ inl (observed, there)
    | inr absent ↦ inr (λ is. false≢true (sym absent ∙ is.1))
  ]
  | inr other ↦ inr (λ is. other is.0)
]

-- objects have a first that embeds, or none
pub first_embedding : (objects : List Data) → NoneEmbeds objects ⊎ ((at : ℕ) × IsFirstEmbedding objects at)
first_embedding objects = elim (first_or_none Embeds embeds_told objects) [
  | inl (at, first) ↦ inr (
    at,
    record {
      embeds = record { object = first.object; there = first.there; embeds = first.holds };
      before = λ n less is. first.before n is.object less is.there is.embeds;
    },
  )
  | inr none ↦ inl (λ at is. none at is.object is.there is.embeds)
]
