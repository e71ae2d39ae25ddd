-- No value is neither a bundle nor refused: each condition in turn holds, or the path to it is the refusal.
use Rattle.std.proofs.Common.{◌⊎◌, inl, inr, ℕ, ◌+◌, List, [], ◌∷◌, ◌++◌, map, All, codes, refl}
use Rattle.serde_json.specs.Data.{Data}
use Rattle.stix_json.specs.Walk.{path_text, index_part}
use Rattle.stix_objects.specs.declared.rule_break.Break.{Break}
use Rattle.stix_objects.specs.Breaks.{AreBreaksOf}
use Rattle.stix_bundles.specs.declared.object_break.ObjectBreak.{ObjectBreak}
use Rattle.stix_bundles.specs.declared.refusal.BundleRefusal.{BundleRefusal}
use Rattle.stix_bundles.specs.declared.refusal.BundleRefusal.TheVariants.{NotBundle, Breaks}
use Rattle.stix_bundles.specs.Bundle.{IsObject, HasBundleType, IsIdentified, HasObjects, IsOutlined, IsFirstNoObject, FailsAt, break_of_object, AreAllBreaks, IsBundle, IsBundleRefused}
use Rattle.stix_bundles.proofs.ObjectsLemmas.{holds_all}
use Rattle.stix_bundles.proofs.FirstOfLemmas.{first_or_none, object_told, no_object_told}

-- no value is without its list of breaks
abbrev pub SomeList : Type 0
SomeList = (d : Data) → ¬ ((breaks : List Break) → ¬ AreBreaksOf d breaks)

some_breaks : SomeList → (at : ℕ) (ds : List Data) → ¬ ((breaks : List ObjectBreak) → ¬ AreAllBreaks at ds breaks)
some_breaks some at [] = λ fails. fails [] refl
some_breaks some at (d ∷ ds) = λ fails.
    some d (λ own is. some_breaks some (at + 1) ds (λ rest are. fails (map (break_of_object at) own ++ rest) (own, rest, is, are, refl)))

-- what isn't no object is one
an_object : (d : Data) → ¬ (¬ IsObject d) → IsObject d
an_object d is = elim (object_told d) [ inl object ↦ object | inr not ↦ absurd (is not) ]

-- all are objects, or there is a first that is none
all_objects : (ds : List Data) → All IsObject ds ⊎ ((at : ℕ) × IsFirstNoObject ds at)
all_objects ds = elim (first_or_none (λ (d : Data). ¬ IsObject d) no_object_told ds) [
  | inl (at, first) ↦ inr (
    at,
    record {
      member = first.object;
      there = first.there;
      no_object = first.holds;
      before = λ n other less there. an_object other (first.before n other less there);
    },
  )
  | inr none ↦ inl (holds_all IsObject ds (λ n other less there. an_object other (none n other there)))
]

-- a value that is neither
record IsNeither (d : Data) : Type 0 where
  bundle : (objects : List Data) → ¬ IsBundle d objects
  refused : (refusal : BundleRefusal) → ¬ IsBundleRefused d refusal

fails_nowhere : (d : Data) → IsNeither d → (parts : List (List ℕ)) → ¬ FailsAt d parts
fails_nowhere d neither parts fails = neither.refused (NotBundle (path_text parts)) (parts, fails, refl)

told_breaks : (d : Data) (objects : List Data) → IsNeither d → IsOutlined d objects → (breaks : List ObjectBreak) → ¬ AreAllBreaks 0 objects breaks
told_breaks d objects neither outline [] are = neither.bundle objects (record { outline = outline; unbroken = are })
told_breaks d objects neither outline (first ∷ breaks) are =
    neither.refused (Breaks (first ∷ breaks)) ((λ none. absurd cc), (objects, outline, are))

no_outline : SomeList → (d : Data) → IsNeither d → (objects : List Data) → ¬ IsOutlined d objects
no_outline some d neither objects outline = some_breaks some 0 objects (told_breaks d objects neither outline)

by_members : SomeList → (d : Data) → IsNeither d → IsObject d → HasBundleType d → IsIdentified d → (objects : List Data) → HasObjects d objects
    → All IsObject objects ⊎ ((at : ℕ) × IsFirstNoObject objects at) → ⊥
by_members some d neither object typed identified objects has (inl members) =
    no_outline some d neither objects (record { is_object = object; typed = typed; identified = identified; listed_are = has; members = members })
by_members some d neither object typed identified objects has (inr (at, first)) =
    fails_nowhere d neither (codes "objects" ∷ index_part at ∷ []) (refl, object, typed, identified, (objects, has, (at, refl, first)))

not_identified : SomeList → (d : Data) → IsNeither d → IsObject d → HasBundleType d → ¬ IsIdentified d
not_identified some d neither object typed identified =
    fails_nowhere d neither (codes "objects" ∷ []) (
      object,
      inr (inr (
        refl,
        typed,
        identified,
        (λ objects has. by_members some d neither object typed identified objects has (all_objects objects)),
      )),
    )

not_typed : SomeList → (d : Data) → IsNeither d → IsObject d → ¬ HasBundleType d
not_typed some d neither object typed =
    fails_nowhere d neither (codes "id" ∷ []) (object, inr (inl (refl, typed, not_identified some d neither object typed)))

no_object : SomeList → (d : Data) → IsNeither d → ¬ IsObject d
no_object some d neither object = fails_nowhere d neither (codes "type" ∷ []) (object, inl (refl, not_typed some d neither object))

pub not_neither : SomeList → (d : Data) → ¬ (((objects : List Data) → ¬ IsBundle d objects) × ((refusal : BundleRefusal) → ¬ IsBundleRefused d refusal))
not_neither some d = λ both.
    let neither : IsNeither d = record { bundle = both.0; refused = both.1 } in
    fails_nowhere d neither [] (no_object some d neither)
