-- A path selects some list of values, where each text means something.
use Rattle.std.proofs.Common.{◌≡◌, ◌⊎◌, inl, inr, ℕ, List, [], ◌∷◌, ◌++◌, Bool, true, false, nat_eq, Option, Some, None, MatchOption, slice_get, option_and_then, option_to_list, codes, sym, ap, ◌∙◌, refl}
use Rattle.std.specs.List.{ends_with}
use Rattle.std.specs.Cmp.Lexicographic.{pointwise, same_text, other_text}
use Rattle.std.proofs.lemmas.Bool.{false≢true}
use Rattle.std.proofs.lemmas.Option.{none-some, same_Some}
use Rattle.serde_json.specs.Data.{Data}
use Rattle.serde_json.specs.Find.{get, as_str}
use Rattle.flow_values.specs.Answers.{FindsExactly}
use Rattle.stix_json.specs.Properties.{property_text}
use Rattle.stix_bundles.specs.Lookup.{ResolvesTo}
use Rattle.pattern_types.specs.declared.path.Path.{Path}
use Rattle.pattern_types.specs.declared.path.Step.{Step}
use Rattle.pattern_types.specs.declared.path.Step.TheVariants.{Name, Place, Each}
use Rattle.match_comparisons.specs.Selection.{EndsIn, IsReference, RefersTo, LeadsTo, by_property, members, StepSelects, last_name, Joined, StepsSelect, IsRoot, Selects}
use Rattle.match_comparisons.specs.inner.PropertyOf.{property_of}
use Rattle.match_comparisons.proofs.EndsInLemmas.{ends_exactly}
use Rattle.match_comparisons.proofs.ReferenceLemmas.{OneMeaning, refers_exactly, leads_exactly}

-- each text means a place, or none
abbrev pub AllMean : List Data → Type 0
AllMean objects = (text : List ℕ) → (meant : Option ℕ) × ResolvesTo objects text meant

decide_end : (suffix name : List ℕ) (answer : Bool) → answer ≡ ends_with nat_eq name suffix → EndsIn suffix name ⊎ (¬ EndsIn suffix name)
decide_end suffix name true is = inl ((ends_exactly suffix name true is).0 refl)
decide_end suffix name false is = inr (λ ends. false≢true ((ends_exactly suffix name false is).1 ends))

decide_reference : (last : Option (List ℕ)) → IsReference last ⊎ (¬ IsReference last)
decide_reference None = inr (λ named. named)
decide_reference (Some name) =
    let one = codes "_ref" in
    let many = codes "_refs" in
    elim (decide_end one name (ends_with nat_eq name one) refl) [
      | inl ends ↦ inl (inl ends)
      | inr other ↦ elim (decide_end many name (ends_with nat_eq name many) refl) [
        | inl ends ↦ inl (inr ends)
        | inr neither ↦ inr (λ named. elim named [ inl ends ↦ other ends | inr ends ↦ neither ends ])
      ]
    ]

some_place : (objects : List Data) → AllMean objects → (text : Option (List ℕ))
    → (place : Option ℕ) × MatchOption text (place ≡ None) (λ t. ResolvesTo objects t place)
some_place objects all None = (None, refl)
some_place objects all (Some text) = all text

some_reference : OneMeaning → (objects : List Data) → AllMean objects → (last : Option (List ℕ)) (value : Data)
    → (place : Option ℕ) × FindsExactly (RefersTo objects last value) place
some_reference one objects all last value = elim (decide_reference last) [
  | inr none ↦ (None, λ at is. none is.named)
  | inl named ↦
      let place = some_place objects all (as_str value) in
      (place.0, refers_exactly one objects last value place.0 named place.1)
]

some_lead : OneMeaning → (objects : List Data) → AllMean objects → (last : Option (List ℕ)) (name : List ℕ) (value : Data) (own : Option Data) → get name value ≡ own
    → (found : Option Data) × FindsExactly (LeadsTo objects last name value) found
some_lead one objects all last name value (Some found) is = (Some found, by_property is)
some_lead one objects all last name value None is =
    let place = some_reference one objects all last value in
    (option_and_then (property_of objects name) place.0, leads_exactly one objects last name value place.0 is place.1)

some_step : OneMeaning → (objects : List Data) → AllMean objects → (last : Option (List ℕ)) (step : Step) (value : Data)
    → (values : List Data) × StepSelects objects last step value values
some_step one objects all last (Name name) value =
    let found = some_lead one objects all last name value (get name value) refl in
    (option_to_list found.0, (found.0, found.1, refl))
some_step one objects all last (Place n) value = (option_to_list (slice_get (members value) n), refl)
some_step one objects all last Each value = (members value, refl)

some_joined : (Chooses : Data → List Data → Type 0) → ((d : Data) → (own : List Data) × Chooses d own) → (ds : List Data) → (values : List Data) × Joined Chooses ds values
some_joined Chooses each [] = ([], refl)
some_joined Chooses each (d ∷ ds) =
    let own = each d in
    let rest = some_joined Chooses each ds in
    (own.0 ++ rest.0, (own.0, rest.0, own.1, rest.1, refl))

some_steps : OneMeaning → (objects : List Data) → AllMean objects → (last : Option (List ℕ)) (steps : List Step) (value : Data)
    → (values : List Data) × StepsSelect objects last steps value values
some_steps one objects all last [] value = (value ∷ [], refl)
some_steps one objects all last (step ∷ steps) value =
    let next = some_step one objects all last step value in
    let values = some_joined (StepsSelect objects (last_name last step) steps) (some_steps one objects all (last_name last step) steps) next.0 in
    (values.0, (next.0, next.1, values.1))

root_by : (objects : List Data) (root : ℕ) (kind : List ℕ) (there : Data) → slice_get objects root ≡ Some there → (text : List ℕ) → property_text (codes "type") there ≡ Some text
    → (answer : Bool) → answer ≡ pointwise nat_eq text kind → (found : Option Data) × FindsExactly (IsRoot objects root kind) found
root_by objects root kind there is text typed true same =
    (Some there, record { there = is; typed = typed ∙ ap Some (same_text text kind same) })
root_by objects root kind there is text typed false other = (
  None,
  λ found root_is.
      let one = same_Some there found (sym is ∙ root_is.there) in
      other_text text kind other (same_Some text kind (sym typed ∙ ap (property_text (codes "type")) one ∙ root_is.typed)),
)

root_at : (objects : List Data) (root : ℕ) (kind : List ℕ) (there : Data) → slice_get objects root ≡ Some there → (text : Option (List ℕ)) → property_text (codes "type") there ≡ text
    → (found : Option Data) × FindsExactly (IsRoot objects root kind) found
root_at objects root kind there is None typed = (
  None,
  λ found root_is.
      let one = same_Some there found (sym is ∙ root_is.there) in
      none-some kind (sym typed ∙ ap (property_text (codes "type")) one ∙ root_is.typed),
)
root_at objects root kind there is (Some text) typed = root_by objects root kind there is text typed (pointwise nat_eq text kind) refl

some_root : (objects : List Data) (root : ℕ) (kind : List ℕ) (there : Option Data) → slice_get objects root ≡ there
    → (found : Option Data) × FindsExactly (IsRoot objects root kind) found
some_root objects root kind None is = (None, λ found root_is. none-some found (sym is ∙ root_is.there))
some_root objects root kind (Some there) is = root_at objects root kind there is (property_text (codes "type") there) refl

from_root : OneMeaning → (objects : List Data) → AllMean objects → (path : Path) (found : Option Data)
    → (values : List Data) × MatchOption found (values ≡ []) (λ root. StepsSelect objects None path.steps root values)
from_root one objects all path None = ([], refl)
from_root one objects all path (Some root) = some_steps one objects all None path.steps root

pub some_selection : OneMeaning → (objects : List Data) → AllMean objects → (root : ℕ) (path : Path) → (values : List Data) × Selects objects root path values
some_selection one objects all root path =
    let found = some_root objects root path.kind (slice_get objects root) refl in
    let values = from_root one objects all path found.0 in
    (values.0, (found.0, found.1, values.1))
