-- What a path selects is what its steps reach.
use Rattle.std.proofs.Common.{arith, lit<, ◌≡◌, ◌↔◌, inl, inr, ℕ, zero, suc, ◌<◌, List, [], ◌∷◌, get_or, Option, Some, None, MatchOption, option_to_list, slice_get, sym, ap, subst, refl}
use Rattle.std.specs.Prelude.{Contains}
use Rattle.std.proofs.lemmas.Option.{none-some, same_Some}
use Rattle.std.proofs.lemmas.List.Elements.{Contains-append_left, Contains-append_right, Contains-append_cases}
use Rattle.serde_json.specs.Data.{Data}
use Rattle.flow_values.specs.Answers.{FindsExactly}
use Rattle.pattern_types.specs.declared.path.Path.{Path}
use Rattle.pattern_types.specs.declared.path.Step.{Step}
use Rattle.pattern_types.specs.declared.path.Step.TheVariants.{Name, Place, Each}
use Rattle.match_comparisons.specs.Selection.{LeadsTo, members, StepSelects, StepReaches, last_name, Joined, StepsSelect, Reaches, IsRoot, Selects, IsSelected}
use Rattle.match_comparisons.proofs.ReferenceLemmas.{OneMeaning, one_lead}
use Rattle.match_comparisons.proofs.OneSelectionLemmas.{One, one_root}

nothing_in : (d : Data) → ¬ Contains [] d
nothing_in d has = absurd (omega (arith, has.1))

one_item : (x y : Data) (k : ℕ) → k < 1 → get_or (x ∷ []) k y ≡ y → x ≡ y
one_item x y zero below is = is
one_item x y (suc k) below is = absurd (omega arith)

of_one : (x y : Data) → Contains (x ∷ []) y ↔ (y ≡ x)
of_one x y = (λ has. sym (one_item x y has.0 has.1 has.2), λ same. (0, lit< tt, sym same))

of_option : (found : Option Data) (d : Data) → Contains (option_to_list found) d ↔ (found ≡ Some d)
of_option None d = (λ has. absurd (nothing_in d has), λ is. absurd (none-some d is))
of_option (Some x) d = (λ has. ap Some (sym ((of_one x d).0 has)), λ is. (of_one x d).1 (sym (same_Some x d is)))

found_exactly : (Rule : Data → Type 0) → One Rule → (found : Option Data) → FindsExactly Rule found → (d : Data) → (found ≡ Some d) ↔ Rule d
found_exactly Rule one None none d = (λ is. absurd (none-some d is), λ rule. absurd (none d rule))
found_exactly Rule one (Some x) rule d = (λ is. subst Rule (same_Some x d is) rule, λ also. ap Some (one x d rule also))

-- what one step selects is what it reaches
pub step_reaches : OneMeaning → (objects : List Data) (last : Option (List ℕ)) (step : Step) (value : Data) (values : List Data)
    → StepSelects objects last step value values → (next : Data) → Contains values next ↔ StepReaches objects last step value next
step_reaches one objects last (Name name) value values selects next =
    let Leads : Data → Type 0 = LeadsTo objects last name value in
    let listed = of_option selects.0 next in
    let exact = found_exactly Leads (one_lead one objects last name value) selects.0 selects.1 next in (
      λ has. exact.0 (listed.0 (subst (λ (ds : List Data). Contains ds next) selects.2 has)),
      λ leads. subst (λ (ds : List Data). Contains ds next) (sym selects.2) (listed.1 (exact.1 leads)),
    )
step_reaches one objects last (Place n) value values selects next =
    let listed = of_option (slice_get (members value) n) next in (
      λ has. listed.0 (subst (λ (ds : List Data). Contains ds next) selects has),
      λ is. subst (λ (ds : List Data). Contains ds next) (sym selects) (listed.1 is),
    )
step_reaches one objects last Each value values selects next =
    (λ has. subst (λ (ds : List Data). Contains ds next) selects has, λ has. subst (λ (ds : List Data). Contains ds next) (sym selects) has)

-- some of the values leads to the one that is found
abbrev SomeLeads : (Data → Data → Type 0) → List Data → Data → Type 0
SomeLeads Leads ds found = (d : Data) × Contains ds d × Leads d found

joined_reach : (Chooses : Data → List Data → Type 0) (Leads : Data → Data → Type 0)
    → ((d : Data) (own : List Data) → Chooses d own → (found : Data) → Contains own found ↔ Leads d found)
    → (ds values : List Data) → Joined Chooses ds values → (found : Data) → Contains values found ↔ SomeLeads Leads ds found
joined_reach Chooses Leads each [] values none found = (
  λ has. absurd (nothing_in found (subst (λ (vs : List Data). Contains vs found) none has)),
  λ some. absurd (nothing_in some.0 some.1),
)
joined_reach Chooses Leads each (d ∷ ds) values joined found =
    let own = joined.0 in
    let rest = joined.1 in
    let first = each d own joined.2 found in
    let others = joined_reach Chooses Leads each ds rest joined.3 found in (
      λ has. elim (Contains-append_cases own rest found (subst (λ (vs : List Data). Contains vs found) joined.4 has)) [
        | inl here ↦ (d, Contains-append_left (d ∷ []) ds d ((of_one d d).1 refl), first.0 here)
        | inr later ↦ let some = others.0 later in (some.0, Contains-append_right (d ∷ []) ds some.0 some.1, some.2)
      ],
      λ some. subst (λ (vs : List Data). Contains vs found) (sym joined.4) (elim (Contains-append_cases (d ∷ []) ds some.0 some.1) [
        | inl here ↦ Contains-append_left own rest found (first.1 (subst (λ (e : Data). Leads e found) ((of_one d some.0).0 here) some.2))
        | inr later ↦ Contains-append_right own rest found (others.1 (some.0, later, some.2))
      ]),
    )

-- what the steps select is what they reach
pub steps_reach : OneMeaning → (objects : List Data) (last : Option (List ℕ)) (steps : List Step) (value : Data) (values : List Data)
    → StepsSelect objects last steps value values → (found : Data) → Contains values found ↔ Reaches objects last steps value found
steps_reach one objects last [] value values selects found = (
  λ has. (of_one value found).0 (subst (λ (vs : List Data). Contains vs found) selects has),
  λ same. subst (λ (vs : List Data). Contains vs found) (sym selects) ((of_one value found).1 same),
)
steps_reach one objects last (step ∷ steps) value values selects found =
    let below = last_name last step in
    let here = step_reaches one objects last step value selects.0 selects.1 in
    let joined = joined_reach (StepsSelect objects below steps) (Reaches objects below steps) (steps_reach one objects below steps) selects.0 values selects.2 found in (
      λ has. let some = joined.0 has in (some.0, (here some.0).0 some.1, some.2),
      λ compares_or_equals. joined.1 (compares_or_equals.0, (here compares_or_equals.0).1 compares_or_equals.1, compares_or_equals.2),
    )

selected_from : OneMeaning → (objects : List Data) (root : ℕ) (path : Path) (from : Option Data) (values : List Data)
    → FindsExactly (IsRoot objects root path.kind) from → MatchOption from (values ≡ []) (λ object. StepsSelect objects None path.steps object values)
    → (value : Data) → Contains values value ↔ IsSelected objects root path value
selected_from one objects root path None values none selects value = (
  λ has. absurd (nothing_in value (subst (λ (vs : List Data). Contains vs value) selects has)),
  λ selected. absurd (none selected.object selected.is_root),
)
selected_from one objects root path (Some from) values is_root selects value =
    let exact = steps_reach one objects None path.steps from values selects value in (
      λ has. record { object = from; is_root = is_root; reached = exact.0 has },
      λ selected.
          let same = one_root objects root path.kind selected.object from selected.is_root is_root in
          exact.1 (subst (λ (o : Data). Reaches objects None path.steps o value) same selected.reached),
    )

-- a path selects a value where the value stands in the list that it selects
pub selected : OneMeaning → (objects : List Data) (root : ℕ) (path : Path) (values : List Data) → Selects objects root path values
    → (value : Data) → Contains values value ↔ IsSelected objects root path value
selected one objects root path values selects = selected_from one objects root path selects.0 values selects.1 selects.2
