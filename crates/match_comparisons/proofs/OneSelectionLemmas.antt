-- A path selects one list of values.
use Rattle.std.proofs.Common.{◌≡◌, ℕ, List, [], ◌∷◌, ◌++◌, Option, Some, None, MatchOption, option_to_list, sym, ap, subst, ◌∙◌, refl}
use Rattle.std.proofs.lemmas.Option.{same_Some}
use Rattle.serde_json.specs.Data.{Data}
use Rattle.flow_values.specs.Answers.{FindsExactly}
use Rattle.pattern_types.specs.declared.path.Path.{Path}
use Rattle.pattern_types.specs.declared.path.Step.{Step}
use Rattle.pattern_types.specs.declared.path.Step.TheVariants.{Name, Place, Each}
use Rattle.match_comparisons.specs.Selection.{LeadsTo, StepSelects, last_name, Joined, StepsSelect, IsRoot, Selects}
use Rattle.match_comparisons.proofs.ReferenceLemmas.{OneMeaning, one_lead}

-- there is one such value
abbrev pub One : {A : Type 0} → (A → Type 0) → Type 0
One {A} Rule = (first second : A) → Rule first → Rule second → first ≡ second

pub one_found : {A : Type 0} (Rule : A → Type 0) → One Rule → One (FindsExactly Rule)
one_found Rule one None None is also = refl
one_found Rule one None (Some second) is also = absurd (is second also)
one_found Rule one (Some first) None is also = absurd (also first is)
one_found Rule one (Some first) (Some second) is also = ap Some (one first second is also)

pub one_step : OneMeaning → (objects : List Data) (last : Option (List ℕ)) (step : Step) (value : Data) → One (StepSelects objects last step value)
one_step one objects last (Name name) value first second is also =
    let same = one_found (LeadsTo objects last name value) (one_lead one objects last name value) is.0 also.0 is.1 also.1 in
    is.2 ∙ ap option_to_list same ∙ sym also.2
one_step one objects last (Place n) value first second is also = is ∙ sym also
one_step one objects last Each value first second is also = is ∙ sym also

one_joined : (Chooses : Data → List Data → Type 0) → ((d : Data) → One (Chooses d)) → (ds : List Data) → One (Joined Chooses ds)
one_joined Chooses one [] first second is also = is ∙ sym also
one_joined Chooses one (d ∷ ds) first second is also =
    let own = one d is.0 also.0 is.2 also.2 in
    let rest = one_joined Chooses one ds is.1 also.1 is.3 also.3 in
    is.4 ∙ ap (λ (o : List Data). o ++ is.1) own ∙ ap (λ (r : List Data). also.0 ++ r) rest ∙ sym also.4

one_steps : OneMeaning → (objects : List Data) (last : Option (List ℕ)) (steps : List Step) (value : Data) → One (StepsSelect objects last steps value)
one_steps one objects last [] value first second is also = is ∙ sym also
one_steps one objects last (step ∷ steps) value first second is also =
    let below = StepsSelect objects (last_name last step) steps in
    let next = one_step one objects last step value is.0 also.0 is.1 also.1 in
    one_joined below (one_steps one objects (last_name last step) steps) also.0 first second (subst (λ (ds : List Data). Joined below ds first) next is.2) also.2

pub one_root : (objects : List Data) (root : ℕ) (kind : List ℕ) → One (IsRoot objects root kind)
one_root objects root kind first second is also = same_Some first second (sym is.there ∙ also.there)

one_from : OneMeaning → (objects : List Data) (path : Path) (found : Option Data)
    → One (λ values. MatchOption found (values ≡ []) (λ found. StepsSelect objects None path.steps found values))
one_from one objects path None first second is also = is ∙ sym also
one_from one objects path (Some found) first second is also = one_steps one objects None path.steps found first second is also

pub one_selection : OneMeaning → (objects : List Data) (root : ℕ) (path : Path) → One (Selects objects root path)
one_selection one objects root path first second is also =
    let same = one_found (IsRoot objects root path.kind) (one_root objects root path.kind) is.0 also.0 is.1 also.1 in
    let From : Option Data → Type 0 = λ found. MatchOption found (first ≡ []) (λ found. StepsSelect objects None path.steps found first) in
    one_from one objects path also.0 first second (subst From same is.2) also.2
