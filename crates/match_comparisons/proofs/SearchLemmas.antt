-- What the steps of a path reach that a fact holds of, step by step, and what is found out of the objects on the way.
use Rattle.std.proofs.Common.{arith, lit<, ◌≡◌, ◌↔◌, ◌⊎◌, inl, inr, ℕ, zero, suc, ◌<◌, ◌-◌, ◌+◌, List, [], ◌∷◌, ◌++◌, length, drop, get_or, All, Bool, true, false, IsTrue, Option, Some, None, Result, Ok, Err, IfOk, slice_get, append_assoc, sym, ap, subst, ◌∙◌, refl}
use Rattle.std.specs.Prelude.{Contains}
use Rattle.std.proofs.lemmas.Bool.{false≢true}
use Rattle.std.proofs.lemmas.Option.{same_Some}
use Rattle.std.proofs.lemmas.List.{length-append, drop_at}
use Rattle.std.proofs.lemmas.List.Elements.{Contains-append_left, Contains-append_right, Contains-append_cases, All-contains}
use Rattle.serde_json.specs.Data.{Data}
use Rattle.stix_json.specs.declared.value.Json.{Json}
use Rattle.stix_json.specs.DataOf.{data_of}
use Rattle.stix_json.specs.Ordered.{IsOrdered}
use Rattle.stix_bundles.specs.Objects.{data_in}
use Rattle.pattern_types.specs.declared.path.Step.{Step}
use Rattle.match_comparisons.specs.Selection.{StepReaches, last_name, Reaches}
use Rattle.match_comparisons.specs.declared.search.Search.{Search}
use Rattle.match_comparisons.specs.declared.memo.SearchMemo.{SearchMemo}
use Rattle.match_comparisons.specs.inner.VisitSet.{HasVisit}
use Rattle.match_comparisons.specs.inner.Search.{IsTarget, Finds, SomeFinds, FindsAt, AreLastSteps, IsSoundSearchMemo}

-- the steps reach a value that the fact holds of
abbrev pub From : List Data → (Data → Type 0) → Option (List ℕ) → List Step → Data → Type 0
From objects P last steps value = (found : Data) × Reaches objects last steps value found × P found

pub no_steps : (objects : List Data) (P : Data → Type 0) (last : Option (List ℕ)) (value : Data) → P value ↔ From objects P last [] value
no_steps objects P last value = (λ holds. (value, refl, holds), λ from. subst P from.1 from.2)

-- from what the first step reaches the others do
pub next_step : (objects : List Data) (P : Data → Type 0) (last : Option (List ℕ)) (step : Step) (rest : List Step) (value : Data) (values : List Data)
    → ((next : Data) → Contains values next ↔ StepReaches objects last step value next)
    → ((next : Data) × Contains values next × From objects P (last_name last step) rest next) ↔ From objects P last (step ∷ rest) value
next_step objects P last step rest value values reached = (
  λ some. let from = some.2 in (from.0, (some.0, (reached some.0).0 some.1, from.1), from.2),
  λ from. let next = from.1 in (next.0, (reached next.0).1 next.1, (from.0, next.2, from.2)),
)

-- the object at the place, and from there the steps reach such a value
abbrev pub FromAt : List Data → (Data → Type 0) → List Step → ℕ → Type 0
FromAt objects P steps at = (object : Data) × (slice_get objects at ≡ Some object) × From objects P None steps object

pub at_object : (objects : List Data) (P : Data → Type 0) (steps : List Step) (at : ℕ) (meant : Data) → slice_get objects at ≡ Some meant
    → From objects P None steps meant ↔ FromAt objects P steps at
at_object objects P steps at meant is = (
  λ from. (meant, is, from),
  λ there. subst (From objects P None steps) (same_Some there.0 meant (sym there.1 ∙ is)) there.2,
)

-- the last steps without the first of them
pub last_rest : (search : Search) (step : Step) (rest : List Step) → AreLastSteps search (step ∷ rest) → AreLastSteps search rest
last_rest search step rest last = (last.0 ++ step ∷ [], last.1 ∙ sym (append_assoc last.0 (step ∷ []) rest))

same_end : (all front steps : List Step) (n : ℕ) → all ≡ front ++ steps → length steps ≡ n → drop (length all - n) all ≡ steps
same_end all front steps n is count =
    let total : length all ≡ length front + length steps = ap length is ∙ length-append front steps in
    ap (drop (length all - n)) is ∙ drop_at front steps (length all - n) (omega arith)

same_last : (search : Search) (steps others : List Step) → AreLastSteps search steps → AreLastSteps search others → length steps ≡ length others → steps ≡ others
same_last search steps others last also count =
    sym (same_end search.steps.now last.0 steps (length others) last.1 count) ∙ same_end search.steps.now also.0 others (length others) also.1 refl

-- one finding more
pub one_more : (search : Search) (old new : SearchMemo) (step : Step) (rest : List Step) (at : ℕ) (found : Bool) → IsSoundSearchMemo search old
    → AreLastSteps search (step ∷ rest) → IsTrue found ↔ FindsAt search (step ∷ rest) at
    → ((count place : ℕ) → HasVisit new.positive count place → (HasVisit old.positive count place ⊎ ((found ≡ true) × (count ≡ length rest) × (place ≡ at))))
    → ((count place : ℕ) → HasVisit new.negative count place → (HasVisit old.negative count place ⊎ ((found ≡ false) × (count ≡ length rest) × (place ≡ at))))
    → IsSoundSearchMemo search new
one_more search old new step rest at found right last exact lives dies =
    let here = λ (other : Step) (others : List Step) (also : AreLastSteps search (other ∷ others)) (count : length others ≡ length rest).
    same_last search (other ∷ others) (step ∷ rest) also last (ap suc count) in record {
      negative = λ other others place also has finds. elim (dies (length others) place has) [
        | inl before ↦ right.negative other others place also before finds
        | inr now ↦
            let there = subst (FindsAt search (step ∷ rest)) now.2 (subst (λ (steps : List Step). FindsAt search steps place) (here other others also now.1) finds) in
            absurd (false≢true (sym now.0 ∙ exact.1 there))
      ];
      positive = λ other others place also has. elim (lives (length others) place has) [
        | inl before ↦ right.positive other others place also before
        | inr now ↦
            subst (λ (steps : List Step). FindsAt search steps place) (sym (here other others also now.1))
            (subst (FindsAt search (step ∷ rest)) (sym now.2) (exact.0 now.0))
      ];
    }

-- an answer that is known is right
pub known_right : (search : Search) (memo : SearchMemo) (step : Step) (rest : List Step) (at : ℕ) (found : Bool) → IsSoundSearchMemo search memo
    → AreLastSteps search (step ∷ rest) → (found ≡ true → HasVisit memo.positive (length rest) at) → (found ≡ false → HasVisit memo.negative (length rest) at)
    → IsTrue found ↔ FindsAt search (step ∷ rest) at
known_right search memo step rest at true right last positive negative = (λ yes. right.positive step rest at last (positive refl), λ finds. refl)
known_right search memo step rest at false right last positive negative =
    (λ yes. absurd (false≢true yes), λ finds. absurd (right.negative step rest at last (negative refl) finds))

one_item : {A : Type 0} (x y : A) (k : ℕ) → k < 1 → get_or (x ∷ []) k y ≡ y → x ≡ y
one_item x y zero below is = is
one_item x y (suc k) below is = absurd (omega arith)

-- a value of a list is what one of its trees is
pub tree_of : (trees : List Json) (d : Data) → Contains (data_in trees) d → (tree : Json) × Contains trees tree × (data_of tree ≡ d)
tree_of [] d has = absurd (omega (arith, has.1))
tree_of (tree ∷ trees) d has = elim (Contains-append_cases (data_of tree ∷ []) (data_in trees) d has) [
  | inl here ↦ (tree, Contains-append_left (tree ∷ []) trees tree (0, lit< tt, refl), one_item (data_of tree) d here.0 here.1 here.2)
  | inr later ↦ let found = tree_of trees d later in (found.0, Contains-append_right (tree ∷ []) trees found.0 found.1, found.2)
]

pub value_of : (trees : List Json) (tree : Json) → Contains trees tree → Contains (data_in trees) (data_of tree)
value_of [] tree has = absurd (omega (arith, has.1))
value_of (first ∷ trees) tree has = elim (Contains-append_cases (first ∷ []) trees tree has) [
  | inl here ↦ Contains-append_left (data_of first ∷ []) (data_in trees) (data_of tree) (0, lit< tt, ap data_of (one_item first tree here.0 here.1 here.2))
  | inr later ↦ Contains-append_right (data_of first ∷ []) (data_in trees) (data_of tree) (value_of trees tree later)
]

-- the fact holds of some value of the list where it holds of one of the trees
pub some_tree : (P : Data → Type 0) (trees : List Json) → ((tree : Json) × Contains trees tree × P (data_of tree)) ↔ ((value : Data) × Contains (data_in trees) value × P value)
some_tree P trees = (
  λ some. (data_of some.0, value_of trees some.0 some.1, some.2),
  λ some. let tree = tree_of trees some.0 some.1 in (tree.0, tree.1, subst P (sym tree.2) some.2),
)

pub no_items : {A : Type 0} (xs : List A) → length xs ≡ 0 → xs ≡ []
no_items [] none = refl
no_items (x ∷ xs) none = absurd (omega (arith, none))

-- an answer to a question is one to the same question
pub ok_same : {E : Type 0} {A B : Type 0} (r : Result Bool E) → A ↔ B → IfOk r (λ answer. IsTrue answer ↔ A) → IfOk r (λ answer. IsTrue answer ↔ B)
ok_same (Err e) same exact = tt
ok_same (Ok answer) same exact = (λ yes. same.0 (exact.0 yes), λ holds. exact.1 (same.1 holds))

module _ (search : Search) (last : Option (List ℕ)) (value : Data) where
  pub finds_here : (steps : List Step) → length steps ≡ 0 → IsTarget search value ↔ Finds search last steps value
  finds_here steps none =
      subst (λ (ss : List Step). IsTarget search value ↔ Finds search last ss value) (sym (no_items steps none))
      (no_steps (data_in search.bundle.now) (IsTarget search) last value)

  pub finds_next : (steps : List Step) (step : Step) (rest : List Step) (behind : Option (List ℕ)) (values : List Data) → steps ≡ step ∷ rest → behind ≡ last_name last step
      → ((next : Data) → Contains values next ↔ StepReaches (data_in search.bundle.now) last step value next)
      → SomeFinds search behind rest values ↔ Finds search last steps value
  finds_next steps step rest behind values is named reached =
      let here = next_step (data_in search.bundle.now) (IsTarget search) last step rest value values reached in
      let from = subst (λ (ss : List Step). SomeFinds search (last_name last step) rest values ↔ Finds search last ss value) (sym is) here in
      subst (λ (name : Option (List ℕ)). SomeFinds search name rest values ↔ Finds search last steps value) (sym named) from

-- the object at the place, and what the step selects from it
pub finds_there : (search : Search) (step : Step) (rest : List Step) (at : ℕ) (meant : Data) (behind : Option (List ℕ)) (values : List Data)
    → slice_get (data_in search.bundle.now) at ≡ Some meant → behind ≡ last_name None step
    → ((next : Data) → Contains values next ↔ StepReaches (data_in search.bundle.now) None step meant next)
    → SomeFinds search behind rest values ↔ FindsAt search (step ∷ rest) at
finds_there search step rest at meant behind values is named reached =
    let objects = data_in search.bundle.now in
    let next = finds_next search None meant (step ∷ rest) step rest behind values refl named reached in
    let there = at_object objects (IsTarget search) (step ∷ rest) at meant is in
    (λ some. there.0 (next.0 some), λ finds. next.1 (there.1 finds))

-- each of the trees is ordered
pub ordered_tree : (trees : List Json) (i : ℕ) (tree : Json) → i < length trees → tree ≡ get_or trees i tree → All IsOrdered (data_in trees) → IsOrdered (data_of tree)
ordered_tree trees i tree below is all = All-contains IsOrdered (data_in trees) (data_of tree) all (value_of trees tree (i, below, sym is))
