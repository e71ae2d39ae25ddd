-- What a walk has yet to give, where it visits the first value of its deepest frame.
use Rattle.std.proofs.Common.{◌≡◌, ◌↔◌, ℕ, List, [], ◌∷◌, ◌++◌, Option, Some, None, MatchOption, option_to_list, append_assoc, append-nil, sym, ap, subst, ◌∙◌, refl, Bor}
use Rattle.serde_json.specs.Data.{Data}
use Rattle.stix_json.specs.declared.value.Json.{Json}
use Rattle.stix_json.specs.DataOf.{data_of}
use Rattle.stix_bundles.specs.Objects.{data_in}
use Rattle.flow_values.specs.Answers.{FindsExactly}
use Rattle.pattern_types.specs.declared.path.Path.{Path}
use Rattle.pattern_types.specs.declared.path.Step.{Step}
use Rattle.match_comparisons.specs.declared.frame.Frame.{Frame}
use Rattle.match_comparisons.specs.Selection.{StepSelects, last_name, Joined, StepsSelect, IsRoot, Selects}
use Rattle.match_comparisons.specs.Remaining.{FollowsTaken}
use Rattle.match_comparisons.specs.inner.Frames.{frame_property, FrameSelects, LeftIn}
use Rattle.match_comparisons.proofs.ReferenceLemmas.{OneMeaning}
use Rattle.match_comparisons.proofs.OneSelectionLemmas.{one_step, one_found, one_root}

-- the frame with these values in the place of its own
abbrev pub with_values : Frame → Bor (List Json) → Frame
with_values frame values = record { last = frame.last; steps = frame.steps; values = values }

-- no step leads on from the first value
pub left_given : (objects : List Data) (frame : Frame) (frames : List Frame) (first : Json) (others : Bor (List Json))
    → frame.values.now ≡ first ∷ others.now → frame.steps.now ≡ []
    → (values : List Data) → LeftIn objects (frame ∷ frames) values ↔ FollowsTaken (data_of first ∷ []) (LeftIn objects (with_values frame others ∷ frames)) values
left_given objects frame frames first others row no_steps values =
    let d = data_of first in
    let Chosen : List Data → List Json → Type 0 = λ own r. Joined (StepsSelect objects (frame_property frame) frame.steps.now) (data_in r) own in
    let Ends : List Data → List Step → Type 0 = λ own steps. StepsSelect objects (frame_property frame) steps d own in (
      λ left.
          let chosen = subst (Chosen left.0) row left.2 in
          let one : chosen.0 ≡ d ∷ [] = subst (Ends chosen.0) no_steps chosen.2 in
          let is : values ≡ d ∷ (chosen.1 ++ left.1) =
          left.4 ∙ ap (λ (o : List Data). o ++ left.1) (chosen.4 ∙ ap (λ (o : List Data). o ++ chosen.1) one) in
          (chosen.1 ++ left.1, is, (chosen.1, left.1, chosen.3, left.3, refl)),
      λ begins.
          let left = begins.2 in
          let chosen : Chosen (d ∷ left.0) (first ∷ others.now) = (d ∷ [], left.0, subst (Ends (d ∷ [])) (sym no_steps) refl, left.2, refl) in
          (d ∷ left.0, left.1, subst (Chosen (d ∷ left.0)) (sym row) chosen, left.3, begins.1 ∙ ap (λ (r : List Data). d ∷ r) left.4),
    )

-- a step leads on from the first value to those of another frame
pub left_below : OneMeaning → (objects : List Data) (frame : Frame) (frames : List Frame) (first : Json) (others : Bor (List Json)) (step : Step) (steps : List Step) (below : Frame)
    → frame.values.now ≡ first ∷ others.now → frame.steps.now ≡ step ∷ steps → frame_property below ≡ last_name (frame_property frame) step → below.steps.now ≡ steps
    → StepSelects objects (frame_property frame) step (data_of first) (data_in below.values.now)
    → (values : List Data) → LeftIn objects (frame ∷ frames) values ↔ LeftIn objects (below ∷ with_values frame others ∷ frames) values
left_below one objects frame frames first others step steps below row more last same selected values =
    let d = data_of first in
    let next = data_in below.values.now in
    let Chosen : List Data → List Json → Type 0 = λ own r. Joined (StepsSelect objects (frame_property frame) frame.steps.now) (data_in r) own in
    let Leads : List Data → List Step → Type 0 = λ own ss. StepsSelect objects (frame_property frame) ss d own in
    let On : Option (List ℕ) → List Step → List Data → List Data → Type 0 = λ name ss ds own. Joined (StepsSelect objects name ss) ds own in (
      λ left.
          let chosen = subst (Chosen left.0) row left.2 in
          let leads = subst (Leads chosen.0) more chosen.2 in
          let own = subst (λ (ds : List Data). On (last_name (frame_property frame) step) steps ds chosen.0) (one_step one objects (frame_property frame) step d leads.0 next leads.1 selected) leads.2 in
          let own_below = subst (λ (ss : List Step). On (frame_property below) ss next chosen.0) (sym same) (subst (λ (n : Option (List ℕ)). On n steps next chosen.0) (sym last) own) in
          let is : values ≡ chosen.0 ++ (chosen.1 ++ left.1) =
          left.4 ∙ ap (λ (o : List Data). o ++ left.1) chosen.4 ∙ append_assoc chosen.0 chosen.1 left.1 in
          (chosen.0, chosen.1 ++ left.1, own_below, (chosen.1, left.1, chosen.3, left.3, refl), is),
      λ left.
          let rest = left.3 in
          let own = subst (λ (n : Option (List ℕ)). On n steps next left.0) last (subst (λ (ss : List Step). On (frame_property below) ss next left.0) same left.2) in
          let leads : Leads left.0 (step ∷ steps) = (next, selected, own) in
          let chosen : Chosen (left.0 ++ rest.0) (first ∷ others.now) = (left.0, rest.0, subst (Leads left.0) (sym more) leads, rest.2, refl) in
          let is : values ≡ (left.0 ++ rest.0) ++ rest.1 =
          left.4 ∙ ap (λ (r : List Data). left.0 ++ r) rest.4 ∙ sym (append_assoc left.0 rest.0 rest.1) in
          (left.0 ++ rest.0, rest.1, subst (Chosen (left.0 ++ rest.0)) (sym row) chosen, rest.3, is),
    )

-- of one frame alone it is what that one selects
left_alone : (objects : List Data) (frame : Frame) (values : List Data) → LeftIn objects (frame ∷ []) values ↔ FrameSelects objects frame values
left_alone objects frame values = (
  λ left. subst (FrameSelects objects frame) (sym (left.4 ∙ ap (λ (r : List Data). left.0 ++ r) left.3 ∙ append-nil left.0)) left.2,
  λ own. (values, [], own, refl, sym (append-nil values)),
)

-- what the steps of a path select from its root, where it has one
abbrev FromRoot : List Data → Path → Option Data → List Data → Type 0
FromRoot objects path found values = MatchOption found (values ≡ []) (λ root. StepsSelect objects None path.steps root values)

joined_from : (objects : List Data) (path : Path) (found : Option Data) (values : List Data)
    → Joined (StepsSelect objects None path.steps) (option_to_list found) values ↔ FromRoot objects path found values
joined_from objects path None values = (λ none. none, λ none. none)
joined_from objects path (Some d) values = (
  λ own. subst (StepsSelect objects None path.steps d) (sym (own.4 ∙ ap (λ (r : List Data). own.0 ++ r) own.3 ∙ append-nil own.0)) own.2,
  λ own. (values, [], own, refl, sym (append-nil values)),
)

selects_from : (objects : List Data) (at : ℕ) (path : Path) (found : Option Data) → FindsExactly (IsRoot objects at path.kind) found
    → (values : List Data) → FromRoot objects path found values ↔ Selects objects at path values
selects_from objects at path found exact values = (
  λ own. (found, exact, own),
  λ selects.
      let same = one_found (IsRoot objects at path.kind) (one_root objects at path.kind) selects.0 found selects.1 exact in
      subst (λ (f : Option Data). FromRoot objects path f values) same selects.2,
)

-- a walk begins with what its path selects
pub left_at_root : (objects : List Data) (at : ℕ) (path : Path) (found : Option Data) (frame : Frame) → FindsExactly (IsRoot objects at path.kind) found
    → frame_property frame ≡ None → frame.steps.now ≡ path.steps → data_in frame.values.now ≡ option_to_list found
    → (values : List Data) → LeftIn objects (frame ∷ []) values ↔ Selects objects at path values
left_at_root objects at path found frame exact last steps row values =
    let Chooses : Option (List ℕ) → List Step → List Data → Type 0 = λ name ss ds. Joined (StepsSelect objects name ss) ds values in
    let alone = left_alone objects frame values in
    let from = joined_from objects path found values in
    let selects = selects_from objects at path found exact values in (
      λ left. selects.0 (from.0
          (subst (Chooses None path.steps) row (subst (λ (ss : List Step). Chooses None ss (data_in frame.values.now)) steps
          (subst (λ (n : Option (List ℕ)). Chooses n frame.steps.now (data_in frame.values.now)) last (alone.0 left))))),
      λ selected. alone.1
          (subst (λ (n : Option (List ℕ)). Chooses n frame.steps.now (data_in frame.values.now)) (sym last)
          (subst (λ (ss : List Step). Chooses None ss (data_in frame.values.now)) (sym steps)
          (subst (Chooses None path.steps) (sym row) (from.1 (selects.1 selected))))),
    )
