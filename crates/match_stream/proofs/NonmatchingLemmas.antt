-- Leaves in ORs of which none holds give nothing, and stay as they are.
use Rattle.std.proofs.Common.{◌≡◌, ℕ, ◌+◌, List, [], ◌++◌, refl, sym, ◌∙◌, ap, arith, append-nil}
use Rattle.std.specs.Prelude.{Bool, map}
use Rattle.match_bindings.specs.BindTree.{First, Second, firsts}
use Rattle.match_pruning.specs.declared.row.Row.{Row}
use Rattle.match_pruning.specs.PartialMatchTree.{PartialMatchTree}
use Rattle.match_stream.specs.RetainedPart.{held_count}
use Rattle.match_pruning.specs.inner.Steps.{State, a_leaf, a_choice, a_join, a_limit, a_chain, held_with, step_new, step_state, contents_of, IsNonmatchingChain}
use Rattle.match_pruning.specs.inner.Needed.{PendingLeftTrees, needed}
use Rattle.match_stream.specs.inner.Totals.{held_after}

module _ (row : Row) (truths : List Bool) where
  pub nonmatching_new : (z : State) → IsNonmatchingChain truths z → step_new row truths z ≡ []
  nonmatching_new (a_leaf leaf window) off = rw off refl
  nonmatching_new (a_choice l r) off =
      ap (λ new. map (held_with First) new ++ map (held_with Second) (step_new row truths r)) (nonmatching_new l off.0) ∙ ap (map (held_with Second)) (nonmatching_new r off.1)
  nonmatching_new (a_join j l r sides) off = absurd off
  nonmatching_new (a_limit part) off = absurd off
  nonmatching_new (a_chain part count window levels) off = absurd off

  pub nonmatching_under : (z : State) → IsNonmatchingChain truths z → (count : ℕ) (ahead : List PendingLeftTrees) (left : List PartialMatchTree) →
      left ≡ left ++ map (held_with (firsts count)) (map (held_with Second) (needed row.last ahead (step_new row truths z)))
  nonmatching_under z nonmatching count ahead left =
      sym (append-nil left) ∙ sym (ap (λ new. left ++ map (held_with (firsts count)) (map (held_with Second) (needed row.last ahead new))) (nonmatching_new z nonmatching))

  pub nonmatching_state : (z : State) → IsNonmatchingChain truths z → z ≡ step_state row truths z
  nonmatching_state (a_leaf leaf window) off = refl
  nonmatching_state (a_choice l r) off = ap (λ z. a_choice z r) (nonmatching_state l off.0) ∙ ap (a_choice (step_state row truths l)) (nonmatching_state r off.1)
  nonmatching_state (a_join j l r sides) off = absurd off
  nonmatching_state (a_limit part) off = absurd off
  nonmatching_state (a_chain part count window levels) off = absurd off

  nonmatching_contents : (z : State) → IsNonmatchingChain truths z → contents_of z ≡ []
  nonmatching_contents (a_leaf leaf window) off = refl
  nonmatching_contents (a_choice l r) off = ap (λ held. held ++ contents_of r) (nonmatching_contents l off.0) ∙ nonmatching_contents r off.1
  nonmatching_contents (a_join j l r sides) off = absurd off
  nonmatching_contents (a_limit part) off = absurd off
  nonmatching_contents (a_chain part count window levels) off = absurd off

  pub nonmatching_counted : (z : State) → IsNonmatchingChain truths z → (budget : ℕ) → budget + held_after row truths z ≡ budget
  nonmatching_counted z nonmatching budget =
      let none : held_after row truths z ≡ 0 = ap (λ x. held_count (contents_of x)) (sym (nonmatching_state z nonmatching)) ∙ ap held_count (nonmatching_contents z nonmatching) in omega (arith, none)
