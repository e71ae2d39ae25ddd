-- The next one that begins by the end so far, which may begin so, or may not.
use Rattle.std.proofs.Common.{◌≡◌, ◌+◌, ◌≤ℤ◌, ℕ, ℤ, List, length, get_or, sym, ◌∙◌, ap, subst, refl, ◌⊎◌, inl, inr}
use Rattle.std.specs.Prelude.{true, false, Option, Some, None}
use Rattle.std.specs.List.{Contains}
use Rattle.match_pruning.specs.declared.partial_match.PartialMatch.{PartialMatch}
use Rattle.match_pruning.specs.inner.Heaps.{AreLater}
use Rattle.match_pruning.specs.declared.earliest_start.End.{End}
use Rattle.match_pruning.specs.PartialMatchTree.{PartialMatchTree}
use Rattle.match_pruning.specs.inner.PartialMatches.{partial_match_tree, partial_match_trees}
use Rattle.match_pruning.specs.inner.CompletionBounds.{MayBegin}
use Rattle.match_pruning.proofs.RetainsLemmas.{le_both, le_trans, le_self}
use Rattle.match_pruning.proofs.CompletionBoundLemmas.{held_span}
use Rattle.match_pruning.proofs.BegunLemmas.{IsAmongLast, among_from_first, among_next, no_next}
use Rattle.match_pruning.proofs.EndLemmas.{IsNoLaterEnd, ends_before, ends_sooner}
use Rattle.match_pruning.proofs.earliest_start.EarliestStart.first_end.Goals as goal
use Rattle.match_pruning.proofs.earliest_start.EarliestStart.first_end.Goals.{then-may_begin, else-may_begin}

-- a number that is none is none
none_is : (o : Option ℕ) → ((n : ℕ) → ¬ (o ≡ Some n)) → o ≡ None
none_is None h = refl
none_is (Some n) h = absurd (h n refl)

pub returns-then-is_now-clause-held : goal.returns-then-is_now-clause-held
returns-then-is_now-clause-held c = λ left there may.
    le_trans c.args.now left.earliest left.latest (c.is_now.ensures c.if-is_now.true left.earliest may.covered) (held_span c.args.store.now.held.items left there)

pub loop-at-init : goal.loop-at-init
loop-at-init c = record {
  now = le_self c.args.now;
  free = λ e. refl;
  rest = λ left there may. inl (among_from_first c.args.store.now.held.items left there);
}

pub loop-at-preserved : goal.loop-at-preserved
loop-at-preserved c =
    let d = c.index-left.result.now in let held = c.args.store.now.held.items in let at = c.in-Some.at in let next = c.in-Some.ensures.some in
    let before = c.loop-at.invariant in let end = c.loop-at.end in let now = c.args.now in
    let is : (left : PartialMatchTree) → ((x : PartialMatch) → partial_match_tree (get_or held at x) ≡ left) → partial_match_tree d ≡ left
    = λ left here. ap partial_match_tree c.index-left.ensures ∙ here d in
    elim c.if-may_begin.branch [
      | then-may_begin w ↦ (
          let new = w.with-end.result in let told = w.with-end.ensures in
          let sooner : (left : PartialMatchTree) → IsNoLaterEnd end left → IsNoLaterEnd new left = λ left old. ends_sooner end new left told.before told.kept old in
          let rest : (left : PartialMatchTree) → Contains (partial_match_trees held) left → MayBegin c.args.self.now left → IsAmongLast held (at + 1) left ⊎ IsNoLaterEnd new left
          = λ left there may. elim (before.rest left there may) [
            | inl one ↦ elim (among_next held end.time at c.loop-at.start left next one) [
              | inl later ↦ inl later
              | inr other ↦ elim other [
                | inl here ↦ inr (subst (λ (q : PartialMatchTree). IsNoLaterEnd new q) (is left here) (record { time = told.first; number = told.bound }))
                | inr after ↦ inr (sooner left (ends_before end left after (held_span held left there)))
              ]
            ]
            | inr old ↦ inr (sooner left old)
          ] in
          record {
            now = subst (λ (z : End). z.time ≤ℤ now) (sym w.end-is) (le_trans new.time end.time now told.before before.now);
            free = λ same.
                let new_now : new.time ≡ now = ap (λ (z : End). z.time) (sym w.end-is) ∙ same in
                let old_now : end.time ≡ now = le_both end.time now before.now (subst (λ (t : ℤ). t ≤ℤ end.time) new_now told.before) in
                ap (λ (z : End). z.number) w.end-is
                ∙ none_is new.number (λ n is. let e : None ≡ Some n = sym (before.free old_now) ∙ told.kept n is (new_now ∙ sym old_now) in absurd (cc));
            rest = λ left there may. subst (λ (z : End). IsAmongLast held (at + 1) left ⊎ IsNoLaterEnd z left) (sym w.end-is) (rest left there may);
          })
      | else-may_begin w ↦ (
          let rest : (left : PartialMatchTree) → Contains (partial_match_trees held) left → MayBegin c.args.self.now left → IsAmongLast held (at + 1) left ⊎ IsNoLaterEnd end left
          = λ left there may. elim (before.rest left there may) [
            | inl one ↦ elim (among_next held end.time at c.loop-at.start left next one) [
              | inl later ↦ inl later
              | inr other ↦ elim other [
                | inl here ↦ absurd (
                    let e : false ≡ true
                    = sym w.if-may_begin.false ∙ c.may_begin.ensures (subst (λ (q : PartialMatchTree). MayBegin c.args.self.now q) (sym (is left here)) may) in cc)
                | inr after ↦ inr (ends_before end left after (held_span held left there))
              ]
            ]
            | inr old ↦ inr old
          ] in
          record {
            now = subst (λ (z : End). z.time ≤ℤ now) (sym w.end-is) before.now;
            free = λ same. ap (λ (z : End). z.number) w.end-is ∙ before.free (ap (λ (z : End). z.time) (sym w.end-is) ∙ same);
            rest = λ left there may. subst (λ (z : End). IsAmongLast held (at + 1) left ⊎ IsNoLaterEnd z left) (sym w.end-is) (rest left there may);
          })
    ]

-- at the end none is left
all : (held : List PartialMatch) (end : End) (start : ℕ) (left : PartialMatchTree) → Contains (partial_match_trees held) left → AreLater held end.time start (length held) →
    IsAmongLast held start left ⊎ IsNoLaterEnd end left → IsNoLaterEnd end left
all held end start left there none (inl one) = ends_before end left (no_next held end.time start left none one) (held_span held left there)
all held end start left there none (inr is) = is

pub returns-clause-held : goal.returns-clause-held
returns-clause-held c = λ left there may.
    (all c.args.store.now.held.items c.loop-at.end c.loop-at.start left there c.in_default.ensures.none (c.loop-at.invariant.rest left there may)).time

pub returns-clause-number : goal.returns-clause-number
returns-clause-number c = λ left there may.
    (all c.args.store.now.held.items c.loop-at.end c.loop-at.start left there c.in_default.ensures.none (c.loop-at.invariant.rest left there may)).number
