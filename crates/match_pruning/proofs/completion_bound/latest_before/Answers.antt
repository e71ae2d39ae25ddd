-- One more from the end, which is later than the latest so far, or isn't.
use Rattle.std.proofs.Common.{rules, length, ◌≡◌, ◌≤ℤ◌, ◌<ℤ◌, ℤ, refl, sym, ◌∙◌, ap, subst, inl, inr, arith}
use Rattle.std.specs.Prelude.{true, false, Some}
use Rattle.match_pruning.specs.PartialMatchTree.{PartialMatchTree}
use Rattle.match_pruning.specs.inner.PartialMatches.{partial_match_tree}
use Rattle.match_pruning.specs.inner.CompletionBounds.{may_precede}
use Rattle.match_pruning.proofs.HeapLemmas.{lt_le}
use Rattle.match_pruning.proofs.RetainsLemmas.{le_self, le_trans}
use Rattle.match_pruning.proofs.BegunLemmas.{among_all, among_begun, none_begun}
use Rattle.match_pruning.proofs.completion_bound.latest_before.Goals as goal
use Rattle.match_pruning.proofs.completion_bound.latest_before.Goals.{else-is_later-via-then-is_later+else-may_precede, else-is_later-via-else-is_later}

pub loop-at-init : goal.loop-at-init
loop-at-init c =
    let all : c.len-end.result ≡ length c.args.store.now.held.items = search rules in record {
      within = omega (arith, all);
      rest = λ left there may before. inl (among_all c.args.store.now.held.items c.len-end.result left all there);
    }

pub loop-at-preserved : goal.loop-at-preserved
loop-at-preserved c =
    let l = c.index-left.result.now in let held = c.args.store.now.held.items in let at = c.in-Some.at in let last = c.in-Some.ensures.some in
    let inside = last.inside in
    record {
      within = omega (arith, inside, c.loop-at.invariant.within);
      rest = λ left there may before.
          elim (c.loop-at.invariant.rest left there may before) [
            | inl one ↦ elim (among_begun held c.args.bound at c.loop-at.end left last one (lt_le left.earliest c.args.bound before)) [
              | inl e ↦ inl e
              | inr here ↦ inr (
                  let is : partial_match_tree l ≡ left = ap partial_match_tree c.index-left.ensures ∙ here l in
                  elim c.else-is_later.branch [
                    | else-is_later-via-then-is_later+else-may_precede w ↦ absurd (
                        let e : false ≡ true
                        = sym w.if-may_precede.false ∙ w.may_precede.ensures ∙ ap (λ (q : PartialMatchTree). may_precede q c.args.bound (partial_match_tree c.args.partial_match.now)) is ∙ may in cc)
                    | else-is_later-via-else-is_later w ↦
                        subst (λ (q : PartialMatchTree). (start : ℤ) × (c.loop-at.latest ≡ Some start) × (q.earliest ≤ℤ start)) is
                        (c.is_between-is_later.ensures.out w.if-is_later.false (subst (λ (q : PartialMatchTree). q.earliest <ℤ c.args.bound) (sym is) before))
                  ])
            ]
            | inr found ↦ inr found
          ];
    }

pub loop-at-preserved-then-may_precede : goal.loop-at-preserved-then-may_precede
loop-at-preserved-then-may_precede c =
    let l = c.index-left.result.now in let held = c.args.store.now.held.items in let at = c.in-Some.at in let last = c.in-Some.ensures.some in
    let inside = last.inside in
    record {
      within = omega (arith, inside, c.loop-at.invariant.within);
      rest = λ left there may before.
          elim (c.loop-at.invariant.rest left there may before) [
            | inl one ↦ elim (among_begun held c.args.bound at c.loop-at.end left last one (lt_le left.earliest c.args.bound before)) [
              | inl e ↦ inl e
              | inr here ↦ inr (l.earliest, refl, subst (λ (q : PartialMatchTree). q.earliest ≤ℤ l.earliest) (ap partial_match_tree c.index-left.ensures ∙ here l) (le_self l.earliest))
            ]
            | inr found ↦ inr (l.earliest, refl, le_trans left.earliest found.0 l.earliest found.2 (c.is_between-is_later.ensures.later c.if-is_later.true found.0 found.1))
          ];
    }

pub returns : goal.returns
returns c = λ left there may before.
    elim (c.loop-at.invariant.rest left there may before) [
      | inl one ↦ absurd (none_begun c.args.store.now.held.items c.args.bound c.loop-at.end left c.in_default.ensures.none one (lt_le left.earliest c.args.bound before))
      | inr found ↦ found
    ]
