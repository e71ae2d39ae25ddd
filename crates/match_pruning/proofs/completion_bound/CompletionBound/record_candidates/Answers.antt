-- One place more, of which a choice is noted or isn't.
use Rattle.std.proofs.Common.{◌+◌, List, refl, sym, ◌∙◌, subst}
use Rattle.match_bindings.specs.BindTree.{Pair}
use Rattle.match_pruning.specs.declared.matching.Neighbors.{Neighbors}
use Rattle.match_pruning.specs.inner.Picks.{HasPerfectMatching}
use Rattle.match_pruning.proofs.PicksLemmas.{HasPicksTo, picks_start, picks_end, picks_pass, picks_more}
use Rattle.match_pruning.specs.inner.CompletionBounds.{IsInCandidateSet}
use Rattle.match_pruning.proofs.CompletionBoundLemmas.{held_once}
use Rattle.match_pruning.proofs.completion_bound.CompletionBound.record_candidates.Goals as goal

pub loop-place-init : goal.loop-place-init
loop-place-init c = record {
  earliest = refl;
  picks = λ left x there may e apart h. picks_start c.args.self.now.matching.list.items left.tree x h;
}

pub returns-then-not-branch-clause-noted : goal.returns-then-not-branch-clause-noted
returns-then-not-branch-clause-noted c = λ left x there may e apart h.
    let before = c.loop-place.invariant in
    let found = subst (λ candidate_set. IsInCandidateSet candidate_set c.loop-place.place left.tree) c.in-Few.is (c.in_ok-numbers.ensures left there may (e ∙ sym before.earliest)) in
    let more = picks_more c.loop-place.place c.loop-place.self.matching.list.items (record { numbers = c.in-Few.numbers }) left.tree x
    (before.picks left x there may e apart h) apart (held_once c.args.store.now.held.items left there) found in
    absurd (c.in_ok-admit.ensures.short c.if-not-branch.true (Pair left.tree x)
    (subst (λ (z : List Neighbors). HasPerfectMatching z (Pair left.tree x)) (sym c.in_ok-admit.ensures.added) (picks_end (c.loop-place.place + 1) _ left.tree x more)))

pub loop-place-preserved-in-Many : goal.loop-place-preserved-in-Many
loop-place-preserved-in-Many c =
    let before = c.loop-place.invariant in
    record {
      earliest = before.earliest;
      picks = λ left x there may e apart h. picks_pass c.loop-place.place c.loop-place.self.matching.list.items left.tree x (before.picks left x there may e apart h);
    }

pub loop-place-preserved : goal.loop-place-preserved
loop-place-preserved c =
    let before = c.loop-place.invariant in let place = c.loop-place.place in
    record {
      earliest = before.earliest;
      picks = λ left x there may e apart h.
          let found = subst (λ candidate_set. IsInCandidateSet candidate_set place left.tree) c.in-Few.is (c.in_ok-numbers.ensures left there may (e ∙ sym before.earliest)) in
          let more = picks_more place c.loop-place.self.matching.list.items (record { numbers = c.in-Few.numbers }) left.tree x
          (before.picks left x there may e apart h) apart (held_once c.args.store.now.held.items left there) found in
          subst (λ (z : List Neighbors). HasPicksTo (place + 1) z left.tree x) (sym c.in_ok-admit.ensures.added) more;
    }
