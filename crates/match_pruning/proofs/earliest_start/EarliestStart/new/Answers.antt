-- One pending left more, which is the innermost so far.
use Rattle.std.proofs.Common.{◌≡◌, ◌+◌, List, ◌∷◌, get_or, take, sym, ◌∙◌, ap, subst}
use Rattle.std.specs.Prelude.{true}
use Rattle.std.proofs.lemmas.List.{take_more}
use Rattle.match_pruning.specs.declared.pending_left.PendingLeft.{PendingLeft}
use Rattle.match_pruning.specs.inner.Needed.{PendingLeftTrees, is_needed}
use Rattle.match_pruning.specs.inner.PendingLefts.{pending_left_trees, pending_lefts_of}
use Rattle.match_pruning.proofs.NeededLemmas.{pending_lefts_more}
use Rattle.match_pruning.proofs.CompletionBoundLemmas.{held_span}
use Rattle.match_pruning.proofs.EarliestStartLemmas.{earliest_start_more}
use Rattle.match_pruning.proofs.earliest_start.EarliestStart.new.Goals as goal

pub loop-pending_left-preserved : goal.loop-pending_left-preserved
loop-pending_left-preserved c = λ partial_match wants.
    let x = c.pending_left-item.result in let pending_lefts = c.args.pending_lefts.now in let at = c.loop-pending_left.pending_left-index in
    let next : pending_lefts_of (take (at + 1) pending_lefts) ≡ pending_left_trees (get_or pending_lefts at x) ∷ pending_lefts_of (take at pending_lefts)
    = ap pending_lefts_of (take_more pending_lefts at x c.loop-pending_left-test.true) ∙ pending_lefts_more (take at pending_lefts) (get_or pending_lefts at x) in
    let named : pending_lefts_of (take (at + 1) pending_lefts) ≡ pending_left_trees x ∷ pending_lefts_of (take at pending_lefts)
    = next ∙ ap (λ (l : PendingLeft). pending_left_trees l ∷ pending_lefts_of (take at pending_lefts)) (sym c.pending_left-item.is) in
    earliest_start_more c.args.now (pending_left_trees x) (pending_lefts_of (take at pending_lefts)) c.loop-pending_left.earliest_start c.under-earliest_start.result partial_match
    c.under-earliest_start.ensures.any c.under-earliest_start.ensures.now c.under-earliest_start.ensures.free c.under-earliest_start.ensures.held (held_span x.left.held.items) c.loop-pending_left.invariant
    (subst (λ (z : List PendingLeftTrees). is_needed c.args.now z partial_match ≡ true) named wants)
