use Rattle.std.proofs.Common.{◌≡◌, ◌≤◌, ◌≤ℤ◌, ◌<ℤ◌, ℤ, true, Some, length, ◌⊎◌}
use Rattle.std.specs.List.{Contains}
use Rattle.match_pruning.specs.PartialMatchTree.{PartialMatchTree}
use Rattle.match_pruning.specs.inner.PartialMatches.{partial_match_tree, partial_match_trees}
use Rattle.match_pruning.specs.inner.CompletionBounds.{may_precede}
use Rattle.match_pruning.proofs.BegunLemmas.{IsAmongFirst}
use Rattle.match_pruning.proofs.completion_bound.latest_before.Given as goal

abbrev pub decreases-loop-at : goal.decreases-loop-at
decreases-loop-at l = l.end

abbrev pub invariant-loop-at : goal.invariant-loop-at
invariant-loop-at l = record {
  within : l.end ≤ length l.store.held.items;
  rest : (left : PartialMatchTree) → Contains (partial_match_trees l.store.held.items) left → may_precede left l.bound (partial_match_tree l.partial_match) ≡ true → left.earliest <ℤ l.bound →
      IsAmongFirst l.store.held.items l.end left ⊎ ((time : ℤ) × (l.latest ≡ Some time) × (left.earliest ≤ℤ time));
}
