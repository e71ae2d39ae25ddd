use Rattle.std.proofs.Common.{◌≡◌, ◌-◌, ◌≤ℤ◌, length, ◌⊎◌}
use Rattle.std.specs.Prelude.{None}
use Rattle.std.specs.List.{Contains}
use Rattle.match_pruning.specs.PartialMatchTree.{PartialMatchTree}
use Rattle.match_pruning.specs.inner.PartialMatches.{partial_match_trees}
use Rattle.match_pruning.specs.inner.CompletionBounds.{MayBegin}
use Rattle.match_pruning.proofs.BegunLemmas.{IsAmongLast}
use Rattle.match_pruning.proofs.EndLemmas.{IsNoLaterEnd}
use Rattle.match_pruning.proofs.earliest_start.EarliestStart.first_end.Given as goal

abbrev pub decreases-loop-at : goal.decreases-loop-at
decreases-loop-at l = length l.store.held.items - l.start

abbrev pub invariant-loop-at : goal.invariant-loop-at
invariant-loop-at l = record {
  now : l.end.time ≤ℤ l.fn.now;
  free : l.end.time ≡ l.fn.now → l.end.number ≡ None;
  rest : (left : PartialMatchTree) → Contains (partial_match_trees l.store.held.items) left → MayBegin l.self left → IsAmongLast l.store.held.items l.start left ⊎ IsNoLaterEnd l.end left;
}
