use Rattle.std.proofs.Common.{◌≡◌, ◌≤◌, ◌+◌, length}
use Rattle.match_pruning.specs.declared.partial_match.PartialMatch.{PartialMatch}
use Rattle.match_pruning.specs.inner.PartialMatches.{partial_match_trees}
use Rattle.match_pruning.specs.inner.Heaps.{time_at}
use Rattle.match_pruning.specs.inner.UpToOrder.{AreSameMultiset}
use Rattle.match_pruning.proofs.HeapLemmas.{Ascends}
use Rattle.match_pruning.proofs.heap.sift_up.Given as goal

abbrev pub invariant-loop-at : goal.invariant-loop-at
invariant-loop-at l = record {
  below : l.at ≤ l.place;
  many : length l.held ≡ length l.fn.held;
  ascends : (d : PartialMatch) → Ascends (time_at l.held d) (l.place + 1) l.at;
  same : AreSameMultiset (partial_match_trees l.fn.held) (partial_match_trees l.held);
}

abbrev pub decreases-loop-at : goal.decreases-loop-at
decreases-loop-at l = l.at
