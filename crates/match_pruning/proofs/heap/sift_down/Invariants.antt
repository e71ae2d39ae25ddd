use Rattle.std.proofs.Common.{◌≡◌, ◌-◌, length}
use Rattle.match_pruning.specs.declared.partial_match.PartialMatch.{PartialMatch}
use Rattle.match_pruning.specs.inner.PartialMatches.{partial_match_trees}
use Rattle.match_pruning.specs.inner.Heaps.{time_at}
use Rattle.match_pruning.specs.inner.UpToOrder.{AreSameMultiset}
use Rattle.match_pruning.proofs.HeapLemmas.{Sinks}
use Rattle.match_pruning.proofs.heap.sift_down.Given as goal

abbrev pub invariant-loop-child : goal.invariant-loop-child
invariant-loop-child l = record {
  many : length l.held ≡ length l.fn.held;
  sinks : (d : PartialMatch) → Sinks (time_at l.held d) (length l.held) l.at;
  same : AreSameMultiset (partial_match_trees l.fn.held) (partial_match_trees l.held);
}

abbrev pub decreases-loop-child : goal.decreases-loop-child
decreases-loop-child l = length l.held - l.at
