use Rattle.std.proofs.Common.{◌≤◌, ◌-◌, length}
use Rattle.match_pruning.specs.inner.Heaps.{AreLater}
use Rattle.match_pruning.proofs.heap.next_begun.Given as goal

abbrev pub invariant-loop-at : goal.invariant-loop-at
invariant-loop-at l = record {
  after : l.start ≤ l.at;
  later : AreLater l.held l.time l.start l.at;
}

abbrev pub decreases-loop-at : goal.decreases-loop-at
decreases-loop-at l = length l.held - l.at
