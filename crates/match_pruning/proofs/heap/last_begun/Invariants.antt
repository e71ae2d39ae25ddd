use Rattle.std.proofs.Common.{◌≤◌}
use Rattle.match_pruning.specs.inner.Heaps.{AreLater}
use Rattle.match_pruning.proofs.heap.last_begun.Given as goal

abbrev pub invariant-loop-from : goal.invariant-loop-from
invariant-loop-from l = record {
  within : l.from ≤ l.end;
  later : AreLater l.held l.time l.from l.end;
}

abbrev pub decreases-loop-from : goal.decreases-loop-from
decreases-loop-from l = l.from
