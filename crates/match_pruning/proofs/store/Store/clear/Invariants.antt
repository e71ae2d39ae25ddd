use Rattle.std.proofs.Common.{◌≡◌, length}
use Rattle.match_pruning.specs.inner.PartialMatches.{partial_match_trees}
use Rattle.match_pruning.specs.inner.Steps.{kept}
use Rattle.match_pruning.specs.inner.UpToOrder.{AreSameMultiset}
use Rattle.match_pruning.proofs.store.Store.clear.Given as goal

abbrev pub invariant-loop-first : goal.invariant-loop-first
invariant-loop-first l = record {
  heaped : l.self.heaped ≡ length l.self.held.items;
  same : AreSameMultiset (kept l.window l.now (partial_match_trees l.fn.self.held.items)) (kept l.window l.now (partial_match_trees l.self.held.items));
}

abbrev pub decreases-loop-first : goal.decreases-loop-first
decreases-loop-first l = length l.self.held.items
