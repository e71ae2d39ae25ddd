use Rattle.std.proofs.Common.{◌-◌, length}
use Rattle.match_pruning.specs.inner.PartialMatches.{partial_match_trees}
use Rattle.match_pruning.specs.inner.UpToOrder.{AreSameMultiset}
use Rattle.match_pruning.proofs.store.Store.heapify.Given as goal

abbrev pub invariant-loop-self : goal.invariant-loop-self
invariant-loop-self l = AreSameMultiset (partial_match_trees l.fn.self.held.items) (partial_match_trees l.self.held.items)

abbrev pub decreases-loop-self : goal.decreases-loop-self
decreases-loop-self l = length l.self.held.items - l.self.heaped
