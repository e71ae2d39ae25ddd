use Rattle.std.proofs.Common.{◌≡◌, ◌≤◌, length}
use Rattle.match_pruning.proofs.greedy_completion.GreedyCompletion.take_last.Given as goal

abbrev pub decreases-loop-at : goal.decreases-loop-at
decreases-loop-at l = l.end

abbrev pub invariant-loop-at : goal.invariant-loop-at
invariant-loop-at l = record {
  within : l.end ≤ length l.store.held.items;
  earliest : l.self.earliest ≡ l.fn.self.earliest;
  numbers : l.self.numbers.items ≡ l.fn.self.numbers.items;
}
