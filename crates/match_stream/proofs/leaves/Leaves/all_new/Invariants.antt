use Rattle.std.proofs.Common.{◌≡◌, ◌-◌, ◌≤◌}
use Rattle.std.specs.Prelude.{map}
use Rattle.match_bindings.specs.BindTree.{firsts}
use Rattle.match_pruning.specs.inner.PartialMatches.{partial_match_trees}
use Rattle.match_pruning.specs.inner.Steps.{held_with, leaves_state, step_new}
use Rattle.match_stream.proofs.leaves.Leaves.all_new.Given as goal

abbrev pub invariant-loop-at : goal.invariant-loop-at
invariant-loop-at l = (l.at ≤ l.self.more)
    × (partial_match_trees l.new.items ≡ map (held_with (firsts (l.self.more - l.at))) (step_new l.row l.truths (leaves_state l.self.first l.at l.self.window)))
