use Rattle.std.proofs.Common.{◌≡◌, ◌+◌, ◌++◌}
use Rattle.match_stream.specs.RetainedPart.{held_count}
use Rattle.match_pruning.specs.inner.PartialMatches.{partial_match_trees}
use Rattle.match_pruning.specs.inner.Steps.{levels_new, levels_after}
use Rattle.match_stream.specs.inner.Nodes.{store_lists}
use Rattle.match_stream.proofs.level_step.step_made.Given as goal

abbrev pub invariant-loop-store : goal.invariant-loop-store
invariant-loop-store l = record {
  kept : store_lists l.made.items ≡ levels_after l.window l.now (partial_match_trees l.fn.first.items) (partial_match_trees l.new) (store_lists l.yielded);
  new : partial_match_trees l.sets.items ≡ levels_new l.window l.now (partial_match_trees l.fn.first.items) (partial_match_trees l.new) (store_lists l.yielded);
  counted : l.budget.left + held_count (levels_after l.window l.now (partial_match_trees l.fn.first.items) (partial_match_trees l.new) (store_lists l.yielded)) ≡ l.fn.budget.left;
  rest : l.yielded ++ l.store-iterator.rest.items ≡ l.fn.stores.items;
}
