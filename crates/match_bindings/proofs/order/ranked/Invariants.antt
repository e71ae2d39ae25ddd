use Rattle.std.proofs.Common.{◌≡◌}
use Rattle.std.specs.Prelude.{map}
use Rattle.match_bindings.specs.BindTree.{tree_of}
use Rattle.match_bindings.specs.Ranks.{ranked_trees}
use Rattle.match_bindings.proofs.order.ranked.Given as goal

abbrev pub invariant-loop-bind : goal.invariant-loop-bind
invariant-loop-bind l = ranked_trees l.all.items ≡ map tree_of l.yielded
