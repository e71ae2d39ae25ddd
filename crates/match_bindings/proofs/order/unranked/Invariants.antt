use Rattle.std.proofs.Common.{◌≡◌}
use Rattle.std.specs.Prelude.{map}
use Rattle.match_bindings.specs.BindTree.{tree_of}
use Rattle.match_bindings.specs.Ranks.{ranked_trees}
use Rattle.match_bindings.proofs.order.unranked.Given as goal

abbrev pub invariant-loop-one : goal.invariant-loop-one
invariant-loop-one l = map tree_of l.binds.items ≡ ranked_trees l.yielded
