use Rattle.std.proofs.Common.{◌≡◌}
use Rattle.std.specs.Prelude.{map}
use Rattle.match_bindings.specs.BindTree.{tree_of}
use Rattle.match_pruning.specs.PartialMatchTree.{trees_in}
use Rattle.match_pruning.specs.inner.PartialMatches.{partial_match_trees}
use Rattle.match_stream.proofs.run.binds_of.Given as goal

abbrev pub invariant-loop-one : goal.invariant-loop-one
invariant-loop-one l = map tree_of l.binds.items ≡ trees_in (partial_match_trees l.yielded)
