use Rattle.std.proofs.Common.{◌≡◌}
use Rattle.std.specs.Prelude.{map}
use Rattle.match_bindings.specs.BindTree.{tree_of}
use Rattle.match_bindings.specs.inner.Candidates.{spanned_trees, trees_of}
use Rattle.match_bindings.proofs.bindings.binds_of.Given as goal

abbrev pub invariant-loop-one : goal.invariant-loop-one
invariant-loop-one l = map tree_of l.binds.items ≡ trees_of (spanned_trees l.yielded)
