use Rattle.std.proofs.Common.{◌≡◌, ◌++◌}
use Rattle.std.specs.Prelude.{map}
use Rattle.match_bindings.specs.BindTree.{Second}
use Rattle.match_bindings.specs.inner.Candidates.{spanned_trees, spanned_with}
use Rattle.match_bindings.proofs.candidates.push_seconds.Given as goal

abbrev pub invariant-loop-second : goal.invariant-loop-second
invariant-loop-second l = spanned_trees l.out.items ≡ spanned_trees l.fn.out.items ++ map (spanned_with Second) (spanned_trees l.yielded)
