use Rattle.std.proofs.Common.{◌≡◌, ◌++◌}
use Rattle.std.specs.Prelude.{map}
use Rattle.match_bindings.specs.BindTree.{First}
use Rattle.match_bindings.specs.inner.Candidates.{spanned_trees, spanned_with}
use Rattle.match_bindings.proofs.candidates.push_firsts.Given as goal

abbrev pub invariant-loop-first : goal.invariant-loop-first
invariant-loop-first l = spanned_trees l.out.items ≡ spanned_trees l.fn.out.items ++ map (spanned_with First) (spanned_trees l.yielded)
