use Rattle.std.proofs.Common.{◌≡◌}
use Rattle.match_bindings.specs.Log.{observed_in}
use Rattle.match_bindings.specs.inner.Candidates.{spanned_trees, ones}
use Rattle.match_bindings.proofs.candidates.found_at_leaf.Given as goal

abbrev pub invariant-loop-at : goal.invariant-loop-at
invariant-loop-at l = spanned_trees l.out.items ≡ ones (observed_in l.log) l.bounds l.leaf l.at
