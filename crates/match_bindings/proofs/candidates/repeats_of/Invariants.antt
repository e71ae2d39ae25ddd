use Rattle.std.proofs.Common.{◌≡◌}
use Rattle.match_bindings.specs.inner.Candidates.{spanned_trees, repeats_of}
use Rattle.match_bindings.proofs.candidates.repeats_of.Given as goal

abbrev pub invariant-loop-level : goal.invariant-loop-level
invariant-loop-level l = spanned_trees l.sets.items ≡ repeats_of l.bounds (spanned_trees l.parts) l.level
