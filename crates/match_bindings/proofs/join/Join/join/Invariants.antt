use Rattle.std.proofs.Common.{◌≡◌}
use Rattle.std.specs.Prelude.{take}
use Rattle.match_bindings.specs.inner.Candidates.{spanned_trees, span_joins}
use Rattle.match_bindings.proofs.join.Join.join.Given as goal

abbrev pub invariant-loop-first : goal.invariant-loop-first
invariant-loop-first l = spanned_trees l.out.items ≡ span_joins l.self l.bounds (spanned_trees (take l.first-index l.firsts)) (spanned_trees l.seconds)
