use Rattle.std.proofs.Common.{◌≡◌, ◌++◌}
use Rattle.std.specs.Prelude.{take}
use Rattle.match_bindings.specs.inner.Candidates.{spanned_tree, spanned_trees, span_join_row}
use Rattle.match_bindings.proofs.join.Join.join_row.Given as goal

abbrev pub invariant-loop-second : goal.invariant-loop-second
invariant-loop-second l =
    spanned_trees l.out.items ≡ spanned_trees l.fn.out.items ++ span_join_row l.self l.bounds (spanned_tree l.first) (spanned_trees (take l.second-index l.seconds))
