use Rattle.std.proofs.Common.{◌≡◌, ◌++◌}
use Rattle.std.specs.Prelude.{take}
use Rattle.match_pruning.specs.inner.PartialMatches.{partial_match_tree, partial_match_trees}
use Rattle.match_pruning.specs.inner.Steps.{match_join_row}
use Rattle.match_pruning.specs.inner.Needed.{needed}
use Rattle.match_pruning.specs.inner.PendingLefts.{pending_lefts_of}
use Rattle.match_pruning.proofs.joining.Joining.each.Given as goal

abbrev pub invariant-loop-second : goal.invariant-loop-second
invariant-loop-second l = partial_match_trees l.out.items
    ≡ partial_match_trees l.fn.out.items ++ needed l.self.join_filter.now.time (pending_lefts_of l.self.join_filter.now.pending_lefts.now) (match_join_row l.self.how (partial_match_tree l.first) (partial_match_trees (take l.second-index l.seconds)))
