use Rattle.std.proofs.Common.{◌≡◌, ◌++◌}
use Rattle.std.specs.Prelude.{take}
use Rattle.match_pruning.specs.inner.PartialMatches.{partial_match_trees}
use Rattle.match_pruning.specs.inner.Steps.{match_joins}
use Rattle.match_pruning.specs.inner.Needed.{needed}
use Rattle.match_pruning.specs.inner.PendingLefts.{pending_lefts_of}
use Rattle.match_pruning.proofs.joining.Joining.rows.Given as goal

abbrev pub invariant-loop-first : goal.invariant-loop-first
invariant-loop-first l = partial_match_trees l.out.items
    ≡ partial_match_trees l.fn.out.items ++ needed l.self.join_filter.now.time (pending_lefts_of l.self.join_filter.now.pending_lefts.now) (match_joins l.self.how (partial_match_trees (take l.first-index l.firsts)) (partial_match_trees l.seconds))
