use Rattle.std.proofs.Common.{length}
use Rattle.match_pruning.proofs.completion_bound.CompletionBound.+may_continue.Given as goal

abbrev pub decreases-may_continue : goal.decreases-may_continue
decreases-may_continue l = length l.pending_lefts.now
