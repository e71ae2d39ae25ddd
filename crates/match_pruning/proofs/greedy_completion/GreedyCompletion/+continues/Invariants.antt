use Rattle.std.proofs.Common.{length}
use Rattle.match_pruning.proofs.greedy_completion.GreedyCompletion.+continues.Given as goal

abbrev pub decreases-continues : goal.decreases-continues
decreases-continues l = length l.pending_lefts.now
