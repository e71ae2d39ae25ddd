use Rattle.std.proofs.Common.{length}
use Rattle.match_pruning.proofs.matching.+push_tried.Given as goal

abbrev pub decreases-push_tried : goal.decreases-push_tried
decreases-push_tried l = length l.matching.now
