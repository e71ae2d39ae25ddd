use Rattle.std.proofs.Common.{length}
use Rattle.hunt_index.proofs.paths.+steps_order.Given as goal

abbrev pub decreases-steps_order : goal.decreases-steps_order
decreases-steps_order l = length l.one.now
