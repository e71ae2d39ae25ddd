use Rattle.std.proofs.Common.{◌+◌, ◌*◌}
use Rattle.std.specs.Prelude.{max}
use Rattle.match_stream.proofs.node.Node.TheLaws.{the_size}
use Rattle.match_stream.proofs.node.+step.Given as goal

abbrev pub decreases-step : goal.decreases-step
decreases-step l = 4 * goal.size-step l

abbrev pub decreases-step_alone : goal.decreases-step_alone
decreases-step_alone l = 4 * goal.size-step_alone l + 1

abbrev pub decreases-step_right : goal.decreases-step_right
decreases-step_right l = 4 * goal.size-step_right l + 2

abbrev pub decreases-step_part : goal.decreases-step_part
decreases-step_part l = 4 * goal.size-step_part l + 2

abbrev pub decreases-step_first : goal.decreases-step_first
decreases-step_first l = 4 * goal.size-step_first l + 2

abbrev pub decreases-step_second : goal.decreases-step_second
decreases-step_second l = 4 * goal.size-step_second l + 2

abbrev pub decreases-step_sides : goal.decreases-step_sides
decreases-step_sides l = 4 * max (the_size l.left.now) (the_size l.right.now) + 3

abbrev pub decreases-step_either : goal.decreases-step_either
decreases-step_either l = 4 * max (the_size l.left.now) (the_size l.right.now) + 3

abbrev pub decreases-step_repeats : goal.decreases-step_repeats
decreases-step_repeats l = 4 * goal.size-step_repeats l + 3
