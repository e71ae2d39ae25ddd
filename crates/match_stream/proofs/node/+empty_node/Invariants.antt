use Rattle.std.proofs.Common.{◌+◌, ◌*◌}
use Rattle.std.specs.Prelude.{max}
use Rattle.pattern_types.proofs.pattern.Pattern.TheLaws.{the_size}
use Rattle.match_stream.proofs.node.+empty_node.Given as goal

abbrev pub decreases-empty_node : goal.decreases-empty_node
decreases-empty_node l = 2 * goal.size-empty_node l

abbrev pub decreases-empty_sides : goal.decreases-empty_sides
decreases-empty_sides l = 2 * max (the_size l.left.now) (the_size l.right.now) + 1

abbrev pub decreases-empty_either : goal.decreases-empty_either
decreases-empty_either l = 2 * max (the_size l.left.now) (the_size l.right.now) + 1
