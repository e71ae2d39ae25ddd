use Rattle.std.proofs.Common.{◌+◌, ◌*◌}
use Rattle.std.specs.Prelude.{max}
use Rattle.pattern_types.proofs.pattern.Pattern.TheLaws.{the_size}
use Rattle.match_bindings.proofs.candidates.+candidates.Given as goal

abbrev pub decreases-candidates : goal.decreases-candidates
decreases-candidates l = 2 * goal.size-candidates l

abbrev pub decreases-joined_sides : goal.decreases-joined_sides
decreases-joined_sides l = 2 * max (the_size l.left.now) (the_size l.right.now) + 1

abbrev pub decreases-either_side : goal.decreases-either_side
decreases-either_side l = 2 * max (the_size l.left.now) (the_size l.right.now) + 1
