use Rattle.std.proofs.Common.{◌+◌, ◌*◌}
use Rattle.pattern_types.specs.PlainPattern.{plain_pattern}
use Rattle.pattern_writer.proofs.SizesLemmas.{size}
use Rattle.pattern_writer.proofs.patterns.+patterns.Given as goal

abbrev pub decreases-write : goal.decreases-write
decreases-write l = 3 * size (plain_pattern l.pattern.now)

abbrev pub decreases-write_part : goal.decreases-write_part
decreases-write_part l = 3 * size (plain_pattern l.pattern.now) + 1

abbrev pub decreases-write_sides : goal.decreases-write_sides
decreases-write_sides l = 3 * size (plain_pattern l.left.now) + 3 * size (plain_pattern l.right.now) + 2
