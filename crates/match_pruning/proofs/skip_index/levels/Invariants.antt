use Rattle.std.proofs.Common.{◌<◌, ◌-◌, length}
use Rattle.match_pruning.specs.inner.SkipIndexes.{AreLevelsOf}
use Rattle.match_pruning.proofs.skip_index.levels.Given as goal

abbrev pub invariant-sizes : goal.invariant-sizes
invariant-sizes l = record { some : 0 < l.size; levels : AreLevelsOf l.keys l.levels.items }

abbrev pub decreases-sizes : goal.decreases-sizes
decreases-sizes l = length l.keys - l.size
