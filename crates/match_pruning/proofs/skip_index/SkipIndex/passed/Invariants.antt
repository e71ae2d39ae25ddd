use Rattle.std.proofs.Common.{length}
use Rattle.match_pruning.specs.inner.SkipIndexes.{AreLevelsOf}
use Rattle.match_pruning.proofs.skip_index.SkipIndex.passed.Given as goal

abbrev pub invariant-levels : goal.invariant-levels
invariant-levels l = AreLevelsOf l.self.keys.items l.levels

abbrev pub decreases-levels : goal.decreases-levels
decreases-levels l = length l.levels
