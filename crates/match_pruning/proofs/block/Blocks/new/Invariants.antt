use Rattle.std.proofs.Common.{◌-◌, length}
use Rattle.std.specs.List.{Contains}
use Rattle.match_pruning.specs.declared.block.Block.{Block}
use Rattle.match_pruning.specs.inner.SkipIndexes.{IsBlockOfKeys}
use Rattle.match_pruning.proofs.block.Blocks.new.Given as goal

abbrev pub invariant-cuts : goal.invariant-cuts
invariant-cuts l = (block : Block) → Contains l.blocks.items block → IsBlockOfKeys l.keys block

abbrev pub decreases-cuts : goal.decreases-cuts
decreases-cuts l = length l.keys - l.start
