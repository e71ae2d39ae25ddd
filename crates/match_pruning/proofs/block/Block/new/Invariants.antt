use Rattle.std.proofs.Common.{◌≡◌}
use Rattle.std.specs.List.{AllWithin}
use Rattle.match_pruning.specs.inner.SkipIndexes.{IsCommonTo}
use Rattle.match_pruning.proofs.block.Block.new.Given as goal

abbrev pub invariant-places : goal.invariant-places
invariant-places l = record {
  start : l.block.start ≡ l.fn.start;
  end : l.block.end ≡ l.fn.end;
  over : AllWithin (IsCommonTo l.block) l.keys l.fn.start l.place;
}
