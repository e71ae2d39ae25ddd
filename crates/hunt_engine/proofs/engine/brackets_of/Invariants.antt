use Rattle.std.proofs.Common.{◌≡◌, ◌<◌, ◌^◌, length, take}
use Rattle.std.specs.Prelude.{All, map}
use Rattle.pattern_types.specs.PlainLeaf.{plain_leaf}
use Rattle.pattern_types.specs.PlainPattern.{plain_pattern}
use Rattle.pattern_types.specs.Soundness.{IsSoundLeaf}
use Rattle.hunt_engine.specs.Memo.{brackets_of}
use Rattle.hunt_engine.specs.inner.Table.{IsTable}
use Rattle.hunt_engine.proofs.engine.brackets_of.Given as goal

abbrev pub invariant-loop-indicator : goal.invariant-loop-indicator
invariant-loop-indicator l = record {
  table : IsTable (map plain_pattern (map (λ h. h.pattern) (take l.indicator-index l.hunted))) (map plain_leaf (map (λ leaf. leaf.now) l.brackets.leaves.items)) l.brackets.owners.items l.brackets.bracket_ranges.items;
  sound : All IsSoundLeaf (map plain_leaf (map (λ leaf. leaf.now) l.brackets.leaves.items));
  leaves : map plain_leaf (map (λ leaf. leaf.now) l.brackets.leaves.items) ≡ brackets_of (map (λ h. h.pattern) (take l.indicator-index l.hunted));
  few : length l.brackets.leaves.items < 2 ^ 32;
}
