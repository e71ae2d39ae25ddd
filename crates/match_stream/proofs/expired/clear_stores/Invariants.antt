use Rattle.std.proofs.Common.{◌≡◌, take, drop, map, length}
use Rattle.match_pruning.specs.inner.Steps.{kept}
use Rattle.match_stream.specs.inner.Nodes.{store_lists}
use Rattle.match_pruning.specs.inner.UpToOrder.{AreSameLevels}
use Rattle.match_stream.proofs.expired.clear_stores.Given as goal

abbrev pub invariant-loop-store : goal.invariant-loop-store
invariant-loop-store l = record {
  same : AreSameLevels (map (kept l.window l.now) (store_lists (take l.store-index l.fn.stores.items))) (store_lists (take l.store-index l.store-items));
  rest : drop l.store-index l.store-items ≡ drop l.store-index l.fn.stores.items;
  length : length l.store-items ≡ length l.fn.stores.items;
}
