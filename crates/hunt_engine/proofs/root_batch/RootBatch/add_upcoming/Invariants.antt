use Rattle.std.specs.Prelude.{Contains, map}
use Rattle.stix_bundles.specs.Objects.{data_in}
use Rattle.pattern_types.specs.PlainLeaf.{plain_leaf}
use Rattle.hunt_engine.specs.inner.RootBatches.{IsRootBatch}
use Rattle.hunt_engine.proofs.root_batch.RootBatch.add_upcoming.Given as goal

abbrev pub invariant-loop-next : goal.invariant-loop-next
invariant-loop-next l = record {
  is : IsRootBatch (data_in l.bundle) (map plain_leaf l.index) l.self.roots.items l.self.pairs.items;
  there : Contains l.fn.self.roots.items l.root → Contains l.self.roots.items l.root;
}
