use Rattle.std.specs.Prelude.{map}
use Rattle.stix_bundles.specs.Objects.{data_in}
use Rattle.pattern_types.specs.PlainLeaf.{plain_leaf}
use Rattle.hunt_engine.specs.Memo.{IsSoundMemo}
use Rattle.hunt_engine.specs.inner.Evaluation.{MarkedSoFar}
use Rattle.hunt_engine.proofs.evaluation.mark_matching.Given as goal

abbrev pub invariant-loop-root : goal.invariant-loop-root
invariant-loop-root l = record {
  right : IsSoundMemo (data_in l.bundle) (map plain_leaf (map (λ leaf. leaf.now) l.brackets.leaves.items)) l.memo;
  marked : MarkedSoFar (data_in l.bundle) l.roots (map plain_leaf (map (λ leaf. leaf.now) l.brackets.leaves.items)) l.root-index l.marks l.positions.items;
}
