use Rattle.std.specs.Prelude.{map}
use Rattle.stix_bundles.specs.Objects.{data_in}
use Rattle.pattern_types.specs.PlainLeaf.{plain_leaf}
use Rattle.hunt_engine.specs.inner.Evaluation.{MatchingSoFar}
use Rattle.hunt_engine.proofs.memoizing.matching_at.Given as goal

abbrev pub invariant-loop-position : goal.invariant-loop-position
invariant-loop-position l = MatchingSoFar (data_in l.bundle) (map plain_leaf (map (λ leaf. leaf.now) l.brackets.leaves.items)) l.root l.position-items l.position-index l.matching.items
