use Rattle.std.proofs.Common.{take}
use Rattle.std.specs.Prelude.{map}
use Rattle.stix_bundles.specs.Objects.{data_in}
use Rattle.pattern_types.specs.PlainLeaf.{plain_leaf}
use Rattle.hunt_engine.proofs.RootBatchLemmas.{AskedSoFar}
use Rattle.hunt_engine.proofs.bracket_tests.test_brackets.Given as goal

abbrev pub invariant-loop-position : goal.invariant-loop-position
invariant-loop-position l = AskedSoFar (data_in l.bundle) (map plain_leaf (map (λ leaf. leaf.now) l.brackets.leaves.items)) (take l.position-index l.pairs) l.own l.roots.items l.fn.memo l.memo
