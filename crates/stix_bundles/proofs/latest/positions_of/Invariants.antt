use Rattle.std.proofs.Common.{take}
use Rattle.stix_bundles.specs.Objects.{data_in}
use Rattle.stix_bundles.specs.inner.Index.{ArePositionsOf}
use Rattle.stix_bundles.proofs.latest.positions_of.Given as goal

abbrev pub invariant-loop-at : goal.invariant-loop-at
invariant-loop-at l = ArePositionsOf (take l.at (data_in l.objects)) l.positions
