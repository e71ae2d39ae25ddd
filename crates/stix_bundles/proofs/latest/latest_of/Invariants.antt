use Rattle.std.proofs.Common.{take}
use Rattle.stix_ids.specs.PartsOf.{id_of}
use Rattle.stix_bundles.specs.Objects.{data_in}
use Rattle.stix_bundles.specs.inner.Index.{IsPositionOf}
use Rattle.stix_bundles.proofs.latest.latest_of.Given as goal

abbrev pub invariant-loop-at : goal.invariant-loop-at
invariant-loop-at l = IsPositionOf (take l.at (data_in l.objects)) (id_of l.id) l.latest
