use Rattle.std.proofs.Common.{take}
use Rattle.stix_bundles.specs.Objects.{data_in}
use Rattle.stix_bundles.specs.inner.LastTimes.{AreObservationsAt}
use Rattle.stix_bundles.proofs.observe.observed.Given as goal

abbrev pub invariant-loop-at : goal.invariant-loop-at
invariant-loop-at l = AreObservationsAt (data_in l.bundle) l.first (take l.at l.last_times) l.observations
