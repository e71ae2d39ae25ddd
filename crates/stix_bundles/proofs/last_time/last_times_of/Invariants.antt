use Rattle.stix_bundles.specs.Objects.{data_in}
use Rattle.stix_bundles.specs.inner.LastTimes.{AreLastTimesBefore}
use Rattle.stix_bundles.proofs.last_time.last_times_of.Given as goal

abbrev pub invariant-loop-at : goal.invariant-loop-at
invariant-loop-at l = AreLastTimesBefore (data_in l.objects) l.at l.last_times.items
