use Rattle.stix_bundles.specs.Objects.{data_in}
use Rattle.stix_bundles.specs.Observations.{AreResolved}
use Rattle.stix_bundles.proofs.AreResolvedLemmas.{texts_of}
use Rattle.stix_bundles.proofs.observe.resolved.Given as goal

abbrev pub invariant-loop-item : goal.invariant-loop-item
invariant-loop-item l = AreResolved (data_in l.bundle) (texts_of l.items l.item-index) l.places
