use Rattle.stix_bundles.specs.Objects.{data_in}
use Rattle.stix_bundles.specs.Bundle.{IsObject}
use Rattle.stix_bundles.proofs.ObjectsLemmas.{HoldsBefore}
use Rattle.stix_bundles.proofs.outline.first_no_object.Given as goal

abbrev pub invariant-loop-at : goal.invariant-loop-at
invariant-loop-at l = HoldsBefore IsObject (data_in l.fn.objects) l.at
