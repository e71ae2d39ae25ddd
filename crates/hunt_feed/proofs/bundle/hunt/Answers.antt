use Rattle.std.proofs.Common.{List, [], sym, subst}
use Rattle.stix_json.specs.declared.value.Json.{Json}
use Rattle.stix_bundles.specs.Bundle.{AreAllBreaks}
use Rattle.stix_bundles.specs.Objects.{data_in}
use Rattle.hunt_feed.proofs.BundleLemmas.{unbroken_object}
use Rattle.hunt_feed.proofs.bundle.hunt.Goals as goal

pub add-requires-clause-unbroken : goal.add-requires-clause-unbroken
add-requires-clause-unbroken c =
    let objects = c.objects-object-items in
    let unbroken = subst (λ (values : List Json). AreAllBreaks 0 (data_in values) []) (sym objects.ensures.value) objects.ensures.unbroken in
    unbroken_object objects.result.now c.loop-object.object-index c.object-item.result unbroken c.loop-object-test.true c.object-item.is
