use Rattle.std.proofs.Common.{◌+◌, List, take, subst, sym}
use Rattle.stix_json.specs.declared.value.Json.{Json}
use Rattle.stix_json.specs.DataOf.{data_of}
use Rattle.stix_json.specs.Ordered.{IsOrdered}
use Rattle.stix_versions.proofs.ItemsLemmas.{ordered_each}
use Rattle.stix_versions.specs.declared.marking_break.MarkingBreak.{MarkingBreak}
use Rattle.stix_bundles.specs.Objects.{data_in}
use Rattle.stix_versions.specs.Markings.{AreMarkingBreaksFrom}
use Rattle.stix_versions.proofs.MarkingBreaksLemmas.{objects_at}
use Rattle.stix_versions.proofs.markings.all_breaks.Goals as goal

pub loop-at-preserved : goal.loop-at-preserved
loop-at-preserved c =
    let values = c.args.objects.now in
    let own = c.in_ok-add_breaks.ensures in
    let grown = objects_at values c.loop-at.at c.index-objects-at.result c.loop-at.found own.0 c.loop-at-test.true c.index-objects-at.is c.loop-at.invariant own.1 in
    subst (λ (found : List MarkingBreak). AreMarkingBreaksFrom 0 (take (c.loop-at.at + 1) (data_in values)) found) (sym own.2) grown

pub add_breaks-requires : goal.add_breaks-requires
add_breaks-requires c =
    subst (λ (value : Json). IsOrdered (data_of value)) (sym c.index-objects-at.is)
    (ordered_each c.args.objects.now c.requires.ordered c.loop-at.at c.index-objects-at.result c.loop-at-test.true)
