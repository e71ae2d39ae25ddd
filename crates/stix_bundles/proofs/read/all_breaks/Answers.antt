use Rattle.std.proofs.Common.{◌+◌, List, take, subst, sym}
use Rattle.stix_bundles.specs.declared.object_break.ObjectBreak.{ObjectBreak}
use Rattle.stix_bundles.specs.Objects.{data_in}
use Rattle.stix_bundles.specs.Bundle.{AreAllBreaks}
use Rattle.stix_bundles.proofs.AllBreaksLemmas.{breaks_at}
use Rattle.stix_bundles.proofs.read.all_breaks.Goals as goal

pub loop-at-preserved : goal.loop-at-preserved
loop-at-preserved c =
    let values = c.args.objects.now in
    let grown = breaks_at values c.loop-at.at c.index-objects-at.result c.loop-at.found c.in_ok-own.own c.loop-at-test.true c.index-objects-at.is c.loop-at.invariant (c.in_ok-own.ensures) in
    subst (λ (found : List ObjectBreak). AreAllBreaks 0 (take (c.loop-at.at + 1) (data_in values)) found) (sym c.in_ok-add_breaks.ensures) grown
