use Rattle.std.proofs.Common.{Some, refl}
use Rattle.stix_objects.specs.BreakAt.{here}
use Rattle.stix_objects.specs.Forms.{ChecksHere}
use Rattle.stix_objects.specs.inner.Views.{single_view, value_break_view}
use Rattle.stix_objects.proofs.CheckingLemmas.{first_at}
use Rattle.stix_objects.proofs.list.first_broken.Goals as goal

pub returns-in-Some : goal.returns-in-Some
returns-in-Some c =
    let told = value_break_view c.in_item.result in
    c.loop-at.invariant (Some told)
    (first_at (ChecksHere (single_view c.args.single.now)) c.args.items.now c.loop-at.at c.index-items-at.result (here c.in-Some.rule) told
    c.loop-at-test.true c.index-items-at.is (Some c.in-Some.rule, c.in-Some.ensures, refl) c.in_item.ensures)
