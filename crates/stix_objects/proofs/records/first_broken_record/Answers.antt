use Rattle.std.proofs.Common.{Some, map}
use Rattle.stix_objects.specs.Forms.{ChecksParts}
use Rattle.stix_objects.specs.inner.Views.{part_view, item_break_view, value_break_view}
use Rattle.stix_objects.proofs.CheckingLemmas.{first_at}
use Rattle.stix_objects.proofs.records.first_broken_record.Goals as goal

pub returns-in-Some : goal.returns-in-Some
returns-in-Some c =
    let told = value_break_view c.in_item.result in
    c.loop-at.invariant (Some told)
    (first_at (ChecksParts (map part_view c.args.parts.now)) c.args.items.now c.loop-at.at c.index-items-at.result (item_break_view c.in-Some.item_break) told
    c.loop-at-test.true c.index-items-at.is (rw (← c.new.ensures) c.in-Some.ensures) c.in_item.ensures)
