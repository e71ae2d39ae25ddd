use Rattle.std.proofs.Common.{arith, ap, length}
use Rattle.stix_times.specs.Civil.{timestamp_with, digits_of_fraction}
use Rattle.stix_times.proofs.ShapeLemmas.{text_of_long}
use Rattle.stix_times.proofs.WritingLemmas.{spells, exact, names, length-text_le, shortest_fraction}
use Rattle.stix_times.proofs.writing.write.Goals as goal

pub returns-clause-text : goal.returns-clause-text
returns-clause-text c =
    let v = c.of-civil.result in
    let f = c.shortest.result in
    (timestamp_with v (digits_of_fraction f), spells v f _ c.of-civil.ensures.shaped c.write.ensures.text, (exact v f c.of-civil.ensures.day, names v f c.args.instant c.shortest.ensures.value c.of-civil.ensures.nanos, shortest_fraction v f c.shortest.ensures.shortest))

pub returns-clause-length : goal.returns-clause-length
returns-clause-length c =
    let v = c.of-civil.result in
    let f = c.shortest.result in
    let same = ap length c.write.ensures.text in
    (omega (arith, text_of_long (timestamp_with v (digits_of_fraction f))), omega (arith, length-text_le v f))
