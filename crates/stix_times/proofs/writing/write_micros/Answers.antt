use Rattle.std.proofs.Common.{◌≡◌, ◌-◌, ◌*◌, ◌/◌, ◌^◌, arith, ap, length, ◌∙◌}
use Rattle.stix_times.specs.Civil.{timestamp_with, digits_of_fraction}
use Rattle.stix_times.proofs.WritingLemmas.{spells, exact, names, length-text, digits_count, micros_exact}
use Rattle.stix_times.proofs.writing.write_micros.Goals as goal

pub returns-clause-text : goal.returns-clause-text
returns-clause-text c =
    let v = c.of-civil.result in
    let f = c.new.result in
    let value : f.value ≡ v.nanosecond / 1000 = c.new.ensures.value in
    let nanos : f.value * 10 ^ (9 - f.digits) ≡ v.nanosecond = rw (value, c.new.ensures.digits) (micros_exact v c.args.instant c.requires c.of-civil.ensures.nanos) in
    (timestamp_with v (digits_of_fraction f), spells v f _ c.of-civil.ensures.shaped c.write.ensures.text, (exact v f c.of-civil.ensures.day, names v f c.args.instant nanos c.of-civil.ensures.nanos, digits_count v f ∙ c.new.ensures.digits))

pub returns-clause-length : goal.returns-clause-length
returns-clause-length c = omega (arith, ap length c.write.ensures.text, length-text c.of-civil.result c.new.result (omega arith))
