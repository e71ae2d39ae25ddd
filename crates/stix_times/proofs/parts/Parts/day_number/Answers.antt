use Rattle.std.proofs.Common.{arith, ◌≡◌, ◌∙◌, ◌<◌, pos, w16}
use Rattle.std.proofs.lemmas.Int.{to_z_pos}
use Rattle.jiff_core.proofs.SignedLemmas.{signed_arith}
use Rattle.stix_times.specs.Parts.{timestamp_of}
use Rattle.stix_times.proofs.DayLemmas.{epoch_day-from_zero}
use Rattle.stix_times.proofs.parts.Parts.day_number.Goals as goal

pub returns-in-Ok-clause-bound : goal.returns-in-Ok-clause-bound
unfolding timestamp_of
returns-in-Ok-clause-bound c =
    let d = c.in-Ok.date in
    let small : c.args.self.now.year < 10000 = c.requires.year in
    let year : d.year ≡ pos c.args.self.now.year = c.in-Ok.ensures.value.0 ∙ to_z_pos w16 c.args.self.now.year (omega arith) in
    let low = epoch_day-from_zero d (omega (arith, signed_arith)) in
    (omega (arith, signed_arith), omega (arith, signed_arith))
