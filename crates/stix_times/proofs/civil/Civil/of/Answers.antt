use Rattle.std.proofs.Common.{arith}
use Rattle.jiff_core.proofs.SignedLemmas.{signed_arith}
use Rattle.stix_times.proofs.DayLemmas.{year-from_zero}
use Rattle.stix_times.proofs.civil.Civil.of.Goals as goal

pub new-requires-clause-from_zero : goal.new-requires-clause-from_zero
new-requires-clause-from_zero c = year-from_zero c.from_days_since_min-date.result (omega (arith, signed_arith))
