use Rattle.std.proofs.Common.{◌≡◌, drop}
use Rattle.stix_times.specs.Offsets.{fitting_end}
use Rattle.stix_times.proofs.offsets.first_mismatch.Given as goal

abbrev pub invariant-loop-at : goal.invariant-loop-at
invariant-loop-at l = fitting_end l.at l.before (drop l.at l.bytes) ≡ fitting_end 0 0 l.bytes
