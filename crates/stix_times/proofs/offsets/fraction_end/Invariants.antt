use Rattle.std.proofs.Common.{◌≡◌, ◌≤◌, drop}
use Rattle.stix_times.specs.Offsets.{fitting_end, end_from}
use Rattle.stix_times.proofs.offsets.fraction_end.Given as goal

abbrev pub invariant-loop-at : goal.invariant-loop-at
invariant-loop-at l = record {
  late : 20 ≤ l.at;
  end : fitting_end l.at l.before (drop l.at l.bytes) ≡ end_from l.bytes 20;
}
