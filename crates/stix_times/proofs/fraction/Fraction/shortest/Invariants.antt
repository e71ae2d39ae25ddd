use Rattle.std.proofs.Common.{◌≡◌, ◌-◌, ◌*◌, ◌^◌, ◌<◌, ◌≤◌}
use Rattle.stix_times.proofs.fraction.Fraction.shortest.Given as goal

abbrev pub invariant-loop-digits : goal.invariant-loop-digits
invariant-loop-digits l = record {
  few : l.digits ≤ 9;
  value : l.value * 10 ^ (9 - l.digits) ≡ l.nanosecond;
  fits : l.value < 10 ^ l.digits;
}

abbrev pub decreases-loop-digits : goal.decreases-loop-digits
decreases-loop-digits l = l.digits
