use Rattle.std.proofs.Common.{arith}
use Rattle.stix_times.proofs.FractionLemmas.{shorter_value, shorter_fits}
use Rattle.stix_times.proofs.fraction.Fraction.shortest.Goals as goal

pub loop-digits-preserved : goal.loop-digits-preserved
loop-digits-preserved c =
    let i = c.loop-digits.invariant in
    record {
      few = omega arith;
      value = shorter_value c.loop-digits.value c.loop-digits.digits c.args.nanosecond (omega arith) i.few c.if-value-eq0.true i.value;
      fits = shorter_fits c.loop-digits.value c.loop-digits.digits (omega arith) i.fits;
    }
