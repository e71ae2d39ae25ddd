use Rattle.std.proofs.Common.{arith, length-append}
use Rattle.stix_times.proofs.FractionLemmas.{length-digits_text}
use Rattle.stix_times.proofs.line.Line.push_fraction.Goals as goal

pub returns-then-fraction-gt0-clause-length : goal.returns-then-fraction-gt0-clause-length
returns-then-fraction-gt0-clause-length c =
    rw (c.push_digits.ensures, c.push.ensures) (simp length-append (omega (arith, length-digits_text c.args.fraction.digits c.args.fraction.value)))
