use Rattle.std.proofs.Common.{arith, ◌∙◌, ap, ◌≡◌, ◌-◌, ◌^◌, ◌≤◌, length}
use Rattle.stix_times.proofs.FractionLemmas.{value_more, bound_more, scaled_bound}
use Rattle.stix_times.proofs.fraction.nanos_of_fraction.Goals as goal

pub loop-digit-preserved : goal.loop-digit-preserved
loop-digit-preserved c =
    let digit = c.requires.digits c.loop-digit.digit-index 0 (omega arith) in
    let small : c.from.result ≤ 9 = omega arith in
    record {
      value = omega (arith, value_more c.args.digits.now c.loop-digit.digit-index c.loop-digit.value (omega arith) digit c.loop-digit.invariant.value);
      bound = bound_more c.loop-digit.value c.from.result c.loop-digit.digit-index c.loop-digit.invariant.bound small;
    }

pub returns-clause-bound : goal.returns-clause-bound
returns-clause-bound c =
    let all : length c.args.digits.now ≡ c.loop-digit.digit-index = omega arith in
    let scale : c.pow.result ≡ 10 ^ (9 - c.loop-digit.digit-index) = c.pow.ensures ∙ ap (λ n. 10 ^ (9 - n)) all in
    rw scale (scaled_bound c.loop-digit.value c.loop-digit.digit-index (omega arith) c.loop-digit.invariant.bound)
