use Rattle.std.proofs.Common.{arith, rules, ◌≡◌, ◌+◌, ◌-◌, ◌/◌, [], ◌∷◌, ◌++◌, append-nil, ◌∙◌, sym, ap, length-append}
use Rattle.stix_times.specs.Digits.{digits_text}
use Rattle.stix_times.proofs.FractionLemmas.{scale_positive, next_digit, next_scale, next_text, next_rest}
use Rattle.stix_times.proofs.line.Line.push_digits.Goals as goal

pub nonzero_div-rest : goal.nonzero_div-rest
nonzero_div-rest c = scale_positive c.args.fraction.digits c.loop-offset._offset c.loop-offset.scale c.loop-offset-test.true c.loop-offset.invariant.scale

pub overflow_cast-rest : goal.overflow_cast-rest
overflow_cast-rest c =
    let digit = next_digit c.args.fraction.digits c.loop-offset._offset c.loop-offset.scale c.loop-offset.rest c.loop-offset-test.true c.loop-offset.invariant.scale c.loop-offset.invariant.rest in
    search rules

pub overflow_add-rest : goal.overflow_add-rest
overflow_add-rest c =
    let digit = next_digit c.args.fraction.digits c.loop-offset._offset c.loop-offset.scale c.loop-offset.rest c.loop-offset-test.true c.loop-offset.invariant.scale c.loop-offset.invariant.rest in
    search rules

pub push-requires : goal.push-requires
push-requires c = omega arith

pub nonzero_rem-rest : goal.nonzero_rem-rest
nonzero_rem-rest c = scale_positive c.args.fraction.digits c.loop-offset._offset c.loop-offset.scale c.loop-offset-test.true c.loop-offset.invariant.scale

pub loop-offset-preserved : goal.loop-offset-preserved
loop-offset-preserved c =
    let n = c.args.fraction.digits in
    let i = c.loop-offset.invariant in
    record {
      length = rw c.push.ensures (omega (arith, length-append c.loop-offset.self ((48 + c.loop-offset.rest / (c.loop-offset.scale / 10)) ∷ [])));
      text = rw c.push.ensures (next_text c.loop-offset.self n c.loop-offset._offset c.loop-offset.scale c.loop-offset.rest c.loop-offset-test.true i.scale ∙ i.text);
      scale = next_scale n c.loop-offset._offset c.loop-offset.scale c.loop-offset-test.true i.scale;
      rest = next_rest n c.loop-offset._offset c.loop-offset.scale c.loop-offset.rest c.loop-offset-test.true i.scale;
    }

pub returns : goal.returns
returns c =
    let n = c.args.fraction.digits in
    let none : n - c.loop-offset._offset ≡ 0 = omega arith in
    sym (append-nil c.loop-offset.self) ∙ sym (ap (λ v. c.loop-offset.self ++ digits_text v c.loop-offset.rest) none) ∙ c.loop-offset.invariant.text
