use Rattle.std.proofs.Common.{rules, sym, subst, ℤ, pos, ◌*ℤ◌}
use mir.Syntax.{w128}
use mir.Val.{SFits}
use Rattle.flow_values.specs.Answers.{FindsExactly}
use Rattle.stix_times.specs.Reading as time
use Rattle.stix_times.specs.Instant.{IsInstant}
use Rattle.taxii_routes.specs.Value.{IsTextOfMicros}
use Rattle.taxii_routes.proofs.ValueLemmas.{no_micros, found_micros}
use Rattle.taxii_routes.proofs.value.read_micros.Goals as goal

pub returns-in_err-read_instant : goal.returns-in_err-read_instant
returns-in_err-read_instant c =
    subst (FindsExactly (IsTextOfMicros c.args.text.now)) (sym c.from_residual.ensures) (λ (micros : ℤ) named. c.in_err-read_instant.ensures (pos 1000 *ℤ micros) named)

pub returns-then-nanos-ne0 : goal.returns-then-nanos-ne0
returns-then-nanos-ne0 c =
    let fits : SFits w128 c.nanos-nanos.result = search rules in
    no_micros c.args.text.now c.nanos-nanos.result fits (subst (time.IsTextOfInstant c.args.text.now) (sym c.nanos-nanos.ensures.value) c.in_ok-read_instant.ensures) c.if-nanos-ne0.true

pub returns : goal.returns
returns c =
    let fits : SFits w128 c.nanos-nanos.result = search rules in
    found_micros c.args.text.now c.nanos-nanos.result c.try_from.result c.ok.result fits (subst IsInstant (sym c.nanos-nanos.ensures.value) c.nanos-nanos.ensures.range)
    (subst (time.IsTextOfInstant c.args.text.now) (sym c.nanos-nanos.ensures.value) c.in_ok-read_instant.ensures) c.if-nanos-ne0.false c.try_from.ensures c.ok.ensures.value
