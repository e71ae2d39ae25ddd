use Rattle.std.proofs.Common.{arith, rules, inl, refl}
use Rattle.std.proofs.lemmas.Int.{ints}
use Rattle.std.specs.Int.Signed.{≤ℤ_refl}
use Rattle.hunt_report.proofs.moment.modified_at.Goals as goal
use mir.Syntax.{w128}
use mir.Val.{SFits}

pub returns-else-nanos-rounded-clause-modified : goal.returns-else-nanos-rounded-clause-modified
returns-else-nanos-rounded-clause-modified c =
    let first : SFits w128 c.nanos.result = search rules in
    let second : SFits w128 c.rounded_down-rounded.result = search rules in
    record {
      rounded = c.rounded_down-rounded.result;
      is_rounded = c.rounded_down-rounded.ensures;
      after_created = ≤ℤ_refl c.args.created;
      after_rounded = grind (arith, ints, first, second, c.nanos.ensures.value, c.if-nanos-rounded.false);
      one_of_both = inl refl;
    }
