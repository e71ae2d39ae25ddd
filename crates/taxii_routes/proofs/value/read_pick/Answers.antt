use Rattle.std.proofs.Common.{sym, subst}
use Rattle.flow_values.specs.Answers.{FindsExactly}
use Rattle.taxii_routes.specs.Value.{IsPickText}
use Rattle.taxii_routes.proofs.ValueLemmas.{no_pick}
use Rattle.taxii_routes.proofs.value.read_pick.Goals as goal

pub returns-in_err-read_micros-in_default : goal.returns-in_err-read_micros-in_default
returns-in_err-read_micros-in_default c =
    subst (FindsExactly (IsPickText c.args.text.now)) (sym c.from_residual.ensures)
    (no_pick c.args.text.now c.in_default.not-last c.in_default.not-first c.in_default.not-all c.in_err-read_micros-in_default.ensures)
