use Rattle.std.proofs.Common.{sym, subst}
use Rattle.flow_values.specs.Answers.{FindsExactly}
use Rattle.taxii_routes.specs.Value.{IsLimit}
use Rattle.taxii_routes.proofs.ValueLemmas.{no_limit}
use Rattle.taxii_routes.proofs.value.read_limit.Goals as goal

pub returns-in_err-limit : goal.returns-in_err-limit
returns-in_err-limit c =
    subst (FindsExactly (IsLimit c.args.value.now)) (sym c.from_residual.ensures)
    (no_limit c.args.value.now c.parse.result c.ok.result c.parse.ensures.value.0 c.ok.ensures.value c.in_err-limit.was)
