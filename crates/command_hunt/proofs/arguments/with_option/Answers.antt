use Rattle.command_hunt.proofs.arguments.with_option.Goals as goal

pub returns-in_err-moment-clause-none : goal.returns-in_err-moment-clause-none
returns-in_err-moment-clause-none c =
    rw c.from_residual.ensures (λ task asked. c.in_err-moment.ensures.none task.moment task.retained_limit asked.positions)
