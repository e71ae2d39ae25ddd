use Rattle.std.proofs.Common.{rules, IsErr}
use Rattle.command_hunt.proofs.ArgumentsLemmas.{first-argument, no-moment}
use Rattle.command_hunt.proofs.arguments.read_positions.Goals as goal

pub returns-in_err-moment-clause-none : goal.returns-in_err-moment-clause-none
returns-in_err-moment-clause-none c =
    let first = first-argument c.args.arguments.now c.time-item.result c.in-len1-up.len_at_least c.time-item.is in
    let err : IsErr c.read.result = search rules in
    rw c.from_residual.ensures (no-moment _ _ c.as_str.result.now first.0 first.1 c.as_str.ensures.value c.read.result c.read.ensures.only err)
