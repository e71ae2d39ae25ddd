use Rattle.std.proofs.Common.{rules, ◌≡◌, None}
use Rattle.command_line.specs.CommandLines.{argument_texts}
use Rattle.command_hunt.proofs.ArgumentsLemmas.{nothing-asked}
use Rattle.command_hunt.proofs.arguments.read_request.Goals as goal

pub returns-clause-none : goal.returns-clause-none
returns-clause-none c =
    let positions : c.read_positions.result ≡ None = search rules in
    let ahead : c.option_before-ahead.result ≡ None = search rules in
    nothing-asked (argument_texts c.args.arguments.now) c.read_positions.result c.option_before-ahead.result c.option_after.result positions ahead
    c.read_positions.ensures.none c.option_before-ahead.ensures.none c.option_after.ensures.none
