use Rattle.std.proofs.Common.{length, take, drop, ◌-◌}
use Rattle.command_line.specs.CommandLines.{argument_texts}
use Rattle.command_hunt.proofs.ArgumentsLemmas.{two-ahead, none-ahead, if_none}
use Rattle.command_hunt.proofs.arguments.option_before.Goals as goal

pub returns-clause-none : goal.returns-clause-none
returns-clause-none c =
    let arguments = c.args.arguments.now in
    let others = argument_texts (take (length arguments - 2) (drop 2 arguments)) in
    let are = two-ahead arguments c.option-item.result c.name-item.result c.as_str.result.now c.as_str-2.result.now c.in-len2-up.len_at_least c.option-item.is
    c.name-item.is c.as_str.ensures.value c.as_str-2.ensures.value in
    if_none c.with_option.result (none-ahead (argument_texts arguments) c.as_str.result.now c.as_str-2.result.now others are) c.with_option.ensures.none
