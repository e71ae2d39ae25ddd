use Rattle.std.proofs.Common.{◌≡◌, length, arith}
use Rattle.command_line.specs.CommandLines.{argument_texts}
use Rattle.command_hunt.proofs.ArgumentsLemmas.{two-behind, some-behind, none-behind, if_none}
use Rattle.command_hunt.proofs.arguments.option_after.Goals as goal

pub returns-clause-some : goal.returns-clause-some
returns-clause-some c =
    let arguments = c.args.arguments.now in
    let others = c.split_at.result.0.now in
    let last = c.split_at.result.1.now in
    let count : length last ≡ 2 = omega arith in
    let are = two-behind arguments others last c.option-item.result c.name-item.result c.as_str.result.now c.as_str-2.result.now c.split_at.ensures.by_index.0 count
    c.option-item.is c.name-item.is c.as_str.ensures.value c.as_str-2.ensures.value in
    some-behind (argument_texts arguments) c.as_str.result.now c.as_str-2.result.now (argument_texts others) are c.with_option.result c.with_option.ensures.some

pub returns-clause-none : goal.returns-clause-none
returns-clause-none c =
    let arguments = c.args.arguments.now in
    let others = c.split_at.result.0.now in
    let last = c.split_at.result.1.now in
    let count : length last ≡ 2 = omega arith in
    let are = two-behind arguments others last c.option-item.result c.name-item.result c.as_str.result.now c.as_str-2.result.now c.split_at.ensures.by_index.0 count
    c.option-item.is c.name-item.is c.as_str.ensures.value c.as_str-2.ensures.value in
    if_none c.with_option.result (none-behind (argument_texts arguments) c.as_str.result.now c.as_str-2.result.now (argument_texts others) are) c.with_option.ensures.none
