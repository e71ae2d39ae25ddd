use Rattle.std.proofs.Common.{◌≤◌, ℕ, List, Option, Some, None, codes, arith}
use Rattle.clap.specs.Words.{first_of}
use Rattle.command_line.specs.declared.numbers.TheConstants.{MAX_PORT}
use Rattle.command_line.specs.inner.Rows.{IsPresentNumberText, parsed_rows}
use Rattle.command_line.proofs.serve.port_in.Goals as goal

at_most : (least most : ℕ) (o : Option (List ℕ)) (number : ℕ) → IsPresentNumberText least most o number → number ≤ most
at_most least most None number h = absurd h
at_most least most (Some text) number h = h.at_most

pub overflow_cast-result : goal.overflow_cast-result
overflow_cast-result c =
    let few = at_most 1 MAX_PORT (first_of (codes "port") (parsed_rows c.args.values.now)) c.in_ok-port.port ((c.number_of.ensures c.in_ok-port.port).0 c.in_ok-port.was) in
    omega arith
