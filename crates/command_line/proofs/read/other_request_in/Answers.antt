use Rattle.clap.specs.Matches.{found_of}
use Rattle.clap.specs.Walk.{rows_of}
use Rattle.command_line.proofs.CommandLinesLemmas.{no_match}
use Rattle.command_line.proofs.read.other_request_in.Goals as goal

pub returns-in_err-match_in-in-match-clause-none : goal.returns-in_err-match_in-in-match-clause-none
returns-in_err-match_in-in-match-clause-none c =
    rw c.from_residual.ensures (λ other. no_match c.args.command.now (rows_of (found_of c.args.values.now)) c.in-match.is c.in_err-match_in-in-match.ensures.none)
