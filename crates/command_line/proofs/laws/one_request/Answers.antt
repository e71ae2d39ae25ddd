use Rattle.command_line.proofs.CommandLinesLemmas.{one_request}
use Rattle.command_line.proofs.laws.one_request.Goals as goal

pub returns : goal.returns
returns c = one_request
