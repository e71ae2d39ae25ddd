use Rattle.command_line.specs.CommandLines.{IsNumberIn}
use Rattle.command_peer.proofs.ArgumentLemmas.{found_some, found_none}
use Rattle.command_peer.proofs.arguments.number_to.Goals as goal

pub returns-clause-some : goal.returns-clause-some
returns-clause-some c = found_some (IsNumberIn 1 c.args.most c.args.text.now) c.number_in.result c.number_in.ensures

pub returns-clause-none : goal.returns-clause-none
returns-clause-none c = found_none (IsNumberIn 1 c.args.most c.args.text.now) c.number_in.result c.number_in.ensures
