use Rattle.std.proofs.Common.{◌∙◌}
use Rattle.clap.specs.Matches.{found_of}
use Rattle.command_line.proofs.FoundLemmas.{first_value_row}
use Rattle.command_line.proofs.read.value_of.Goals as goal

pub returns : goal.returns
returns c = c.get_str.ensures ∙ first_value_row (found_of c.args.values.now) c.args.name.now
