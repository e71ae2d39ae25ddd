use Rattle.std.proofs.Common.{◌∙◌, sym, ap, option_copied}
use Rattle.command_line.proofs.read.number_of.Goals as goal

pub returns : goal.returns
returns c = λ number. let same = sym c.value_of.ensures ∙ ap option_copied c.in_ok-text.was in rw same (c.number_in.ensures number)
