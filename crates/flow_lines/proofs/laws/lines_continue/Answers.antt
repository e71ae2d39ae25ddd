use Rattle.flow_lines.proofs.WholeLinesLemmas.{whole_lines_first}
use Rattle.flow_lines.proofs.laws.lines_continue.Goals as goal

pub returns : goal.returns
returns c = whole_lines_first
