use Rattle.std.proofs.Common.{◌≡◌, Some, ap, option_copied}
use Rattle.command_line.proofs.read.retained_limit_in.Goals as goal

pub returns-in-Some : goal.returns-in-Some
returns-in-Some c = λ cap'. let same : option_copied c.args.text ≡ Some c.in-Some.text.now = ap option_copied c.in-Some.is in rw same (c.number_in.ensures cap')
