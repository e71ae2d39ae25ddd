use Rattle.http_messages.proofs.OutcomeLemmas.{later_outcome}
use Rattle.http_messages.proofs.reply_laws.later_bytes_change_nothing.Goals as goal

pub returns : goal.returns
returns c = later_outcome
