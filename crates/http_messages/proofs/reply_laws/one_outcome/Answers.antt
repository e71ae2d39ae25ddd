use Rattle.http_messages.proofs.OutcomeLemmas.{one_outcome}
use Rattle.http_messages.proofs.reply_laws.one_outcome.Goals as goal

pub returns : goal.returns
returns c = one_outcome
