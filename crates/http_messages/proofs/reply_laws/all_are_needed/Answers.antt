use Rattle.http_messages.proofs.OutcomeLemmas.{cut_none, needed_reply, needed_refused}
use Rattle.http_messages.proofs.reply_laws.all_are_needed.Goals as goal

pub returns-clause-none : goal.returns-clause-none
returns-clause-none c = cut_none

pub returns-clause-reply : goal.returns-clause-reply
returns-clause-reply c = needed_reply

pub returns-clause-refused : goal.returns-clause-refused
returns-clause-refused c = needed_refused
