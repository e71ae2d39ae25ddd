use Rattle.http_messages.proofs.ReplyCheckLemmas.{checks_ok}
use Rattle.http_messages.proofs.reply_checking.check.Goals as goal

pub returns-in-Some : goal.returns-in-Some
returns-in-Some c = checks_ok _ _ _ c.requires.head c.requires.size c.new.ensures c.checked.ensures
