use Rattle.taxii_theorems.proofs.ReplyLemmas.{same_body}
use Rattle.taxii_theorems.proofs.agreement.answers_are_replies.Goals as goal

pub returns : goal.returns
returns c = same_body
