use Rattle.taxii_service.proofs.HistoryAnswerLemmas.{was_done}
use Rattle.taxii_service.proofs.history_laws.answered_requests_were_done.Goals as goal

pub returns : goal.returns
returns c = was_done
