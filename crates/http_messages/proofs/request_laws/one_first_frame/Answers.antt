use Rattle.http_messages.proofs.FrameLemmas.{one_frame}
use Rattle.http_messages.proofs.request_laws.one_first_frame.Goals as goal

pub returns : goal.returns
returns c = one_frame
