use Rattle.http_messages.proofs.FrameLemmas.{later_frame}
use Rattle.http_messages.proofs.request_laws.later_bytes_change_nothing.Goals as goal

pub returns : goal.returns
returns c = later_frame
