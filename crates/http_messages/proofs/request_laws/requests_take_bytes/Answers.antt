use Rattle.http_messages.proofs.FrameLemmas.{takes_byte}
use Rattle.http_messages.proofs.request_laws.requests_take_bytes.Goals as goal

pub returns : goal.returns
returns c = takes_byte
