use Rattle.http_messages.proofs.RequestCheckLemmas.{few_bytes}
use Rattle.http_messages.proofs.request_laws.few_bytes_need_more.Goals as goal

pub returns : goal.returns
returns c = few_bytes
