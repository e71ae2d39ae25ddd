use Rattle.http_messages.proofs.ValueLemmas.{close_member}
use Rattle.http_messages.proofs.close.is_close.Goals as goal

pub returns : goal.returns
returns c = close_member c.args.member.now c.trim_start.result.now c.trim_end.result.now _ c.same_name.ensures c.trim_start.ensures c.trim_end.ensures
