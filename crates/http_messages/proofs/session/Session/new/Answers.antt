use Rattle.std.proofs.Common.{arith}
use Rattle.http_messages.proofs.FrameLemmas.{needs_nothing}
use Rattle.http_messages.proofs.SearchLemmas.{searched_none}
use Rattle.http_messages.proofs.session.Session.new.Goals as goal

pub invariant_of-result : goal.invariant_of-result
invariant_of-result c = record {
  searched = searched_none _ _ c.new-2.ensures.0 c.new-2.ensures.1;
  needs = needs_nothing _ _;
  room = omega (arith, c.in_ok-spans.ensures.len, c.in_ok-spans.spans.ok);
}
