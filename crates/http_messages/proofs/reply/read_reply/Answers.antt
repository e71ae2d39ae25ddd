use Rattle.std.proofs.Common.{take, length, arith, ap, ◌∙◌, subst}
use Rattle.http_messages.specs.Replies.{ReadsReply}
use Rattle.http_messages.specs.inner.Reading.{ChecksHead}
use Rattle.http_messages.proofs.ReadLemmas.{nothing_read, given_back, has_head, head_unjudged, head_refused, with_body, passed_on}
use Rattle.http_messages.proofs.reply.read_reply.Goals as goal

pub returns-in_err-buffer-clause-reads : goal.returns-in_err-buffer-clause-reads
returns-in_err-buffer-clause-reads g c = passed_on (ReadsReply (g.S.Source.left c.args.link.now) (g.S.Source.left c.args.link.now)) _ _ c.from_residual.ensures.1 (nothing_read _)

pub returns-in_err-count-clause-reads : goal.returns-in_err-count-clause-reads
returns-in_err-count-clause-reads g c =
    passed_on (ReadsReply (g.S.Source.left c.args.link.now) (g.S.Source.left c.read_head.new.link)) _ _ c.from_residual-in_err-count.ensures.1
    (head_unjudged (take c.in_ok-end.end c.deref.result.now) _ _ (has_head _ _ _ _ _ c.in_ok-end.ensures.reads (ap (take c.in_ok-end.end) (c.deref.ensures.value ∙ given_back _ _ _ (omega (arith, c.in_ok-buffer.buffer.ok)) (omega (arith, c.read_head.auto.buffer, c.deref_mut.ensures.len, ap length c.deref_mut.ensures.value))))))

pub returns-in-Announces-clause-reads : goal.returns-in-Announces-clause-reads
returns-in-Announces-clause-reads g c =
    with_body (take c.in_ok-end.end c.deref.result.now) _ _ _ _ _ (has_head _ _ _ _ _ c.in_ok-end.ensures.reads (ap (take c.in_ok-end.end) (c.deref.ensures.value ∙ given_back _ _ _ (omega (arith, c.in_ok-buffer.buffer.ok)) (omega (arith, c.read_head.auto.buffer, c.deref_mut.ensures.len, ap length c.deref_mut.ensures.value)))))
    (subst (ChecksHead (take c.in_ok-end.end c.deref.result.now)) c.in-Announces.is c.in_ok-count.ensures) c.read_body.ensures.reads

pub returns-clause-reads : goal.returns-clause-reads
returns-clause-reads g c =
    head_refused (take c.in_ok-end.end c.deref.result.now) _ _ _ (has_head _ _ _ _ _ c.in_ok-end.ensures.reads (ap (take c.in_ok-end.end) (c.deref.ensures.value ∙ given_back _ _ _ (omega (arith, c.in_ok-buffer.buffer.ok)) (omega (arith, c.read_head.auto.buffer, c.deref_mut.ensures.len, ap length c.deref_mut.ensures.value)))))
    (subst (ChecksHead (take c.in_ok-end.end c.deref.result.now)) c.in-Refused.is c.in_ok-count.ensures)
