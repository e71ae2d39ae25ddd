use Rattle.std.proofs.Common.{refl}
use Rattle.taxii_server.proofs.ExchangeLemmas.{exchanged-answer, exchanged-no_memory, closes-asked, closes-last, closes-no_memory, answers, writes-err}
use Rattle.taxii_server.proofs.answering.answer.Goals as goal
use Rattle.taxii_server.proofs.answering.answer.Goals.{then-request, else-request}

pub returns-in_err-write_answer-in-Ok-clause-answers : goal.returns-in_err-write_answer-in-Ok-clause-answers
returns-in_err-write_answer-in-Ok-clause-answers g c =
    answers
    (exchanged-answer c.no_step_reports_a_store_fault.ensures c.in-Ok.ensures.ok c.now-moment.ensures.next c.now-moment.ensures.continues c.in-Ok.ensures.causes)
    (elim c.if-request.branch [ then-request w ↦ closes-asked _ _ _ w.if-request.true w.close-is | else-request w ↦ closes-last _ _ _ w.if-request.false w.close-is ])
    c.in_err-write_answer-in-Ok.ensures.text.text_is
    (writes-err _ _ _ _ _ c.from_residual.ensures.0 c.in_err-write_answer-in-Ok.ensures.text.part)

pub returns-in_err-write_no_memory-in-Err-clause-answers : goal.returns-in_err-write_no_memory-in-Err-clause-answers
returns-in_err-write_no_memory-in-Err-clause-answers g c =
    answers
    (exchanged-no_memory c.in-Err.ensures.err c.now-moment.ensures.next c.now-moment.ensures.continues (c.in-Err.ensures.causes.quiet (λ failed. failed)))
    (closes-no_memory _ _)
    c.in_err-write_no_memory-in-Err.ensures.text.text_is
    (writes-err _ _ _ _ _ c.from_residual-in_err-write_no_memory-in-Err.ensures.0 c.in_err-write_no_memory-in-Err.ensures.text.part)

pub returns-in_ok-write_answer-in-Ok-clause-answers : goal.returns-in_ok-write_answer-in-Ok-clause-answers
returns-in_ok-write_answer-in-Ok-clause-answers g c =
    answers
    (exchanged-answer c.no_step_reports_a_store_fault.ensures c.in-Ok.ensures.ok c.now-moment.ensures.next c.now-moment.ensures.continues c.in-Ok.ensures.causes)
    (elim c.if-request.branch [ then-request w ↦ closes-asked _ _ _ w.if-request.true w.close-is | else-request w ↦ closes-last _ _ _ w.if-request.false w.close-is ])
    c.in_ok-write_answer-in-Ok.ensures.text.text_is
    (refl, c.in_ok-write_answer-in-Ok.ensures.text.writes)

pub returns-in_ok-write_no_memory-in-Err-clause-answers : goal.returns-in_ok-write_no_memory-in-Err-clause-answers
returns-in_ok-write_no_memory-in-Err-clause-answers g c =
    answers
    (exchanged-no_memory c.in-Err.ensures.err c.now-moment.ensures.next c.now-moment.ensures.continues (c.in-Err.ensures.causes.quiet (λ failed. failed)))
    (closes-no_memory _ _)
    c.in_ok-write_no_memory-in-Err.ensures.text.text_is
    (refl, c.in_ok-write_no_memory-in-Err.ensures.text.writes)
