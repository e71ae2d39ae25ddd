use Rattle.std.proofs.Common.{inl, inr, refl}
use Rattle.taxii_server.proofs.ClosingAnswerLemmas.{leave-said}
use Rattle.taxii_server.proofs.closing_answer.refuse.Goals as goal

pub returns-in-Ok-clause-leave : goal.returns-in-Ok-clause-leave
returns-in-Ok-clause-leave g c = leave-said _ (c.in-Ok.answer, refl, inl c.in-Ok.ensures) c.write_answer.ensures.text

pub returns-in-Err-clause-leave : goal.returns-in-Err-clause-leave
returns-in-Err-clause-leave g c = leave-said _ (_, refl, inr refl) c.write_no_memory.ensures.text
