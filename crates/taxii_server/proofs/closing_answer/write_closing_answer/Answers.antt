use Rattle.std.proofs.Common.{refl}
use Rattle.taxii_server.proofs.ClosingAnswerLemmas.{leave-said}
use Rattle.taxii_server.proofs.closing_answer.write_closing_answer.Goals as goal

pub returns-in-NoMemory-clause-leave : goal.returns-in-NoMemory-clause-leave
returns-in-NoMemory-clause-leave g c = rw c.in-NoMemory.is (leave-said _ refl c.write_no_memory.ensures.text)
