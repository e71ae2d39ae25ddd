-- What is said before a connection ends.
use Rattle.std.proofs.Common.{ℕ, List, Option, Some, Result, Ok, Err, true}
use Rattle.taxii_exchange.specs.declared.answer.Answer.{Answer}
use Rattle.taxii_exchange.specs.Answers.{WritesAnswer}
use Rattle.taxii_server.specs.declared.receive_end.ReceiveEnd.{ReceiveEnd}
use Rattle.taxii_server.specs.inner.Answering.{IsClosing, WritesClosingAnswer}

-- an answer that says that the connection ends
pub leave-said : {T E : Type 0} {receive_end : ReceiveEnd} {answer : Answer} {written now : Option (List ℕ)} (result : Result T E)
    → IsClosing receive_end (Some answer) → WritesAnswer answer true written now result → WritesClosingAnswer receive_end written now result
leave-said {answer = answer} (Ok done) leave says = record { closing_answer = Some answer; leave = leave; says = (says.text, says.text_is, says.writes) }
leave-said {answer = answer} (Err fault) leave says = record { closing_answer = Some answer; leave = leave; says = (says.text, says.text_is, says.part) }
