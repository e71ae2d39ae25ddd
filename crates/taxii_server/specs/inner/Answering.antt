-- Responding to one request, and the last response if there is none.
use Rattle.std.specs.Prelude.{◌≡◌, ◌⊎◌, ℕ, List, [], ◌∷◌, Bool, true, ◌||◌, Option, Some, None, Result, MatchResult}
use Rattle.flow_edges.specs.Flow.{written_with, WritesPart}
use Rattle.http_messages.specs.declared.request.Request.{Request}
use Rattle.taxii_exchange.specs.declared.answer.Answer.{Answer}
use Rattle.taxii_exchange.specs.Answers.{IsAnswerText, answer_to, no_memory_answer}
use Rattle.taxii_exchange.specs.declared.config.Config.{Config}
use Rattle.taxii_service.specs.declared.state.State.{State}
use Rattle.taxii_service.specs.Exchanges.{Exchange, IsExchange}
use Rattle.taxii_server.specs.declared.receive_end.ReceiveEnd.{ReceiveEnd}
use Rattle.taxii_server.specs.declared.receive_end.ReceiveEnd.TheVariants.{AtEnd, Refused, NoMemory, Failed}
use Rattle.taxii_server.specs.Environment.{Environment}
use Rattle.taxii_server.specs.Connections.{ends_out_of_memory, Pass}

-- the request had one exchange, and its answer was written, or less than all of it
pub record Answers {E : Type 0} (config : Config) (before : State) (request : Request) (is_last : Bool) (environment environment_now : Environment) (written written_now : Option (List ℕ))
    (result : Result Bool E) (after : State) : Type 0 where
  pub exchange : Exchange
  pub its : IsExchange config exchange
  pub request_is : exchange.request ≡ request
  pub before_is : exchange.before ≡ before
  pub after_is : exchange.after ≡ after
  pub passes : Pass (exchange ∷ []) environment environment_now
  pub close : Bool
  pub close_is : close ≡ (request.close || ends_out_of_memory exchange.course || is_last)
  pub text : List ℕ
  pub text_is : IsAnswerText exchange.answer close text
  pub writes : MatchResult result
      (λ closes. (closes ≡ close) × (written_now ≡ written_with text written))
      (λ _. WritesPart text written written_now)

-- what may be said at a receive end
abbrev pub IsClosing : ReceiveEnd → Option Answer → Type 0
IsClosing AtEnd closing_answer = closing_answer ≡ None
IsClosing (Refused refusal) closing_answer = (answer : Answer) × (closing_answer ≡ Some answer) × ((answer ≡ answer_to refusal) ⊎ (answer ≡ no_memory_answer))
IsClosing NoMemory closing_answer = closing_answer ≡ Some no_memory_answer
IsClosing Failed closing_answer = closing_answer ≡ None

-- without a last response, nothing was written, and the call failed if a read had failed; otherwise
-- the response was written, or a part of it
abbrev pub SaysClosingAnswer : {T E : Type 0} → ReceiveEnd → Option Answer → Option (List ℕ) → Option (List ℕ) → Result T E → Type 0
SaysClosingAnswer receive_end None written now result = (now ≡ written) × MatchResult result (λ _. receive_end ≡ AtEnd) (λ _. receive_end ≡ Failed)
SaysClosingAnswer receive_end (Some answer) written now result = (text : List ℕ) × IsAnswerText answer true text
    × MatchResult result (λ _. now ≡ written_with text written) (λ _. WritesPart text written now)

-- the closing answer for the reason why receiving ended
pub record WritesClosingAnswer {T E : Type 0} (receive_end : ReceiveEnd) (written now : Option (List ℕ)) (result : Result T E) : Type 0 where
  pub closing_answer : Option Answer
  pub leave : IsClosing receive_end closing_answer
  pub says : SaysClosingAnswer receive_end closing_answer written now result
