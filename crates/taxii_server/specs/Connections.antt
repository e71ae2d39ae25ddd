-- One connection (RFC 9112, sections 9.3 and 9.6): the requests of its bytes, each answered in
-- order, and how it ends.
use Rattle.std.specs.Prelude.{◌≡◌, ◌⊎◌, ⊤, ℕ, ◌+◌, ◌-◌, ◌<◌, List, [], ◌∷◌, ◌++◌, length, map, Bool, true, false, ◌||◌, if◌then◌else◌, nat_eq, Option, Some, None, IfSome}
use Rattle.flow_edges.specs.Faults.{HasIncreased}
use Rattle.flow_edges.specs.Flow.{written_with, WritesPart, IsAtEnd}
use Rattle.http_messages.specs.declared.frame.Frame.TheVariants.{More, Request as Given, Refused}
use Rattle.http_messages.specs.declared.request_refusal.Refusal.{Refusal}
use Rattle.http_messages.specs.declared.request.Request.{Request}
use Rattle.http_messages.specs.Frames.{IsFirstFrame}
use Rattle.taxii_exchange.specs.declared.answer.Answer.{Answer}
use Rattle.taxii_exchange.specs.Answers.{IsAnswerText, answer_to, no_memory_answer}
use Rattle.taxii_exchange.specs.declared.config.Config.{Config}
use Rattle.taxii_service.specs.declared.state.State.{State}
use Rattle.taxii_service.specs.Exchanges.{Course, Exchange, HasServed}
use Rattle.taxii_service.specs.Exchanges.Course.{Stepped, KeeperFailed, OutOfMemory}
use Rattle.taxii_server.specs.declared.connection.TheConstants.{MAX_BODY, MAX_REQUESTS}
use Rattle.taxii_server.specs.declared.link_end.LinkEnd.{LinkEnd}
use Rattle.taxii_server.specs.declared.link_end.LinkEnd.TheVariants.{Closed, LinkFault}
use Rattle.taxii_server.specs.Environment.{LinkView, TakesFromClient, Environment, GivesMoments, HasIncreasedBy}

-- the bytes begin with these requests, one after the other, and the rest follows them
abbrev pub BeginWith : List ℕ → List Request → List ℕ → Type 0
BeginWith bytes [] rest = rest ≡ bytes
BeginWith bytes (request ∷ requests) rest =
    (more : List ℕ) × IsFirstFrame MAX_BODY bytes (Given request) more × BeginWith more requests rest

-- when these bytes were left on the link, `requests` complete requests had arrived, and more bytes
-- were needed for the next one
pub record HadCome (requests : ℕ) (left : Option (List ℕ)) (bytes : List ℕ) : Type 0 where
  pub taken : List ℕ
  pub all : left ≡ Some (taken ++ bytes)
  pub whole : List Request
  pub rest : List ℕ
  pub begins : BeginWith taken whole rest
  pub wants : IsFirstFrame MAX_BODY rest More rest
  pub count : length whole ≡ requests

-- an answer, and whether it says that the connection ends
pub record Reply : Type 0 where
  pub answer : Answer
  pub close : Bool

-- memory ran out
abbrev pub ends_out_of_memory : Course → Bool
ends_out_of_memory Stepped = false
ends_out_of_memory KeeperFailed = false
ends_out_of_memory OutOfMemory = true

-- the keeper failed
abbrev pub is_keeper_fault : Course → Bool
is_keeper_fault Stepped = false
is_keeper_fault KeeperFailed = true
is_keeper_fault OutOfMemory = false

-- how often the keeper failed
abbrev pub keeper_faults : List Exchange → ℕ
keeper_faults [] = 0
keeper_faults (e ∷ exchanges) = (if is_keeper_fault e.course then 1 else 0) + keeper_faults exchanges

-- the responses, if at most `left` may follow. A response ends the connection if its request asks
-- for that, when out of memory, and if it is the last one allowed
abbrev pub replies_within : ℕ → List Exchange → List Reply
replies_within left [] = []
replies_within left (e ∷ exchanges) =
    record { answer = e.answer; close = e.request.close || ends_out_of_memory e.course || nat_eq left 1 } ∷ replies_within (left - 1) exchanges

-- the last response before the connection ends early: why the remaining bytes are refused, or that
-- memory ran out
abbrev pub IsClosingAnswer : List ℕ → Option Answer → Type 0
IsClosingAnswer rest None = ⊤
IsClosingAnswer rest (Some answer) = ((refusal : Refusal) × IsFirstFrame MAX_BODY rest (Refused refusal) rest × (answer ≡ answer_to refusal)) ⊎ (answer ≡ no_memory_answer)

-- it closes the connection
abbrev pub closing_answer_reply : Option Answer → List Reply
closing_answer_reply None = []
closing_answer_reply (Some answer) = record { answer = answer; close = true } ∷ []

-- all replies of a connection
abbrev pub replies_of : List Exchange → Option Answer → List Reply
replies_of exchanges closing_answer = replies_within MAX_REQUESTS exchanges ++ closing_answer_reply closing_answer

-- no reply says that the connection ends
abbrev pub KeepConnection : List Reply → Type 0
KeepConnection [] = ⊤
KeepConnection (reply ∷ replies) = (reply.close ≡ false) × KeepConnection replies

-- the last reply says that the connection ends, and no other does
abbrev pub End : List Reply → Type 0
End replies = (before : List Reply) × (last : Reply) × (replies ≡ before ++ (last ∷ [])) × KeepConnection before × (last.close ≡ true)

-- the text of the replies, one after the other
abbrev pub IsTextOfReplies : List Reply → List ℕ → Type 0
IsTextOfReplies [] text = text ≡ []
IsTextOfReplies (reply ∷ replies) text =
    (first more : List ℕ) × IsAnswerText reply.answer reply.close first × IsTextOfReplies replies more × (text ≡ first ++ more)

-- the replies were written whole
abbrev pub WritesReplies : List Reply → Option (List ℕ) → Option (List ℕ) → Type 0
WritesReplies replies before now = (text : List ℕ) × IsTextOfReplies replies text × (now ≡ written_with text before)

-- the replies were written whole but for the last one, of which less than all was written
abbrev pub CutsReplies : List Reply → Option (List ℕ) → Option (List ℕ) → Type 0
CutsReplies replies before now =
    (whole : List Reply) × (last : Reply) × (middle : Option (List ℕ)) × (text : List ℕ) × (replies ≡ whole ++ (last ∷ []))
    × KeepConnection whole × WritesReplies whole before middle × IsAnswerText last.answer last.close text × WritesPart text middle now

-- the last read began before the last of these responses was due, when fewer complete requests had
-- arrived. So each response is written before more is read. If memory is missing from the start,
-- nothing was read
abbrev pub RepliesInTime : LinkView → LinkView → List Reply → Type 0
RepliesInTime before now replies =
    (now.left ≡ before.left) ⊎ IfSome now.began (λ bytes. (came : ℕ) × (came < length replies) × HadCome came before.left bytes)

-- no read of the link failed, and no write
abbrev pub IsQuiet : LinkView → LinkView → Type 0
IsQuiet before now = (now.read_faults ≡ before.read_faults) × (now.write_faults ≡ before.write_faults)

-- a connection closes by a response that says so, or at the end of the client's bytes
abbrev pub IsClosed : LinkView → LinkView → List ℕ → List Reply → Type 0
IsClosed before now rest replies = IsQuiet before now × WritesReplies replies before.written now.written
    × (End replies ⊎ (KeepConnection replies × IsFirstFrame MAX_BODY rest More rest × IsAtEnd now.left))

-- or a read failed, while more bytes were needed for the next request, or the write of a response
abbrev pub IsCutConnection : LinkView → LinkView → List ℕ → List Reply → Type 0
IsCutConnection before now rest replies =
    (HasIncreased before.read_faults now.read_faults × KeepConnection replies × IsFirstFrame MAX_BODY rest More rest × WritesReplies replies before.written now.written)
    ⊎ (HasIncreased before.write_faults now.write_faults × CutsReplies replies before.written now.written × RepliesInTime before now replies)

-- the connection ended so
abbrev pub EndsConnection : LinkEnd → LinkView → LinkView → List ℕ → List Exchange → Option Answer → Type 0
EndsConnection (Closed requests) before now rest exchanges closing_answer = IsClosed before now rest (replies_of exchanges closing_answer)
EndsConnection (LinkFault requests) before now rest exchanges closing_answer = IsCutConnection before now rest (replies_of exchanges closing_answer)

-- how many requests were answered, or begun to be
abbrev pub requests_of : LinkEnd → ℕ
requests_of (Closed requests) = requests
requests_of (LinkFault requests) = requests

-- one connection: the bytes that were taken from its link, the requests that they begin with, what
-- was answered, and how it ended
pub record Connection (config : Config) (before : State) (link_before link_now : LinkView) (exchanges : List Exchange) (end : LinkEnd) (after : State) : Type 0 where
  pub taken : List ℕ
  pub rest : List ℕ
  pub closing_answer : Option Answer
  pub takes : TakesFromClient taken link_before.left link_now.left
  pub requests : BeginWith taken (map (λ e. e.request) exchanges) rest
  pub served : HasServed config before exchanges after
  pub count : requests_of end ≡ length exchanges
  pub closing_answer_is : IsClosingAnswer rest closing_answer
  pub ends : EndsConnection end link_before link_now rest exchanges closing_answer

-- the use of the clock and the keeper: each request takes the next moment; each fault of the keeper
-- was counted, and without one the count stays
pub record Pass (exchanges : List Exchange) (before now : Environment) : Type 0 where
  pub moments : GivesMoments (map (λ e. e.moment) exchanges) before.moments now.moments
  pub faults : HasIncreasedBy (keeper_faults exchanges) before.faults now.faults
  pub quiet : keeper_faults exchanges ≡ 0 → now.faults ≡ before.faults
