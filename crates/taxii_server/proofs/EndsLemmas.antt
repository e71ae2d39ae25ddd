-- How a connection ends, after what it has answered so far.
use Rattle.std.proofs.Common.{◌≡◌, ◌≢◌, ℕ, ◌+◌, List, [], ◌∷◌, ◌++◌, length, length-append, arith, Bool, true, Option, Some, None, inl, inr, Result, Ok, Err, IsErr, MatchResult, refl, sym, ◌∙◌}
use Rattle.std.proofs.lemmas.List.{append-nil}
use Rattle.flow_edges.specs.Faults.{HasIncreased}
use Rattle.taxii_exchange.specs.declared.answer.Answer.{Answer}
use Rattle.taxii_exchange.specs.declared.config.Config.{Config}
use Rattle.taxii_service.specs.declared.state.State.{State}
use Rattle.taxii_service.specs.Exchanges.{Exchange}
use Rattle.taxii_server.specs.declared.link_end.LinkEnd.{LinkEnd}
use Rattle.taxii_server.specs.declared.link_end.LinkEnd.TheVariants.{Closed, LinkFault}
use Rattle.taxii_server.specs.declared.receive_end.ReceiveEnd.{ReceiveEnd}
use Rattle.taxii_server.specs.declared.receive_end.ReceiveEnd.TheVariants.{AtEnd, Refused, NoMemory, Failed}
use Rattle.taxii_server.specs.Connections.{IsQuiet, IsClosingAnswer, EndsConnection, Connection, Pass, Reply, replies_within, RepliesInTime, requests_of}
use Rattle.taxii_server.specs.declared.connection.TheConstants.{MAX_REQUESTS}
use Rattle.taxii_server.specs.Environment.{LinkView, Environment}
use Rattle.taxii_server.specs.inner.Answering.{IsClosing, SaysClosingAnswer, WritesClosingAnswer}
use Rattle.taxii_server.specs.inner.Receiving.{StopsReceivingAt, IsReceivedInTime}
use Rattle.taxii_server.proofs.RepliesLemmas.{replies-next, replies-count, writes-next, end-next, cuts-next}
use Rattle.taxii_server.proofs.TakesLemmas.{replies-in-time}
use Rattle.taxii_server.proofs.SoFarLemmas.{HasAnswered, SoFar, IsNextAnswer, answered-next, next_reply, next_reply-closes}

-- one thing alone
some-same : {A : Type 0} (a b : A) → Some a ≡ Some b → a ≡ b
some-same a b is = cc

-- what is said at a receive end is a closing answer
closing_answer-is : (rest : List ℕ) (left : Option (List ℕ)) (faults now : ℕ) (receive_end : ReceiveEnd) (answer : Answer) → StopsReceivingAt rest left faults now receive_end
    → IsClosing receive_end (Some answer) → IsClosingAnswer rest (Some answer)
closing_answer-is rest left faults now AtEnd answer pauses leave = absurd (cc leave)
closing_answer-is rest left faults now (Refused refusal) answer pauses (its, is, inl to) = inl (refusal, pauses, some-same answer its is ∙ to)
closing_answer-is rest left faults now (Refused refusal) answer pauses (its, is, inr none) = inr (some-same answer its is ∙ none)
closing_answer-is rest left faults now NoMemory answer pauses leave = inr (some-same answer _ leave)
closing_answer-is rest left faults now Failed answer pauses leave = absurd (cc leave)

-- where a read failed nothing is said
not-failed : (receive_end : ReceiveEnd) (answer : Answer) → IsClosing receive_end (Some answer) → receive_end ≡ Failed → ⊥
not-failed receive_end answer leave failed = let none : ◌≡◌ {A = Option Answer} (Some answer) None = rw failed at leave in absurd (cc none)

-- the connection ended so, with what its requests asked of the environment
abbrev pub Finishes : Config → State → Environment → LinkView → LinkEnd → State → Environment → LinkView → Type 0
Finishes config before environment link end now environment_now link_now =
    (exchanges : List Exchange) × Connection config before link link_now exchanges end now × Pass exchanges environment environment_now

-- what was answered, and an end
finishes : {config : Config} {before : State} {environment : Environment} {rest : List ℕ} {requests : ℕ} {now : State} {environment_now : Environment}
    {left_now : Option (List ℕ)} {exchanges : List Exchange} (link link_now : LinkView) (closing_answer : Option Answer) (end : LinkEnd)
    → HasAnswered config before environment link.left rest requests now environment_now left_now exchanges
    → link_now.left ≡ left_now → requests_of end ≡ requests → IsClosingAnswer rest closing_answer → EndsConnection end link link_now rest exchanges closing_answer
    → Finishes config before environment link end now environment_now link_now
finishes {rest = rest} {exchanges = exchanges} link link_now closing_answer end has same count closing_answer_is ends = (
  exchanges,
  record {
    taken = has.taken;
    rest = rest;
    closing_answer = closing_answer;
    takes = rw same has.takes;
    requests = has.begins;
    served = has.served;
    count = count ∙ sym has.count;
    closing_answer_is = closing_answer_is;
    ends = ends;
  },
  has.passes,
)

-- one reply more is due than requests were answered
one-more-in-time : (link link_then : LinkView) (exchanges : List Exchange) (reply : Reply) (requests : ℕ) → length exchanges ≡ requests
    → IsReceivedInTime link.left link_then.left link_then.began requests → RepliesInTime link link_then (replies_within MAX_REQUESTS exchanges ++ reply ∷ [])
one-more-in-time link link_then exchanges reply requests count in_time =
    let many = length-append (replies_within MAX_REQUESTS exchanges) (reply ∷ []) in
    replies-in-time link link_then _ requests (omega (arith, many, replies-count MAX_REQUESTS exchanges, count)) in_time

-- ---- at a receive end

-- nothing is said: the peer sends no more, or a read failed
finishes-silently : {T E : Type 0} {config : Config} {before : State} {environment : Environment} {link : LinkView} {rest : List ℕ} {requests : ℕ} {now : State}
    {environment_now : Environment} {left_now written_now : Option (List ℕ)} (link_then : LinkView) (receive_end : ReceiveEnd) (last : Result T E) (end : LinkEnd)
    → SoFar config before environment link rest requests now environment_now left_now written_now → link_then.left ≡ left_now
    → StopsReceivingAt rest left_now link.read_faults link_then.read_faults receive_end → SaysClosingAnswer receive_end None written_now link_then.written last
    → ((closed : ℕ) → end ≡ Closed closed → IsQuiet link link_then)
    → MatchResult last (λ _. end ≡ Closed requests) (λ _. end ≡ LinkFault requests) → Finishes config before environment link end now environment_now link_then
finishes-silently {link = link} {requests = requests} link_then receive_end (Ok done) end so_far same pauses (silent, why) quiet is =
    let at = rw why at pauses in
    rw is (finishes link link_then None (Closed requests) so_far.answered same refl tt
    (quiet requests is, rw (append-nil, silent) so_far.writes, inr (rw append-nil so_far.proceed, at.0, rw same at.1)))
finishes-silently {link = link} {requests = requests} link_then receive_end (Err fault) end so_far same pauses (silent, why) quiet is =
    let at = rw why at pauses in
    rw is (finishes link link_then None (LinkFault requests) so_far.answered same refl tt
    (rw (append-nil, silent) (inl (at.1, so_far.proceed, at.0, so_far.writes))))

-- an answer is said that ends the connection, or less than all of it
finishes-saying : {T E : Type 0} {config : Config} {before : State} {environment : Environment} {link : LinkView} {rest : List ℕ} {requests : ℕ} {now : State}
    {environment_now : Environment} {left_now written_now : Option (List ℕ)} (link_then : LinkView) (receive_end : ReceiveEnd) (answer : Answer) (last : Result T E) (end : LinkEnd)
    → SoFar config before environment link rest requests now environment_now left_now written_now → link_then.left ≡ left_now
    → IsClosingAnswer rest (Some answer) → SaysClosingAnswer receive_end (Some answer) written_now link_then.written last → (IsErr last → HasIncreased link.write_faults link_then.write_faults)
    → IsReceivedInTime link.left link_then.left link_then.began requests → ((closed : ℕ) → end ≡ Closed closed → IsQuiet link link_then)
    → MatchResult last (λ _. end ≡ Closed requests) (λ _. end ≡ LinkFault requests) → Finishes config before environment link end now environment_now link_then
finishes-saying {link = link} {requests = requests} link_then receive_end answer (Ok done) end so_far same closing_answer (text, its, says) rose in_time quiet is =
    rw is (finishes link link_then (Some answer) (Closed requests) so_far.answered same refl closing_answer
    (quiet requests is, writes-next _ (record { answer = answer; close = true }) text _ _ _ so_far.writes its says, inl (end-next _ _ so_far.proceed refl)))
finishes-saying {link = link} {requests = requests} link_then receive_end answer (Err fault) end so_far same closing_answer (text, its, part) rose in_time quiet is =
    let reply : Reply = record { answer = answer; close = true } in
    rw is (finishes link link_then (Some answer) (LinkFault requests) so_far.answered same refl closing_answer
    (inr (rose refl, cuts-next _ reply text _ _ _ so_far.proceed so_far.writes its part, one-more-in-time link link_then so_far.exchanges reply requests so_far.answered.count in_time)))

-- the closing answer of a receive end
pub finishes-leave : {T E : Type 0} {config : Config} {before : State} {environment : Environment} {link : LinkView} {rest : List ℕ} {requests : ℕ} {now : State}
    {environment_now : Environment} {left_now written_now : Option (List ℕ)} (link_then : LinkView) (receive_end : ReceiveEnd) (last : Result T E) (end : LinkEnd)
    → SoFar config before environment link rest requests now environment_now left_now written_now → link_then.left ≡ left_now
    → StopsReceivingAt rest left_now link.read_faults link_then.read_faults receive_end → WritesClosingAnswer receive_end written_now link_then.written last
    → (receive_end ≢ Failed → (IsErr last → HasIncreased link.write_faults link_then.write_faults))
    → IsReceivedInTime link.left link_then.left link_then.began requests → ((closed : ℕ) → end ≡ Closed closed → IsQuiet link link_then)
    → MatchResult last (λ _. end ≡ Closed requests) (λ _. end ≡ LinkFault requests) → Finishes config before environment link end now environment_now link_then
finishes-leave {config = config} {before = before} {environment = environment} {link = link} {rest = rest} {now = now} {environment_now = environment_now} {left_now = left_now} {written_now = written_now}
    link_then receive_end last end so_far same pauses takes rose in_time quiet is = go takes.closing_answer takes.leave takes.says
  where
    go : (closing_answer : Option Answer) → IsClosing receive_end closing_answer → SaysClosingAnswer receive_end closing_answer written_now link_then.written last
        → Finishes config before environment link end now environment_now link_then
    go None leave says = finishes-silently link_then receive_end last end so_far same pauses says quiet is
    go (Some answer) leave says =
        finishes-saying link_then receive_end answer last end so_far same (closing_answer-is rest left_now _ _ receive_end answer pauses leave) says
        (rose (λ failed. not-failed receive_end answer leave failed)) in_time quiet is

-- where the end is no fault, no read failed and no write
pub quiet-leave : {T E : Type 0} {reads reads_now writes writes_now : ℕ} (receive_end : ReceiveEnd) (last : Result T E) (end : LinkEnd) (requests closed : ℕ)
    → MatchResult last (λ _. end ≡ Closed requests) (λ _. end ≡ LinkFault requests) → end ≡ Closed closed → (receive_end ≡ Failed → IsErr last)
    → (receive_end ≢ Failed → reads_now ≡ reads) → (receive_end ≢ Failed → ¬ IsErr last → writes_now ≡ writes) → (reads_now ≡ reads) × (writes_now ≡ writes)
quiet-leave receive_end (Ok done) end requests closed is ends failed read wrote =
    let fine : receive_end ≢ Failed = λ its. absurd (cc (failed its)) in (read fine, wrote fine (λ its. absurd (cc its)))
quiet-leave receive_end (Err fault) end requests closed is ends failed read wrote = absurd (cc (is, ends))

-- ---- at an answer

-- the answer ends the connection
pub finishes-answered : {E : Type 0} {config : Config} {before : State} {environment : Environment} {link : LinkView} {rest after : List ℕ} {requests : ℕ}
    {now state_then : State} {environment_now environment_then : Environment} {left_now written_now : Option (List ℕ)} {closes : Bool} (link_then : LinkView)
    → SoFar config before environment link rest requests now environment_now left_now written_now
    → IsNextAnswer {E = E} config rest after requests now environment_now written_now (Ok closes) state_then environment_then link_then.written
    → link_then.left ≡ left_now → closes ≡ true → IsQuiet link link_then
    → Finishes config before environment link (Closed (requests + 1)) state_then environment_then link_then
finishes-answered {link = link} {requests = requests} link_then so_far next same ends quiet =
    let reply = next_reply so_far.exchanges next.answers.exchange in
    let close : reply.close ≡ next.answers.close = next_reply-closes so_far.exchanges so_far.answered.count next in
    finishes link link_then None (Closed (requests + 1)) (answered-next so_far.answered next) same refl tt
    (rw (append-nil, replies-next) (
      quiet,
      writes-next _ reply next.answers.text _ _ _ so_far.writes (rw close next.answers.text_is) next.answers.writes.1,
      inl (end-next _ reply so_far.proceed (close ∙ sym next.answers.writes.0 ∙ ends)),
    ))

-- less than all of the answer was written
pub finishes-cut : {E : Type 0} {config : Config} {before : State} {environment : Environment} {link : LinkView} {rest after : List ℕ} {requests : ℕ}
    {now state_then : State} {environment_now environment_then : Environment} {left_now written_now : Option (List ℕ)} {fault : E} (link_then : LinkView)
    → SoFar config before environment link rest requests now environment_now left_now written_now
    → IsNextAnswer config rest after requests now environment_now written_now (Err fault) state_then environment_then link_then.written
    → link_then.left ≡ left_now → HasIncreased link.write_faults link_then.write_faults → IsReceivedInTime link.left link_then.left link_then.began requests
    → Finishes config before environment link (LinkFault (requests + 1)) state_then environment_then link_then
finishes-cut {link = link} {requests = requests} link_then so_far next same rose in_time =
    let reply = next_reply so_far.exchanges next.answers.exchange in
    let close : reply.close ≡ next.answers.close = next_reply-closes so_far.exchanges so_far.answered.count next in
    finishes link link_then None (LinkFault (requests + 1)) (answered-next so_far.answered next) same refl tt
    (rw (append-nil, replies-next) (inr (
      rose,
      cuts-next _ reply next.answers.text _ _ _ so_far.proceed so_far.writes (rw close next.answers.text_is) next.answers.writes,
      one-more-in-time link link_then so_far.exchanges reply requests so_far.answered.count in_time,
    )))
