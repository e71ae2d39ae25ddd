-- A connection that goes on: what it has answered so far, and how it takes more bytes and answers one request more.
use Rattle.std.proofs.Common.{◌≡◌, ◌⊎◌, inl, inr, IfSome, ℕ, ◌+◌, ◌-◌, ◌<◌, List, [], ◌∷◌, ◌++◌, length, map, Bool, true, false, ◌||◌, nat_eq, Option, Result, Ok, refl, sym, ap, ◌∙◌, arith, length-append}
use Rattle.std.proofs.lemmas.Bool.Decides.{nat_tests}
use Rattle.std.proofs.lemmas.List.{map-append, length-map}
use Rattle.std.proofs.lemmas.List.Elements.{All-nil, All-push}
use Rattle.http_messages.specs.declared.frame.Frame.TheVariants.{Request as Given}
use Rattle.http_messages.specs.declared.request.Request.{Request}
use Rattle.http_messages.specs.Frames.{IsFirstFrame}
use Rattle.taxii_exchange.specs.declared.config.Config.{Config}
use Rattle.taxii_service.specs.declared.state.State.{State}
use Rattle.taxii_service.specs.Exchanges.{Exchange, IsExchange, Follow, HasServed}
use Rattle.taxii_server.specs.declared.connection.TheConstants.{MAX_BODY, MAX_REQUESTS}
use Rattle.taxii_server.specs.declared.receive_end.ReceiveEnd.{ReceiveEnd}
use Rattle.taxii_server.specs.Connections.{BeginWith, Reply, ends_out_of_memory, replies_within, KeepConnection, WritesReplies, Pass}
use Rattle.taxii_server.specs.Environment.{LinkView, Environment, TakesFromClient}
use Rattle.taxii_server.specs.inner.Answering.{Answers}
use Rattle.taxii_server.specs.inner.Receiving.{Receives, WantedMore, IsReceivedInTime}
use Rattle.taxii_server.proofs.BytesLemmas.{LaterBytesChangeNothing, begin_with-more, begin_with-next}
use Rattle.taxii_server.proofs.EnvironmentLemmas.{pass-none, pass-then}
use Rattle.taxii_server.proofs.RepliesLemmas.{reply_within, replies-next, last-within, proceed-next, writes-none, writes-next}
use Rattle.taxii_server.proofs.TakesLemmas.{takes-none, takes-then, still-in-time}

-- ---- what a server did, and one exchange more

follow-next : (before middle after : State) (exchanges : List Exchange) (e : Exchange) → Follow before exchanges middle → e.before ≡ middle → e.after ≡ after
    → Follow before (exchanges ++ e ∷ []) after
follow-next before middle after [] e follow is is_after = (is ∙ follow, sym is_after)
follow-next before middle after (first ∷ exchanges) e (its, follow) is is_after = (its, follow-next first.after middle after exchanges e follow is is_after)

served-next : (config : Config) (before middle after : State) (exchanges : List Exchange) (e : Exchange) → HasServed config before exchanges middle
    → IsExchange config e → e.before ≡ middle → e.after ≡ after → HasServed config before (exchanges ++ e ∷ []) after
served-next config before middle after exchanges e served its is is_after = record {
  each = All-push (IsExchange config) exchanges e served.each its;
  follow = follow-next before middle after exchanges e served.follow is is_after;
}

-- ---- what was answered

-- these requests were answered so far: all but what was written
pub record HasAnswered (config : Config) (before : State) (environment : Environment) (left : Option (List ℕ)) (rest : List ℕ) (requests : ℕ)
    (now : State) (environment_now : Environment) (left_now : Option (List ℕ)) (exchanges : List Exchange) : Type 0 where
  pub taken : List ℕ
  pub takes : TakesFromClient taken left left_now
  pub begins : BeginWith taken (map (λ e. e.request) exchanges) rest
  pub served : HasServed config before exchanges now
  pub count : length exchanges ≡ requests
  pub passes : Pass exchanges environment environment_now

-- so far the connection goes on
pub record SoFar (config : Config) (before : State) (environment : Environment) (link : LinkView) (rest : List ℕ) (requests : ℕ)
    (now : State) (environment_now : Environment) (left_now written_now : Option (List ℕ)) : Type 0 where
  pub exchanges : List Exchange
  pub answered : HasAnswered config before environment link.left rest requests now environment_now left_now exchanges
  pub proceed : KeepConnection (replies_within MAX_REQUESTS exchanges)
  pub writes : WritesReplies (replies_within MAX_REQUESTS exchanges) link.written written_now

-- nothing was taken yet
pub so_far-start : (config : Config) (before : State) (environment : Environment) (link : LinkView) → SoFar config before environment link [] 0 before environment link.left link.written
so_far-start config before environment link = record {
  exchanges = [];
  answered = record {
    taken = [];
    takes = takes-none link.left link.left refl;
    begins = refl;
    served = record { each = All-nil (IsExchange config); follow = refl };
    count = refl;
    passes = pass-none environment;
  };
  proceed = tt;
  writes = writes-none link.written;
}

-- bytes were taken for the next request
pub so_far-received : {config : Config} {before : State} {environment : Environment} {link : LinkView} {rest after : List ℕ} {requests : ℕ} {now : State}
    {environment_now : Environment} {left_now left_then written_now written_then : Option (List ℕ)} {faults faults_now : ℕ} {result : Result Request ReceiveEnd}
    → LaterBytesChangeNothing → SoFar config before environment link rest requests now environment_now left_now written_now
    → (received : Receives rest after left_now left_then faults faults_now result) → written_then ≡ written_now
    → SoFar config before environment link (rest ++ received.taken) requests now environment_now left_then written_then
so_far-received later so_far received same = record {
  exchanges = so_far.exchanges;
  answered = record {
    taken = so_far.answered.taken ++ received.taken;
    takes = takes-then so_far.answered.taken received.taken _ _ _ so_far.answered.takes received.takes;
    begins = begin_with-more later _ received.taken _ _ so_far.answered.begins;
    served = so_far.answered.served;
    count = so_far.answered.count;
    passes = so_far.answered.passes;
  };
  proceed = so_far.proceed;
  writes = rw same so_far.writes;
}

-- the last read began when only the requests that were answered had come whole
pub received-in-time : {L : Type 0} {config : Config} {before : State} {environment : Environment} {link : LinkView} {rest : List ℕ} {requests : ℕ} {now : State}
    {environment_now : Environment} {written_now : Option (List ℕ)} → LaterBytesChangeNothing → (left began : L → Option (List ℕ)) (old new : L)
    → SoFar config before environment link rest requests now environment_now (left old) written_now
    → IsReceivedInTime link.left (left old) (began old) requests → (new ≡ old) ⊎ IfSome (began new) (WantedMore rest (left old))
    → IsReceivedInTime link.left (left new) (began new) requests
received-in-time {rest = rest} {requests = requests} later left began old new so_far in_time wanted =
    still-in-time so_far.answered.taken rest (map (λ e. e.request) so_far.exchanges) requests later in_time so_far.answered.takes so_far.answered.begins
    (length-map so_far.exchanges (λ e. e.request) ∙ so_far.answered.count) (observable wanted)
  where
    observable : (new ≡ old) ⊎ IfSome (began new) (WantedMore rest (left old))
        → ((left new ≡ left old) × (began new ≡ began old)) ⊎ IfSome (began new) (WantedMore rest (left old))
    observable (inl same) = inl (ap left same, ap began same)
    observable (inr wants) = inr wants

-- ---- one request more

-- the request is the next one, and its answer, before which so many were given, was written or less than all of it
pub record IsNextAnswer {E : Type 0} (config : Config) (rest after : List ℕ) (requests : ℕ) (now : State) (environment_now : Environment) (written_now : Option (List ℕ))
    (result : Result Bool E) (state_then : State) (environment_then : Environment) (written_then : Option (List ℕ)) : Type 0 where
  pub request : Request
  pub is_last : Bool
  pub answers : Answers config now request is_last environment_now environment_then written_now written_then result state_then
  pub first : IsFirstFrame MAX_BODY rest (Given request) after
  pub last : is_last ≡ nat_eq (requests + 1) MAX_REQUESTS
  pub few : requests < MAX_REQUESTS

-- what was answered with it
pub answered-next : {E : Type 0} {config : Config} {before : State} {environment : Environment} {left : Option (List ℕ)} {rest after : List ℕ} {requests : ℕ}
    {now state_then : State} {environment_now environment_then : Environment} {left_now written_now written_then : Option (List ℕ)} {exchanges : List Exchange} {result : Result Bool E}
    → HasAnswered config before environment left rest requests now environment_now left_now exchanges
    → (next : IsNextAnswer config rest after requests now environment_now written_now result state_then environment_then written_then)
    → HasAnswered config before environment left after (requests + 1) state_then environment_then left_now (exchanges ++ next.answers.exchange ∷ [])
answered-next {config = config} {before = before} {rest = rest} {after = after} {now = now} {state_then = state_then} {exchanges = exchanges} has next = record {
  taken = has.taken;
  takes = has.takes;
  begins = rw (map-append, next.answers.request_is) (begin_with-next has.taken _ rest next.request after has.begins next.first);
  served = served-next config before now state_then exchanges next.answers.exchange has.served next.answers.its next.answers.before_is next.answers.after_is;
  count = omega (arith, length-append exchanges (next.answers.exchange ∷ []), has.count);
  passes = pass-then exchanges (next.answers.exchange ∷ []) _ _ _ has.passes next.answers.passes;
}

-- its reply
abbrev pub next_reply : List Exchange → Exchange → Reply
next_reply exchanges e = reply_within (MAX_REQUESTS - length exchanges) e

-- its reply ends the connection where its answer does
pub next_reply-closes : {E : Type 0} {config : Config} {rest after : List ℕ} {requests : ℕ} {now state_then : State} {environment_now environment_then : Environment}
    {written_now written_then : Option (List ℕ)} {result : Result Bool E} (exchanges : List Exchange) → length exchanges ≡ requests
    → (next : IsNextAnswer config rest after requests now environment_now written_now result state_then environment_then written_then)
    → (next_reply exchanges next.answers.exchange).close ≡ next.answers.close
next_reply-closes {requests = requests} exchanges count next =
    let at : nat_eq (MAX_REQUESTS - length exchanges) 1 ≡ next.is_last =
    ap (λ k. nat_eq (MAX_REQUESTS - k) 1) count ∙ last-within MAX_REQUESTS requests next.few ∙ sym next.last in
    ap (λ (its : Request). its.close || ends_out_of_memory next.answers.exchange.course || nat_eq (MAX_REQUESTS - length exchanges) 1) next.answers.request_is
    ∙ ap (λ (its : Bool). next.request.close || ends_out_of_memory next.answers.exchange.course || its) at ∙ sym next.answers.close_is

not-last : (requests most : ℕ) → requests < most → nat_eq (requests + 1) most ≡ false → requests + 1 < most
not-last requests most few not = grind (arith, nat_tests)

last-is : (asked lacks last : Bool) → (asked || lacks || last) ≡ false → last ≡ false
last-is true lacks last proceed = absurd (cc proceed)
last-is false true last proceed = absurd (cc proceed)
last-is false false last proceed = proceed

-- where the connection goes on after it, it isn't the last that may be given
pub few-next : {E : Type 0} {config : Config} {rest after : List ℕ} {requests : ℕ} {now state_then : State} {environment_now environment_then : Environment}
    {written_now written_then : Option (List ℕ)} {closes : Bool}
    → IsNextAnswer {E = E} config rest after requests now environment_now written_now (Ok closes) state_then environment_then written_then
    → closes ≡ false → requests + 1 < MAX_REQUESTS
few-next {requests = requests} next continues =
    let not : nat_eq (requests + 1) MAX_REQUESTS ≡ false =
    sym next.last ∙ last-is next.request.close (ends_out_of_memory next.answers.exchange.course) next.is_last (sym next.answers.close_is ∙ sym next.answers.writes.0 ∙ continues) in
    not-last requests MAX_REQUESTS next.few not

-- the connection goes on after it
pub so_far-next : {E : Type 0} {config : Config} {before : State} {environment : Environment} {link : LinkView} {rest after : List ℕ} {requests : ℕ}
    {now state_then : State} {environment_now environment_then : Environment} {left_now written_now written_then : Option (List ℕ)} {closes : Bool} (left_then : Option (List ℕ))
    → SoFar config before environment link rest requests now environment_now left_now written_now
    → IsNextAnswer {E = E} config rest after requests now environment_now written_now (Ok closes) state_then environment_then written_then
    → left_then ≡ left_now → closes ≡ false
    → SoFar config before environment link after (requests + 1) state_then environment_then left_then written_then
so_far-next left_then so_far next same continues =
    let reply = next_reply so_far.exchanges next.answers.exchange in
    let close : reply.close ≡ next.answers.close = next_reply-closes so_far.exchanges so_far.answered.count next in
    record {
      exchanges = so_far.exchanges ++ next.answers.exchange ∷ [];
      answered = rw same (answered-next so_far.answered next);
      proceed = rw replies-next (proceed-next _ reply so_far.proceed (close ∙ sym next.answers.writes.0 ∙ continues));
      writes = rw replies-next (writes-next _ reply next.answers.text _ _ _ so_far.writes (rw close next.answers.text_is) next.answers.writes.1);
    }
