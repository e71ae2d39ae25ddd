-- What is received from a link: the next request, or why there is none yet.
use Rattle.std.specs.Prelude.{◌≡◌, ◌⊎◌, ◌<◌, ◌≤◌, ⊤, ℕ, List, [], ◌++◌, length, Option, Some, IfSome, Result, MatchResult}
use Rattle.flow_edges.specs.Faults.{HasIncreased}
use Rattle.flow_edges.specs.Flow.{IsAtEnd}
use Rattle.http_messages.specs.declared.frame.Frame.TheVariants.{More, Request as Given, Refused as Bad}
use Rattle.http_messages.specs.declared.request.Request.{Request}
use Rattle.http_messages.specs.Frames.{IsFirstFrame}
use Rattle.taxii_server.specs.declared.connection.TheConstants.{MAX_BODY}
use Rattle.taxii_server.specs.declared.receive_end.ReceiveEnd.{ReceiveEnd}
use Rattle.taxii_server.specs.declared.receive_end.ReceiveEnd.TheVariants.{AtEnd, Refused, NoMemory, Failed}
use Rattle.taxii_server.specs.Connections.{HadCome}
use Rattle.taxii_server.specs.Environment.{TakesFromClient}

-- why these bytes give no request, and no more of them are there
abbrev pub StopsReceivingAt : List ℕ → Option (List ℕ) → ℕ → ℕ → ReceiveEnd → Type 0
StopsReceivingAt bytes left faults now AtEnd = IsFirstFrame MAX_BODY bytes More bytes × IsAtEnd left
StopsReceivingAt bytes left faults now (Refused refusal) = IsFirstFrame MAX_BODY bytes (Bad refusal) bytes
StopsReceivingAt bytes left faults now NoMemory = ⊤
StopsReceivingAt bytes left faults now Failed = IsFirstFrame MAX_BODY bytes More bytes × HasIncreased faults now

-- why no more bytes were taken, or why those that were are not kept
abbrev pub FailsToReceive : List ℕ → Option (List ℕ) → ℕ → ℕ → ReceiveEnd → Type 0
FailsToReceive taken left faults now AtEnd = (taken ≡ []) × IsAtEnd left
FailsToReceive taken left faults now (Refused refusal) = ⊥
FailsToReceive taken left faults now NoMemory = ⊤
FailsToReceive taken left faults now Failed = (taken ≡ []) × HasIncreased faults now

-- some bytes were taken and follow those that were there before, or there is a receive end
pub record TakesMore {T : Type 0} (before after : List ℕ) (left left_now : Option (List ℕ)) (faults faults_now : ℕ) (result : Result T ReceiveEnd) : Type 0 where
  pub taken : List ℕ
  pub takes : TakesFromClient taken left left_now
  pub gives : MatchResult result (λ _. (after ≡ before ++ taken) × (0 < length taken)) (FailsToReceive taken left_now faults faults_now)

-- when these bytes were left on the link, more bytes were needed after those buffered before and
-- taken since
pub record WantedMore (before : List ℕ) (left : Option (List ℕ)) (bytes : List ℕ) : Type 0 where
  pub early : List ℕ
  pub all : left ≡ Some (early ++ bytes)
  pub wants : IsFirstFrame MAX_BODY (before ++ early) More (before ++ early)

-- nothing was read, or the last read began when no more requests than these had come whole
abbrev pub IsReceivedInTime : Option (List ℕ) → Option (List ℕ) → Option (List ℕ) → ℕ → Type 0
IsReceivedInTime first left began requests = (left ≡ first) ⊎ IfSome began (λ bytes. (came : ℕ) × (came ≤ requests) × HadCome came first bytes)

-- some bytes were taken, and with those that were there before they give a request, or a receive
-- end
pub record Receives (before after : List ℕ) (left left_now : Option (List ℕ)) (faults faults_now : ℕ) (result : Result Request ReceiveEnd) : Type 0 where
  pub taken : List ℕ
  pub takes : TakesFromClient taken left left_now
  pub gives : MatchResult result
      (λ request. IsFirstFrame MAX_BODY (before ++ taken) (Given request) after)
      (StopsReceivingAt (before ++ taken) left_now faults faults_now)
