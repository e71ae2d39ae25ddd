-- The exchanges of a server: requests at moments, in order, each with its response and the states
-- before and after it.
use Rattle.std.specs.Prelude.{◌≡◌, ℕ, List, [], ◌∷◌, All, Option, unwrap_or}
use Rattle.http_messages.specs.declared.request.Request.{Request}
use Rattle.taxii_exchange.specs.declared.answer.Answer.{Answer}
use Rattle.taxii_exchange.specs.Answers.{no_memory_answer}
use Rattle.taxii_routes.specs.declared.route.Route.{Route}
use Rattle.taxii_routes.specs.Route.{IsRoutePath}
use Rattle.taxii_routes.specs.Target.{IsTargetOf}
use Rattle.taxii_exchange.specs.declared.config.Config.{Config}
use Rattle.taxii_service.specs.declared.state.State.{State}
use Rattle.taxii_service.specs.Step.{IsDone, Step, FailsToKeep}

-- what came of a request: its step, a fault of the keeper, or out of memory
pub data Course : Type 0 where
  Stepped : Course
  KeeperFailed : Course
  OutOfMemory : Course

-- a request and its answer
pub record Exchange : Type 0 where
  pub before : State
  pub moment : ℕ
  pub request : Request
  pub course : Course
  pub answer : Answer
  pub after : State

-- an exchange: a step, or a response that reports a failure, and then nothing has changed
abbrev pub RunsExchange : Course → Config → Exchange → Type 0
RunsExchange Stepped config e = Step config e.before e.moment e.request e.answer e.after
RunsExchange KeeperFailed config e = FailsToKeep config e.before e.moment e.request e.answer e.after
RunsExchange OutOfMemory config e = (e.answer ≡ no_memory_answer) × (e.after ≡ e.before)

-- the exchange went as its course says
abbrev pub IsExchange : Config → Exchange → Type 0
IsExchange config e = RunsExchange e.course config e

-- an exchange performed its request: its target has a path and perhaps a query, the path has a
-- route, and no check failed
pub record WasDone (config : Config) (e : Exchange) : Type 0 where
  pub path : List ℕ
  pub text : Option (List ℕ)
  pub target_is : IsTargetOf e.request.target path text
  pub route : Route
  pub route_is : IsRoutePath path route
  pub done : IsDone config e.before e.moment e.request route (unwrap_or text []) e.answer e.after

-- each exchange begins with what the one before it left
abbrev pub Follow : State → List Exchange → State → Type 0
Follow before [] after = after ≡ before
Follow before (e ∷ exchanges) after = (e.before ≡ before) × Follow e.after exchanges after

-- the server served these requests in order, and nothing else changed what it has
pub record HasServed (config : Config) (before : State) (exchanges : List Exchange) (after : State) : Type 0 where
  pub each : All (IsExchange config) exchanges
  pub follow : Follow before exchanges after
