-- One step of a server (TAXII 2.1, sections 3 to 5): a request at a moment, its answer, and what
-- the server has after it.
use Rattle.std.specs.Prelude.{◌≡◌, ◌≢◌, ◌⊎◌, ℕ, List, [], Option, Some, unwrap_or}
use Rattle.http_messages.specs.declared.method.Method.{Method}
use Rattle.http_messages.specs.declared.request.Request.{Request}
use Rattle.http_messages.specs.declared.status.Status.TheVariants.{MethodNotAllowed}
use Rattle.taxii_exchange.specs.declared.answer.Answer.{Answer}
use Rattle.taxii_routes.specs.declared.query.Query.{Query}
use Rattle.taxii_routes.specs.declared.route.Route.{Route}
use Rattle.taxii_routes.specs.Query.{pairs_of, IsQueryOf}
use Rattle.taxii_routes.specs.Route.{IsRoutePath}
use Rattle.taxii_routes.specs.Target.{IsTargetOf}
use Rattle.taxii_bodies.specs.declared.problem.Problem.TheVariants.{NotFound, StoreFault}
use Rattle.taxii_exchange.specs.declared.config.Config.{Config}
use Rattle.taxii_exchange.specs.declared.refusal.Refusal.{Refusal}
use Rattle.taxii_exchange.specs.declared.refusal.Refusal.TheVariants.{NotAllowed, Problem, NoMemory}
use Rattle.taxii_exchange.specs.AnswersToRequests.{bare_answer, answer_to_problem}
use Rattle.taxii_exchange.specs.Checking.{IsFit, IsRefusedByCheck}
use Rattle.taxii_service.specs.Resource.{Resource, allowed, rights_to}
use Rattle.taxii_service.specs.Finding.{IsResource, HasNoResource}
use Rattle.taxii_service.specs.Operation.{Operation, IsOperation, Does, CannotDo}
use Rattle.taxii_service.specs.declared.state.State.{State}

-- the request passed all checks, and its operation cannot be performed
pub record IsUndone (before : State) (moment : ℕ) (request : Request) (resource : Resource) (text : List ℕ) (refusal : Refusal) : Type 0 where
  pub query : Query
  pub operation : Operation
  pub fit : IsFit (allowed resource) (rights_to resource) request
  pub query_is : IsQueryOf (pairs_of text) query
  pub operation_is : IsOperation request.method resource operation
  pub cannot : CannotDo before moment request.body operation refusal

-- why a request to the resource of a route is refused
abbrev pub IsRefusedResource : Config → State → ℕ → Request → Route → List ℕ → Refusal → Type 0
IsRefusedResource config before moment request route text refusal =
    (HasNoResource config.collections before route × (refusal ≡ Problem NotFound))
    ⊎ ((resource : Resource) × IsResource config.collections before route resource
    × (IsRefusedByCheck (allowed resource) (rights_to resource) request text refusal
    ⊎ IsUndone before moment request resource text refusal))

-- the request is done
pub record IsDone (config : Config) (before : State) (moment : ℕ) (request : Request) (route : Route) (text : List ℕ) (answer : Answer) (after : State) : Type 0 where
  pub resource : Resource
  pub operation : Operation
  pub query : Query
  pub found : IsResource config.collections before route resource
  pub fit : IsFit (allowed resource) (rights_to resource) request
  pub query_is : IsQueryOf (pairs_of text) query
  pub operation_is : IsOperation request.method resource operation
  pub does : Does config before moment request.body query operation answer after

-- the response to a refusal; out of memory has a separate one
abbrev pub IsAnswerTo : Method → Refusal → Answer → Type 0
IsAnswerTo method (NotAllowed its) answer = answer ≡ bare_answer MethodNotAllowed (Some its)
IsAnswerTo method (Problem problem) answer = answer ≡ answer_to_problem method problem
IsAnswerTo method NoMemory answer = ⊥

-- a request to the resource of a route is refused or done
abbrev pub RouteStep : Config → State → ℕ → Request → Route → List ℕ → Answer → State → Type 0
RouteStep config before moment request route text answer after =
    ((refusal : Refusal) × IsRefusedResource config before moment request route text refusal × IsAnswerTo request.method refusal answer × (after ≡ before))
    ⊎ IsDone config before moment request route text answer after

-- one step: a path without a route is not found
pub record Step (config : Config) (before : State) (moment : ℕ) (request : Request) (answer : Answer) (after : State) : Type 0 where
  pub path : List ℕ
  pub query : Option (List ℕ)
  pub target_is : IsTargetOf request.target path query
  pub outcome :
      (((route : Route) → ¬ IsRoutePath path route) × (answer ≡ answer_to_problem request.method NotFound) × (after ≡ before))
      ⊎ ((route : Route) × IsRoutePath path route × RouteStep config before moment request route (unwrap_or query []) answer after)

-- the keeper failed in a request whose step changes rows; nothing has changed
pub record FailsToKeep (config : Config) (before : State) (moment : ℕ) (request : Request) (answer : Answer) (after : State) : Type 0 where
  pub answer_is : answer ≡ answer_to_problem request.method StoreFault
  pub unchanged : after ≡ before
  pub wanted : Answer
  pub changed : State
  pub step : Step config before moment request wanted changed
  pub rows : changed.library.rows ≢ before.library.rows
