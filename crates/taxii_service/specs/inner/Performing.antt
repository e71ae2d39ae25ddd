-- The operation that a value of the program stands for, and the effect of a change whose keeper
-- failed.
use Rattle.std.specs.Prelude.{◌≡◌, ◌≢◌, ℕ, List, None}
use Rattle.stix_ids.specs.PartsOf.{id_of}
use Rattle.http_messages.specs.declared.request.Request.{Request}
use Rattle.taxii_exchange.specs.declared.answer.Answer.{Answer}
use Rattle.taxii_exchange.specs.declared.config.Config.{Config}
use Rattle.taxii_routes.specs.declared.query.Query.{Query}
use Rattle.taxii_routes.specs.declared.route.Route.{Route}
use Rattle.taxii_service.specs.declared.operation.Operation.{Operation as Made}
use Rattle.taxii_service.specs.declared.operation.Operation.TheVariants as made
use Rattle.taxii_exchange.specs.Statuses.{kept_status_body}
use Rattle.taxii_service.specs.declared.state.State.{State}
use Rattle.taxii_service.specs.Resource.{Resource, Status, resource_of}
use Rattle.taxii_service.specs.Operation.{Operation, Read, Add, Remove, Does}
use Rattle.taxii_service.specs.Step.{IsDone}

-- the operation that a value of the program stands for
abbrev pub operation_of : Made → Operation
operation_of (made.Read resource) = Read (resource_of resource)
operation_of (made.Add info) = Add info.now
operation_of (made.Remove info id) = Remove info.now (id_of id)

-- the status that is read is kept
abbrev pub HasStatus : State → Resource → Type 0
HasStatus state resource = (id : List ℕ) → resource ≡ Status id → kept_status_body id state.statuses ≢ None

-- an answer and a state with other rows
abbrev pub ChangesBy : (Answer → State → Type 0) → State → Type 0
ChangesBy Rule before = (answer : Answer) × (after : State) × Rule answer after × (after.library.rows ≢ before.library.rows)

abbrev pub MethodChanges : Config → State → ℕ → List ℕ → Query → Operation → Type 0
MethodChanges config before moment body query operation = ChangesBy (Does config before moment body query operation) before

abbrev pub RouteChanges : Config → State → ℕ → Request → Route → List ℕ → Type 0
RouteChanges config before moment request route text = ChangesBy (IsDone config before moment request route text) before
