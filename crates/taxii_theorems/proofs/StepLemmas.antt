-- A request that is neither a POST nor a DELETE has one step.
use Rattle.std.proofs.Common.{◌≡◌, ◌≢◌, ◌⊎◌, inl, inr, ℕ, List, [], Option, unwrap_or, sym, subst, ◌∙◌}
use Rattle.http_messages.specs.declared.method.Method.{Method}
use Rattle.http_messages.specs.declared.method.Method.TheVariants.{Post, Delete}
use Rattle.http_messages.specs.declared.request.Request.{Request}
use Rattle.taxii_exchange.specs.declared.answer.Answer.{Answer}
use Rattle.taxii_routes.specs.declared.query.Query.{Query}
use Rattle.taxii_routes.specs.declared.route.Route.{Route}
use Rattle.taxii_routes.specs.Query.{Pair, pairs_of, IsQueryOf}
use Rattle.taxii_routes.specs.Route.{IsRoutePath}
use Rattle.taxii_routes.specs.Target.{IsTargetOf}
use Rattle.taxii_bodies.specs.declared.problem.Problem.TheVariants.{NotFound}
use Rattle.taxii_exchange.specs.declared.config.Config.{Config}
use Rattle.taxii_exchange.specs.declared.refusal.Refusal.{Refusal}
use Rattle.taxii_exchange.specs.declared.refusal.Refusal.TheVariants.{NotAllowed, Problem, NoMemory}
use Rattle.taxii_exchange.specs.AnswersToRequests.{answer_to_problem}
use Rattle.taxii_exchange.specs.Checking.{IsFit, IsRefusedByCheck}
use Rattle.taxii_service.specs.Resource.{Resource, allowed, rights_to}
use Rattle.taxii_service.specs.Finding.{IsResource, HasNoResource}
use Rattle.taxii_service.specs.Reading.{IsGetAnswer}
use Rattle.taxii_service.specs.Operation.{Operation, Read, Add, Remove, IsOperation, Does}
use Rattle.taxii_service.specs.declared.state.State.{State}
use Rattle.taxii_service.specs.Step.{IsUndone, IsRefusedResource, IsDone, IsAnswerTo, RouteStep, Step}
use Rattle.taxii_theorems.proofs.ReadingLemmas.{Laws as Readings, one_reading}
use Rattle.taxii_theorems.proofs.ResourceLemmas.{one_resource}
use Rattle.taxii_theorems.proofs.RefusalLemmas.{Laws as Refusals, one_refusal, not_refused}

-- the laws of lower floors
pub record Laws : Type 0 where
  pub path : (target first second : List ℕ) (query other : Option (List ℕ)) → IsTargetOf target first query → IsTargetOf target second other → first ≡ second
  pub text : (target first second : List ℕ) (query other : Option (List ℕ)) → IsTargetOf target first query → IsTargetOf target second other → query ≡ other
  pub route : (path : List ℕ) (first second : Route) → IsRoutePath path first → IsRoutePath path second → first ≡ second
  pub query : (pairs : List Pair) (first second : Query) → IsQueryOf pairs first → IsQueryOf pairs second → first ≡ second
  pub readings : Readings
  pub refusals : Refusals

-- it adds and deletes nothing
abbrev pub IsIdle : Method → Type 0
IsIdle method = (method ≢ Post) × (method ≢ Delete)

-- ---- what is done

can_do : (before : State) (moment : ℕ) (request : Request) (resource : Resource) (text : List ℕ) (refusal : Refusal) → IsIdle request.method
    → IsUndone before moment request resource text refusal → ⊥
can_do before moment request resource text refusal idle undone =
    let (info, operation_is, cannot) = undone.cannot in
    idle.0 (subst (λ (operation : Operation). IsOperation request.method resource operation) operation_is undone.operation_is).0

reads : (config : Config) (before : State) (moment : ℕ) (body : List ℕ) (query : Query) (method : Method) (resource : Resource) (operation : Operation) (answer : Answer) (after : State)
    → IsIdle method → IsOperation method resource operation → Does config before moment body query operation answer after
    → IsGetAnswer config before resource query answer × (after ≡ before)
reads config before moment body query method resource (Read its) answer after idle is does =
    (subst (λ (r : Resource). IsGetAnswer config before r query answer) is.1 does.0, does.1)
reads config before moment body query method resource (Add info) answer after idle is does = absurd (idle.0 is.0)
reads config before moment body query method resource (Remove info id) answer after idle is does = absurd (idle.1 is.0)

-- ---- what is refused

pub one_answer_to : (method : Method) (refusal : Refusal) (first second : Answer) → IsAnswerTo method refusal first → IsAnswerTo method refusal second → first ≡ second
one_answer_to method (NotAllowed its) first second one also = one ∙ sym also
one_answer_to method (Problem problem) first second one also = one ∙ sym also
one_answer_to method NoMemory first second none also = absurd none

-- no resource, or one that stands against it
abbrev IsBarred : Config → State → Request → Route → List ℕ → Refusal → Type 0
IsBarred config before request route text refusal = (HasNoResource config.collections before route × (refusal ≡ Problem NotFound))
    ⊎ ((resource : Resource) × IsResource config.collections before route resource × IsRefusedByCheck (allowed resource) (rights_to resource) request text refusal)

barred : (config : Config) (before : State) (moment : ℕ) (request : Request) (route : Route) (text : List ℕ) (refusal : Refusal) → IsIdle request.method
    → IsRefusedResource config before moment request route text refusal → IsBarred config before request route text refusal
barred config before moment request route text refusal idle (inl none) = inl none
barred config before moment request route text refusal idle (inr (resource, found, inl refused)) = inr (resource, found, refused)
barred config before moment request route text refusal idle (inr (resource, found, inr undone)) =
    absurd (can_do before moment request resource text refusal idle undone)

one_bar : Laws → (config : Config) (before : State) (request : Request) (route : Route) (text : List ℕ) (first second : Refusal)
    → IsBarred config before request route text first → IsBarred config before request route text second → first ≡ second
one_bar laws config before request route text first second (inl one) (inl also) = one.1 ∙ sym also.1
one_bar laws config before request route text first second (inl one) (inr also) = absurd (one.0 also.0 also.1)
one_bar laws config before request route text first second (inr one) (inl also) = absurd (also.0 one.0 one.1)
one_bar laws config before request route text first second (inr (resource, found, one)) (inr (others, there, also)) =
    let same : resource ≡ others = one_resource laws.readings.identifier config.collections before route resource others found there in
    one_refusal laws.refusals (allowed others) (rights_to others) request text first second
    (subst (λ (r : Resource). IsRefusedByCheck (allowed r) (rights_to r) request text first) same one) also

not_barred : Laws → (config : Config) (before : State) (request : Request) (route : Route) (text : List ℕ) (resource : Resource) (query : Query) (refusal : Refusal)
    → IsResource config.collections before route resource → IsFit (allowed resource) (rights_to resource) request → IsQueryOf (pairs_of text) query
    → IsBarred config before request route text refusal → ⊥
not_barred laws config before request route text resource query refusal found fit asks (inl none) = none.0 resource found
not_barred laws config before request route text resource query refusal found fit asks (inr (others, there, refused)) =
    let same : others ≡ resource = one_resource laws.readings.identifier config.collections before route others resource there found in
    not_refused laws.refusals (allowed resource) (rights_to resource) request text query refusal fit asks
    (subst (λ (r : Resource). IsRefusedByCheck (allowed r) (rights_to r) request text refusal) same refused)

-- ---- a route

one_done : Laws → (config : Config) (before first second : State) (moment later : ℕ) (request : Request) (route : Route) (text : List ℕ) (answer other : Answer) → IsIdle request.method
    → IsDone config before moment request route text answer first → IsDone config before later request route text other second → answer ≡ other
one_done laws config before first second moment later request route text answer other idle one also =
    let same : one.query ≡ also.query = laws.query (pairs_of text) one.query also.query one.query_is also.query_is in
    let resource : one.resource ≡ also.resource = one_resource laws.readings.identifier config.collections before route one.resource also.resource one.found also.found in
    let read = reads config before moment request.body one.query request.method one.resource one.operation answer first idle one.operation_is one.does in
    let again = reads config before later request.body also.query request.method also.resource also.operation other second idle also.operation_is also.does in
    one_reading laws.readings config before also.resource also.query answer other
    (subst (λ (r : Resource). IsGetAnswer config before r also.query answer) resource
    (subst (λ (q : Query). IsGetAnswer config before one.resource q answer) same read.0)) again.0

one_route : Laws → (config : Config) (before first second : State) (moment later : ℕ) (request : Request) (route : Route) (text : List ℕ) (answer other : Answer) → IsIdle request.method
    → RouteStep config before moment request route text answer first → RouteStep config before later request route text other second → answer ≡ other
one_route laws config before first second moment later request route text answer other idle (inl (refusal, refused, told, same)) (inl (refusal_too, refused_too, told_too, same_too)) =
    let one : refusal ≡ refusal_too = one_bar laws config before request route text refusal refusal_too
    (barred config before moment request route text refusal idle refused) (barred config before later request route text refusal_too idle refused_too) in
    one_answer_to request.method refusal_too answer other (subst (λ (r : Refusal). IsAnswerTo request.method r answer) one told) told_too
one_route laws config before first second moment later request route text answer other idle (inl (refusal, refused, told, same)) (inr done) =
    absurd (not_barred laws config before request route text done.resource done.query refusal done.found done.fit done.query_is
    (barred config before moment request route text refusal idle refused))
one_route laws config before first second moment later request route text answer other idle (inr done) (inl (refusal, refused, told, same)) =
    absurd (not_barred laws config before request route text done.resource done.query refusal done.found done.fit done.query_is
    (barred config before later request route text refusal idle refused))
one_route laws config before first second moment later request route text answer other idle (inr done) (inr also) =
    one_done laws config before first second moment later request route text answer other idle done also

-- ---- a step

-- no route, or one
abbrev pub Outcome : Config → State → ℕ → Request → List ℕ → List ℕ → Answer → State → Type 0
Outcome config before moment request path text answer after =
    (((route : Route) → ¬ IsRoutePath path route) × (answer ≡ answer_to_problem request.method NotFound) × (after ≡ before))
    ⊎ ((route : Route) × IsRoutePath path route × RouteStep config before moment request route text answer after)

one_outcome : Laws → (config : Config) (before first second : State) (moment later : ℕ) (request : Request) (path text : List ℕ) (answer other : Answer) → IsIdle request.method
    → Outcome config before moment request path text answer first → Outcome config before later request path text other second → answer ≡ other
one_outcome laws config before first second moment later request path text answer other idle (inl lost) (inl also) = lost.1 ∙ sym also.1
one_outcome laws config before first second moment later request path text answer other idle (inl lost) (inr (route, is, step)) = absurd (lost.0 route is)
one_outcome laws config before first second moment later request path text answer other idle (inr (route, is, step)) (inl lost) = absurd (lost.0 route is)
one_outcome laws config before first second moment later request path text answer other idle (inr (route, is, step)) (inr (route_too, is_too, step_too)) =
    let same : route ≡ route_too = laws.route path route route_too is is_too in
    one_route laws config before first second moment later request route_too text answer other idle
    (subst (λ (r : Route). RouteStep config before moment request r text answer first) same step) step_too

pub one_reading_step : Laws → (config : Config) (before first second : State) (moment later : ℕ) (request : Request) (answer other : Answer) → IsIdle request.method
    → Step config before moment request answer first → Step config before later request other second → answer ≡ other
one_reading_step laws config before first second moment later request answer other idle one also =
    let path : one.path ≡ also.path = laws.path request.target one.path also.path one.query also.query one.target_is also.target_is in
    let query : one.query ≡ also.query = laws.text request.target one.path also.path one.query also.query one.target_is also.target_is in
    let moved : Outcome config before moment request also.path (unwrap_or also.query []) answer first =
    subst (λ (q : Option (List ℕ)). Outcome config before moment request also.path (unwrap_or q []) answer first) query
    (subst (λ (p : List ℕ). Outcome config before moment request p (unwrap_or one.query []) answer first) path one.outcome) in
    one_outcome laws config before first second moment later request also.path (unwrap_or also.query []) answer other idle moved also.outcome

route_stays : (config : Config) (before after : State) (moment : ℕ) (request : Request) (route : Route) (text : List ℕ) (answer : Answer) → IsIdle request.method
    → RouteStep config before moment request route text answer after → after ≡ before
route_stays config before after moment request route text answer idle (inl (refusal, refused, told, same)) = same
route_stays config before after moment request route text answer idle (inr done) =
    (reads config before moment request.body done.query request.method done.resource done.operation answer after idle done.operation_is done.does).1

pub stays : (config : Config) (before after : State) (moment : ℕ) (request : Request) (answer : Answer) → IsIdle request.method
    → Step config before moment request answer after → after ≡ before
stays config before after moment request answer idle step = elim step.outcome [
  | inl lost ↦ lost.2
  | inr found ↦ route_stays config before after moment request found.0 (unwrap_or step.query []) answer idle found.2
]
