-- What was answered with 200 was done, and a GET of objects that was done has a page of the store as it was there.
use Rattle.std.proofs.Common.{◌≡◌, ◌≢◌, ◌⊎◌, inl, inr, ℕ, List, [], Option, Some, None, unwrap_or, sym, ap, subst, ◌∙◌}
use Rattle.stix_ids.specs.declared.id.Id.{Id}
use Rattle.stix_ids.specs.Identifier.{IsTextOfId}
use Rattle.http_messages.specs.declared.method.Method.{Method}
use Rattle.http_messages.specs.declared.method.Method.TheVariants.{Get}
use Rattle.http_messages.specs.declared.status.Status.TheVariants.{Okay, MethodNotAllowed}
use Rattle.taxii_exchange.specs.declared.answer.Answer.{Answer}
use Rattle.taxii_exchange.specs.Answers.{no_memory_answer}
use Rattle.taxii_routes.specs.declared.query.Query.{Query}
use Rattle.taxii_routes.specs.declared.route.Route.{Route}
use Rattle.taxii_routes.specs.declared.route.Route.TheVariants as found_at
use Rattle.taxii_routes.specs.Query.{Pair, pairs_of, IsQueryOf}
use Rattle.taxii_routes.specs.Route.{IsRoutePath}
use Rattle.taxii_routes.specs.Target.{IsTargetOf}
use Rattle.taxii_rows.specs.declared.stored_row.StoredRow.{StoredRow}
use Rattle.taxii_bodies.specs.declared.collections.CollectionInfo.{CollectionInfo}
use Rattle.taxii_bodies.specs.declared.problem.Problem.{Problem as AnyProblem}
use Rattle.taxii_bodies.specs.declared.problem.Problem.TheVariants.{BadValue, Repeated, Forbidden, NotFound, NotAcceptable, UnsupportedMediaType, NotJson, NotList, StoreFault, DatesUsedUp}
use Rattle.taxii_exchange.specs.declared.config.Config.{Config}
use Rattle.taxii_exchange.specs.declared.refusal.Refusal.{Refusal}
use Rattle.taxii_exchange.specs.declared.refusal.Refusal.TheVariants.{NotAllowed, Problem, NoMemory}
use Rattle.taxii_exchange.specs.AnswersToRequests.{problem_status, bare_answer, answer_to_problem}
use Rattle.taxii_exchange.proofs.AnswersToRequestsLemmas.{told_status}
use Rattle.taxii_service.specs.Resource.{Resource, Objects, Object}
use Rattle.taxii_service.specs.Finding.{NamesCollection, IsResource}
use Rattle.taxii_service.specs.Operation.{Operation, Read, Add, Remove, IsOperation, Does}
use Rattle.taxii_service.specs.Reading.{IsPageOf, IsEnvelope, IsGetAnswer, object_query}
use Rattle.taxii_service.specs.declared.state.State.{State}
use Rattle.taxii_service.specs.Step.{IsAnswerTo, RouteStep, Step}
use Rattle.taxii_service.specs.Exchanges.{Course, Stepped, KeeperFailed, OutOfMemory, Exchange, RunsExchange, IsExchange, WasDone}
use Rattle.taxii_service.specs.Visits.{AsksForAll, AsksForOne, Asks}

-- ---- what isn't answered with 200

problem_not_okay : (problem : AnyProblem) → problem_status problem ≢ Okay
problem_not_okay (BadValue param) same = absurd (cc)
problem_not_okay (Repeated param) same = absurd (cc)
problem_not_okay Forbidden same = absurd (cc)
problem_not_okay NotFound same = absurd (cc)
problem_not_okay NotAcceptable same = absurd (cc)
problem_not_okay UnsupportedMediaType same = absurd (cc)
problem_not_okay NotJson same = absurd (cc)
problem_not_okay NotList same = absurd (cc)
problem_not_okay StoreFault same = absurd (cc)
problem_not_okay DatesUsedUp same = absurd (cc)

okay_too : (answer other : Answer) → answer ≡ other → answer.status ≡ Okay → other.status ≡ Okay
okay_too answer other is okay = sym (ap (λ (its : Answer). its.status) is) ∙ okay

problem_answered : (method : Method) (problem : AnyProblem) (answer : Answer) → answer ≡ answer_to_problem method problem → answer.status ≢ Okay
problem_answered method problem answer is okay =
    problem_not_okay problem (sym (told_status method problem) ∙ okay_too answer (answer_to_problem method problem) is okay)

refusal_answered : (method : Method) (refusal : Refusal) (answer : Answer) → IsAnswerTo method refusal answer → answer.status ≢ Okay
refusal_answered method (NotAllowed its) answer is okay = let same = okay_too answer (bare_answer MethodNotAllowed (Some its)) is okay in absurd (cc)
refusal_answered method (Problem problem) answer is okay = problem_answered method problem answer is okay
refusal_answered method NoMemory answer none okay = none

-- ---- what was answered with 200 was done

step_done : (config : Config) (e : Exchange) → e.answer.status ≡ Okay → Step config e.before e.moment e.request e.answer e.after → WasDone config e
step_done config e okay step = elim step.outcome [
  | inl lost ↦ absurd (problem_answered e.request.method NotFound e.answer lost.1 okay)
  | inr found ↦ either found.0 found.1 found.2
]
  where
    either : (route : Route) → IsRoutePath step.path route → RouteStep config e.before e.moment e.request route (unwrap_or step.query []) e.answer e.after → WasDone config e
    either route route_is (inl refused) = absurd (refusal_answered e.request.method refused.0 e.answer refused.2 okay)
    either route route_is (inr done) =
        record { path = step.path; text = step.query; target_is = step.target_is; route = route; route_is = route_is; done = done }

course_done : (config : Config) (e : Exchange) → e.answer.status ≡ Okay → (course : Course) → RunsExchange course config e → WasDone config e
course_done config e okay Stepped step = step_done config e okay step
course_done config e okay KeeperFailed fails = absurd (problem_answered e.request.method StoreFault e.answer fails.answer_is okay)
course_done config e okay OutOfMemory wants = let same = okay_too e.answer no_memory_answer wants.0 okay in absurd (cc)

pub was_done : (config : Config) (e : Exchange) → IsExchange config e → e.answer.status ≡ Okay → WasDone config e
was_done config e goes okay = course_done config e okay e.course goes

-- ---- a GET of objects

-- the laws of lower floors: a target has one path and one query, a path one route, pairs ask for one query, a text names one identifier
pub record Laws : Type 0 where
  pub path : (target first second : List ℕ) (query other : Option (List ℕ)) → IsTargetOf target first query → IsTargetOf target second other → first ≡ second
  pub text : (target first second : List ℕ) (query other : Option (List ℕ)) → IsTargetOf target first query → IsTargetOf target second other → query ≡ other
  pub route : (path : List ℕ) (first second : Route) → IsRoutePath path first → IsRoutePath path second → first ≡ second
  pub query : (pairs : List Pair) (first second : Query) → IsQueryOf pairs first → IsQueryOf pairs second → first ≡ second
  pub identifier : (text : List ℕ) (first second : Id) → IsTextOfId text first → IsTextOfId text second → first ≡ second

-- it is a page of the same collection, object and query
page_of_same : (rows : List StoredRow) (answer : Answer) (collection other : ℕ) (only one : Option Id) (query asked : Query)
    → collection ≡ other → only ≡ one → query ≡ asked → IsPageOf rows collection only query IsEnvelope answer → IsPageOf rows other one asked IsEnvelope answer
page_of_same rows answer collection other only one query asked collection_is only_is query_is its =
    subst (λ (n : ℕ). IsPageOf rows n one asked IsEnvelope answer) collection_is
    (subst (λ (o : Option Id). IsPageOf rows collection o asked IsEnvelope answer) only_is
    (subst (λ (q : Query). IsPageOf rows collection only q IsEnvelope answer) query_is its))

-- a text names one collection
one_collection : (text : List ℕ) (infos : List CollectionInfo) (first second : CollectionInfo) → NamesCollection text infos first → NamesCollection text infos second → first.id ≡ second.id
one_collection text infos first second names also =
    let same : Some first ≡ Some second = sym names ∙ also in let info : first ≡ second = cc in ap (λ (i : CollectionInfo). i.id) info

-- a GET of what is asked for reads a page of the collection
all_read : (config : Config) (before : State) (route : Route) (resource : Resource) (parsed : Query) (collection : ℕ) (only : Option Id) (query : Query) (answer : Answer)
    → AsksForAll config route parsed collection only query → IsResource config.collections before route resource → IsGetAnswer config before resource parsed answer
    → IsPageOf before.library.rows collection only query IsEnvelope answer
all_read config before route resource parsed collection only query answer (id, info, route_is, names, collection_is, only_is, query_is) found reading =
    let its : IsResource config.collections before (found_at.Objects id) resource =
    subst (λ (r : Route). IsResource config.collections before r resource) route_is found in
    let page : IsGetAnswer config before (Objects its.0) parsed answer =
    subst (λ (r : Resource). IsGetAnswer config before r parsed answer) its.2 reading in
    let same : its.0.id ≡ info.id = one_collection id config.collections its.0 info its.1 names in
    page_of_same before.library.rows answer its.0.id collection None only parsed query (same ∙ sym collection_is) (sym only_is) (sym query_is) page

-- or of the one object
one_read : Laws → (config : Config) (before : State) (route : Route) (resource : Resource) (parsed : Query) (collection : ℕ) (only : Option Id) (query : Query) (answer : Answer)
    → AsksForOne config route parsed collection only query → IsResource config.collections before route resource → IsGetAnswer config before resource parsed answer
    → IsPageOf before.library.rows collection only query IsEnvelope answer
one_read laws config before route resource parsed collection only query answer (name, text, info, id, route_is, names, text_of, collection_is, only_is, query_is) found reading =
    let its : IsResource config.collections before (found_at.Object name text) resource =
    subst (λ (r : Route). IsResource config.collections before r resource) route_is found in
    let page : IsGetAnswer config before (Object its.0 its.1) parsed answer =
    subst (λ (r : Resource). IsGetAnswer config before r parsed answer) its.4 reading in
    let same : its.0.id ≡ info.id = one_collection name config.collections its.0 info its.2 names in
    let id_same : Some its.1 ≡ Some id = ap (λ (i : Id). Some i) (laws.identifier text its.1 id its.3.text_of text_of) in
    page_of_same before.library.rows answer its.0.id collection (Some its.1) only (object_query parsed) query (same ∙ sym collection_is) (id_same ∙ sym only_is) (sym query_is) page

-- or of either
read : Laws → (config : Config) (before : State) (route : Route) (resource : Resource) (parsed : Query) (collection : ℕ) (only : Option Id) (query : Query) (answer : Answer)
    → AsksForAll config route parsed collection only query ⊎ AsksForOne config route parsed collection only query
    → IsResource config.collections before route resource → IsGetAnswer config before resource parsed answer
    → IsPageOf before.library.rows collection only query IsEnvelope answer
read laws config before route resource parsed collection only query answer (inl asks) = all_read config before route resource parsed collection only query answer asks
read laws config before route resource parsed collection only query answer (inr asks) = one_read laws config before route resource parsed collection only query answer asks

-- a GET reads the resource
pub get_reads : (resource : Resource) (operation : Operation) → IsOperation Get resource operation → operation ≡ Read resource
get_reads resource (Read its) is = ap (λ (r : Resource). Read r) is.1
get_reads resource (Add info) is = absurd (let wrong = is.0 in cc wrong)
get_reads resource (Remove info id) is = absurd (let wrong = is.0 in cc wrong)

-- the path, the route and the query that it was done by are those that the request asks by
pub paged : Laws → (config : Config) (e : Exchange) (collection : ℕ) (only : Option Id) (query : Query) → IsExchange config e → e.answer.status ≡ Okay
    → Asks config e.request collection only query → IsPageOf e.before.library.rows collection only query IsEnvelope e.answer
paged laws config e collection only query goes okay asks =
    read laws config e.before asks.route was.done.resource asks.parsed collection only query e.answer asks.asks found reading
  where
    was : WasDone config e
    was = was_done config e goes okay

    path_is : was.path ≡ asks.path
    path_is = laws.path e.request.target was.path asks.path was.text asks.text was.target_is asks.target_is

    text_is : was.text ≡ asks.text
    text_is = laws.text e.request.target was.path asks.path was.text asks.text was.target_is asks.target_is

    route_is : was.route ≡ asks.route
    route_is = laws.route asks.path was.route asks.route (subst (λ (path : List ℕ). IsRoutePath path was.route) path_is was.route_is) asks.route_is

    query_is : was.done.query ≡ asks.parsed
    query_is = laws.query (pairs_of (unwrap_or asks.text [])) was.done.query asks.parsed
        (subst (λ (text : Option (List ℕ)). IsQueryOf (pairs_of (unwrap_or text [])) was.done.query) text_is was.done.query_is) asks.query_is

    found : IsResource config.collections e.before asks.route was.done.resource
    found = subst (λ (route : Route). IsResource config.collections e.before route was.done.resource) route_is was.done.found

    operation_is : was.done.operation ≡ Read was.done.resource
    operation_is = get_reads was.done.resource was.done.operation
        (subst (λ (method : Method). IsOperation method was.done.resource was.done.operation) asks.get was.done.operation_is)

    does : Does config e.before e.moment e.request.body was.done.query (Read was.done.resource) e.answer e.after
    does = subst (λ (operation : Operation). Does config e.before e.moment e.request.body was.done.query operation e.answer e.after) operation_is was.done.does

    reading : IsGetAnswer config e.before was.done.resource asks.parsed e.answer
    reading = subst (λ (q : Query). IsGetAnswer config e.before was.done.resource q e.answer) query_is does.0
