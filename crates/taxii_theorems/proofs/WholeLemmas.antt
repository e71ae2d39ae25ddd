-- A request has one step: one answer, and one state after it.
use Rattle.std.proofs.Common.{◌≡◌, ◌⊎◌, inl, inr, ℕ, List, [], ◌∷◌, Option, unwrap_or, refl, sym, subst, ◌∙◌}
use Rattle.std.proofs.lemmas.List.Elements.{All-nil, All-cons}
use Rattle.http_messages.specs.declared.request.Request.{Request}
use Rattle.taxii_exchange.specs.declared.answer.Answer.{Answer}
use Rattle.taxii_routes.specs.declared.query.Query.{Query}
use Rattle.taxii_routes.specs.declared.route.Route.{Route}
use Rattle.taxii_routes.specs.Query.{pairs_of}
use Rattle.taxii_exchange.specs.declared.config.Config.{Config}
use Rattle.taxii_exchange.specs.declared.refusal.Refusal.{Refusal}
use Rattle.taxii_bodies.specs.declared.collections.CollectionInfo.{CollectionInfo}
use Rattle.taxii_exchange.specs.Checking.{IsRefusedByCheck}
use Rattle.taxii_service.specs.Resource.{Resource, allowed, rights_to}
use Rattle.taxii_service.specs.Adding.{CannotAdd}
use Rattle.taxii_service.specs.Operation.{Operation, Read, Add, Remove, IsOperation, Does, CannotDo}
use Rattle.taxii_service.specs.declared.state.State.{State}
use Rattle.taxii_service.specs.Step.{IsUndone, IsRefusedResource, IsDone, IsAnswerTo, RouteStep, Step}
use Rattle.taxii_store.specs.History.{IsDated}
use Rattle.taxii_service.specs.Exchanges.{Exchange, Stepped, IsExchange, HasServed}
use Rattle.taxii_theorems.proofs.ResourceLemmas.{one_resource, one_operation}
use Rattle.taxii_theorems.proofs.ReadingLemmas.{one_reading}
use Rattle.taxii_theorems.proofs.RefusalLemmas.{one_refusal, not_refused}
use Rattle.taxii_theorems.proofs.EntryLemmas.{Laws as Entries}
use Rattle.taxii_theorems.proofs.ChangeLemmas.{IsOne, one_post, one_lack, posts_or_cannot, one_delete}
use Rattle.taxii_theorems.proofs.StepLemmas.{Laws, Outcome, one_answer_to}

-- ---- what is done

one_does : Laws → Entries → (config : Config) (before first second : State) (moment : ℕ) (body : List ℕ) (query : Query) (operation : Operation) (answer other : Answer)
    → IsDated second.library → Does config before moment body query operation answer first → Does config before moment body query operation other second
    → IsOne answer other first second
one_does laws entries config before first second moment body query (Read resource) answer other dated its also =
    (one_reading laws.readings config before resource query answer other its.0 also.0, its.1 ∙ sym also.1)
one_does laws entries config before first second moment body query (Add info) answer other dated its also =
    one_post entries before first second moment body info.id answer other dated its also
one_does laws entries config before first second moment body query (Remove info id) answer other dated its also =
    one_delete before first second info.id id query answer other its also

one_cannot : (before : State) (moment : ℕ) (body : List ℕ) (operation : Operation) (first second : Refusal)
    → CannotDo before moment body operation first → CannotDo before moment body operation second → first ≡ second
one_cannot before moment body operation first second (info, is, cannot) (other, also_is, cannot_too) =
    let adds : Add info ≡ Add other = sym is ∙ also_is in
    let same : info ≡ other = cc in
    one_lack before other.id moment body first second
    (subst (λ (i : CollectionInfo). CannotAdd before i.id moment body first) same cannot) cannot_too

does_or_cannot : Entries → (config : Config) (before after : State) (moment : ℕ) (body : List ℕ) (query : Query) (operation : Operation) (answer : Answer) (refusal : Refusal)
    → Does config before moment body query operation answer after → CannotDo before moment body operation refusal → ⊥
does_or_cannot entries config before after moment body query operation answer refusal does (info, is, cannot) =
    let adds : Does config before moment body query (Add info) answer after =
    subst (λ (o : Operation). Does config before moment body query o answer after) is does in
    posts_or_cannot entries before after moment body info.id answer refusal adds cannot

-- ---- what is refused

-- by a resource that is found
abbrev IsStored : State → ℕ → Request → Resource → List ℕ → Refusal → Type 0
IsStored before moment request resource text refusal = IsRefusedByCheck (allowed resource) (rights_to resource) request text refusal
    ⊎ IsUndone before moment request resource text refusal

one_undone : Laws → (before : State) (moment : ℕ) (request : Request) (resource : Resource) (text : List ℕ) (first second : Refusal)
    → IsUndone before moment request resource text first → IsUndone before moment request resource text second → first ≡ second
one_undone laws before moment request resource text first second its also =
    let same : its.operation ≡ also.operation = one_operation request.method resource its.operation also.operation its.operation_is also.operation_is in
    one_cannot before moment request.body also.operation first second
    (subst (λ (o : Operation). CannotDo before moment request.body o first) same its.cannot) also.cannot

one_stands : Laws → (before : State) (moment : ℕ) (request : Request) (resource : Resource) (text : List ℕ) (first second : Refusal)
    → IsStored before moment request resource text first → IsStored before moment request resource text second → first ≡ second
one_stands laws before moment request resource text first second (inl its) (inl also) =
    one_refusal laws.refusals (allowed resource) (rights_to resource) request text first second its also
one_stands laws before moment request resource text first second (inl its) (inr undone) =
    absurd (not_refused laws.refusals (allowed resource) (rights_to resource) request text undone.query first undone.fit undone.query_is its)
one_stands laws before moment request resource text first second (inr undone) (inl also) =
    absurd (not_refused laws.refusals (allowed resource) (rights_to resource) request text undone.query second undone.fit undone.query_is also)
one_stands laws before moment request resource text first second (inr its) (inr also) =
    one_undone laws before moment request resource text first second its also

one_refused : Laws → (config : Config) (before : State) (moment : ℕ) (request : Request) (route : Route) (text : List ℕ) (first second : Refusal)
    → IsRefusedResource config before moment request route text first → IsRefusedResource config before moment request route text second → first ≡ second
one_refused laws config before moment request route text first second (inl its) (inl also) = its.1 ∙ sym also.1
one_refused laws config before moment request route text first second (inl its) (inr (resource, found, stands)) = absurd (its.0 resource found)
one_refused laws config before moment request route text first second (inr (resource, found, stands)) (inl also) = absurd (also.0 resource found)
one_refused laws config before moment request route text first second (inr (resource, found, stands)) (inr (resource_too, found_too, stands_too)) =
    let same : resource ≡ resource_too = one_resource laws.readings.identifier config.collections before route resource resource_too found found_too in
    one_stands laws before moment request resource_too text first second
    (subst (λ (r : Resource). IsStored before moment request r text first) same stands) stands_too

undone_or_done : Entries → (config : Config) (before after : State) (moment : ℕ) (request : Request) (resource : Resource) (text : List ℕ) (query : Query) (operation : Operation) (answer : Answer)
    (refusal : Refusal) → IsOperation request.method resource operation → Does config before moment request.body query operation answer after
    → IsUndone before moment request resource text refusal → ⊥
undone_or_done entries config before after moment request resource text query operation answer refusal is does undone =
    let same : undone.operation ≡ operation = one_operation request.method resource undone.operation operation undone.operation_is is in
    does_or_cannot entries config before after moment request.body query operation answer refusal does
    (subst (λ (o : Operation). CannotDo before moment request.body o refusal) same undone.cannot)

refused_or_done : Laws → Entries → (config : Config) (before after : State) (moment : ℕ) (request : Request) (route : Route) (text : List ℕ) (answer : Answer) (refusal : Refusal)
    → IsDone config before moment request route text answer after → IsRefusedResource config before moment request route text refusal → ⊥
refused_or_done laws entries config before after moment request route text answer refusal done (inl none) = none.0 done.resource done.found
refused_or_done laws entries config before after moment request route text answer refusal done (inr (resource, found, stands)) =
    let same : resource ≡ done.resource = one_resource laws.readings.identifier config.collections before route resource done.resource found done.found in
    let here : IsStored before moment request done.resource text refusal = subst (λ (r : Resource). IsStored before moment request r text refusal) same stands in
    elim here [
      | inl its ↦ not_refused laws.refusals (allowed done.resource) (rights_to done.resource) request text done.query refusal done.fit done.query_is its
      | inr undone ↦ undone_or_done entries config before after moment request done.resource text done.query done.operation answer refusal done.operation_is done.does undone
    ]

-- ---- a step

one_route : Laws → Entries → (config : Config) (before first second : State) (moment : ℕ) (request : Request) (route : Route) (text : List ℕ) (answer other : Answer) → IsDated second.library
    → RouteStep config before moment request route text answer first → RouteStep config before moment request route text other second → IsOne answer other first second
one_route laws entries config before first second moment request route text answer other dated (inl (refusal, refused, told, same)) (inl (refusal_too, refused_too, told_too, same_too)) =
    let one : refusal ≡ refusal_too = one_refused laws config before moment request route text refusal refusal_too refused refused_too in
    (one_answer_to request.method refusal_too answer other (subst (λ (r : Refusal). IsAnswerTo request.method r answer) one told) told_too, same ∙ sym same_too)
one_route laws entries config before first second moment request route text answer other dated (inl (refusal, refused, told, same)) (inr done) =
    absurd (refused_or_done laws entries config before second moment request route text other refusal done refused)
one_route laws entries config before first second moment request route text answer other dated (inr done) (inl (refusal, refused, told, same)) =
    absurd (refused_or_done laws entries config before first moment request route text answer refusal done refused)
one_route laws entries config before first second moment request route text answer other dated (inr done) (inr also) =
    let query : done.query ≡ also.query = laws.query (pairs_of text) done.query also.query done.query_is also.query_is in
    let resource : done.resource ≡ also.resource = one_resource laws.readings.identifier config.collections before route done.resource also.resource done.found also.found in
    let operation : done.operation ≡ also.operation = one_operation request.method also.resource done.operation also.operation
    (subst (λ (r : Resource). IsOperation request.method r done.operation) resource done.operation_is) also.operation_is in
    one_does laws entries config before first second moment request.body also.query also.operation answer other dated
    (subst (λ (o : Operation). Does config before moment request.body also.query o answer first) operation
    (subst (λ (q : Query). Does config before moment request.body q done.operation answer first) query done.does)) also.does

one_outcome : Laws → Entries → (config : Config) (before first second : State) (moment : ℕ) (request : Request) (path text : List ℕ) (answer other : Answer) → IsDated second.library
    → Outcome config before moment request path text answer first → Outcome config before moment request path text other second → IsOne answer other first second
one_outcome laws entries config before first second moment request path text answer other dated (inl lost) (inl also) = (lost.1 ∙ sym also.1, lost.2 ∙ sym also.2)
one_outcome laws entries config before first second moment request path text answer other dated (inl lost) (inr (route, is, step)) = absurd (lost.0 route is)
one_outcome laws entries config before first second moment request path text answer other dated (inr (route, is, step)) (inl lost) = absurd (lost.0 route is)
one_outcome laws entries config before first second moment request path text answer other dated (inr (route, is, step)) (inr (route_too, is_too, step_too)) =
    let same : route ≡ route_too = laws.route path route route_too is is_too in
    one_route laws entries config before first second moment request route_too text answer other dated
    (subst (λ (r : Route). RouteStep config before moment request r text answer first) same step) step_too

pub one_whole : Laws → Entries → (config : Config) (before first second : State) (moment : ℕ) (request : Request) (answer other : Answer) → IsDated second.library
    → Step config before moment request answer first → Step config before moment request other second → IsOne answer other first second
one_whole laws entries config before first second moment request answer other dated one also =
    let path : one.path ≡ also.path = laws.path request.target one.path also.path one.query also.query one.target_is also.target_is in
    let query : one.query ≡ also.query = laws.text request.target one.path also.path one.query also.query one.target_is also.target_is in
    let moved : Outcome config before moment request also.path (unwrap_or also.query []) answer first =
    subst (λ (q : Option (List ℕ)). Outcome config before moment request also.path (unwrap_or q []) answer first) query
    (subst (λ (p : List ℕ). Outcome config before moment request p (unwrap_or one.query []) answer first) path one.outcome) in
    one_outcome laws entries config before first second moment request also.path (unwrap_or also.query []) answer other dated moved also.outcome

-- a step alone is what a server served
pub one_served : (config : Config) (before after : State) (moment : ℕ) (request : Request) (answer : Answer) → Step config before moment request answer after
    → (exchanges : List Exchange) × HasServed config before exchanges after
one_served config before after moment request answer step =
    let e : Exchange = record { before = before; moment = moment; request = request; course = Stepped; answer = answer; after = after } in
    (e ∷ [], record { each = All-cons (IsExchange config) e [] step (All-nil (IsExchange config)); follow = (refl, refl) })
