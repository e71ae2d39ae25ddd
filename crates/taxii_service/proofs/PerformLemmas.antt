-- What requests do, in the words of one step.
use Rattle.std.proofs.Common.{◌≡◌, ◌≢◌, ◌⊎◌, inl, inr, ℕ, List, [], ◌∷◌, ◌++◌, length, not, All, Bool, true, false, None, Result, Ok, Err, refl, sym, ap, subst, ◌∙◌, arith}
use Rattle.std.specs.Prelude.{IfOk, IfErr, IsOk, IsOkAnd, ◌||◌}
use Rattle.std.specs.List.{Contains}
use Rattle.std.proofs.lemmas.Bool.{eq-eqb}
use Rattle.std.proofs.lemmas.List.{length-append}
use Rattle.std.proofs.lemmas.List.Elements.{All-contains, filter_passes}
use Rattle.flow_edges.specs.Faults.{Counted}
use Rattle.stix_ids.specs.declared.id.Id.{Id}
use Rattle.http_messages.specs.declared.request.Request.{Request}
use Rattle.taxii_routes.specs.declared.query.Query.{Query}
use Rattle.taxii_routes.specs.declared.route.Route.{Route}
use Rattle.taxii_routes.specs.Query.{pairs_of, IsQueryOf}
use Rattle.taxii_exchange.specs.Checking.{IsFit}
use Rattle.taxii_rows.specs.declared.stored_row.StoredRow.{StoredRow}
use Rattle.taxii_rows.specs.StoreState.{StoreState}
use Rattle.taxii_rows.specs.Keeper.{is_date_in, without}
use Rattle.http_messages.specs.declared.status.Status.TheVariants.{Okay, Accepted, InternalServerError}
use Rattle.taxii_bodies.specs.declared.problem.Problem.{Problem as Trouble}
use Rattle.taxii_bodies.specs.declared.problem.Problem.TheVariants.{BadValue, Repeated, Forbidden, NotFound, NotAcceptable, UnsupportedMediaType, NotJson, NotList, StoreFault, DatesUsedUp}
use Rattle.taxii_exchange.specs.declared.answer.Answer.{Answer}
use Rattle.taxii_exchange.specs.AnswersToRequests.{problem_status, body_answer, bare_answer}
use Rattle.taxii_exchange.specs.declared.refusal.Refusal.{Refusal}
use Rattle.taxii_exchange.specs.declared.refusal.Refusal.TheVariants.{NotAllowed, Problem, NoMemory}
use Rattle.http_messages.specs.declared.method.Method.{Method}
use Rattle.taxii_exchange.proofs.AnswersToRequestsLemmas.{told_status}
use Rattle.taxii_bodies.specs.declared.collections.CollectionInfo.{CollectionInfo}
use Rattle.taxii_exchange.specs.declared.config.Config.{Config}
use Rattle.taxii_service.specs.declared.state.State.{State}
use Rattle.taxii_service.specs.Adding.{IsAdding, CannotAdd, with_added}
use Rattle.taxii_service.specs.Deleting.{AreDeleted, without_dates}
use Rattle.taxii_service.specs.Operation.{Operation, Add, Remove, IsOperation, AddsBody, RemovesObject, Does, CannotDo}
use Rattle.taxii_service.specs.Resource.{Resource, allowed, rights_to}
use Rattle.taxii_service.specs.Finding.{IsResource}
use Rattle.taxii_service.specs.inner.Performing.{MethodChanges, RouteChanges}
use Rattle.taxii_service.specs.Step.{IsUndone, IsRefusedResource, IsDone, IsAnswerTo}

pub if_err : {T E : Type 0} (answer : Result T E) (P Q : E → Type 0) → ((refusal : E) → P refusal → Q refusal) → IfErr answer P → IfErr answer Q
if_err (Ok value) P Q to its = tt
if_err (Err refusal) P Q to its = to refusal its

-- rows with others after them aren't the same
pub rows_grow : (rows new : List StoredRow) → new ≢ [] → rows ++ new ≢ rows
rows_grow rows [] some same = some refl
rows_grow rows (row ∷ new) some same =
    let count = length-append rows (row ∷ new) in let both = ap length same in absurd (omega (arith, count, both))

-- ---- rows without some are others

first_in : (date : ℕ) (dates : List ℕ) → Contains (date ∷ dates) date
first_in date dates = (0, omega arith, refl)

is_in : (date : ℕ) (dates : List ℕ) → is_date_in (date ∷ dates) date ≡ true
is_in date dates = ap (λ (b : Bool). b || is_date_in dates date) (eq-eqb date date refl)

pub rows_go : (store : StoreState) (collection : ℕ) (id : Id) (query : Query) (dates : List ℕ) → AreDeleted store collection id query dates
    → dates ≢ [] → (without dates store).rows ≢ store.rows
rows_go store collection id query [] deleted some same = some refl
rows_go store collection id query (date ∷ dates) deleted some same = some (deleted.none (λ allows.
    let (row, there, taken, its) = ((deleted.taken allows).each date).0 (first_in date dates) in
    let stays = λ (one : StoredRow). not (is_date_in (date ∷ dates) one.date) in
    let passes = All-contains (λ one. stays one ≡ true) store.rows row (subst (All (λ one. stays one ≡ true)) same (filter_passes stays store.rows)) there in
    let gone : stays row ≡ false = ap (λ (d : ℕ). not (is_date_in (date ∷ dates) d)) its ∙ ap not (is_in date dates) in
    let clash : true ≡ false = sym passes ∙ gone in absurd (cc clash)))

-- ---- operations

-- an addition is what `Add` does
pub adds_body : (config : Config) (before after : State) (moment : ℕ) (body : List ℕ) (query : Query) (info : CollectionInfo) (operation : Operation) (answer : Answer) → operation ≡ Add info
    → ((new : List StoredRow) × (text : List ℕ) × IsAdding before info.id moment body new text × (answer ≡ body_answer Accepted text) × (after ≡ with_added new text before))
    → Does config before moment body query operation answer after
adds_body config before after moment body query info operation answer is its =
    let adds : AddsBody before moment body info.id answer after = record { new = its.0; text = its.1; adding = its.2; answer_is = its.3; after_is = its.4 } in
    subst (λ (o : Operation). Does config before moment body query o answer after) (sym is) adds

-- why an addition failed, said of the operation
abbrev pub IsWhyNot : Config → State → ℕ → List ℕ → Query → Operation → Refusal → Type 0
IsWhyNot config before moment body query operation refusal = (refusal ≡ NoMemory)
    ⊎ (CannotDo before moment body operation refusal
    ⊎ ((refusal ≡ Problem StoreFault) × MethodChanges config before moment body query operation))

pub add_failed : (config : Config) (before : State) (moment : ℕ) (body : List ℕ) (query : Query) (info : CollectionInfo) (operation : Operation) (refusal : Refusal) → operation ≡ Add info
    → ((refusal ≡ NoMemory) ⊎ (CannotAdd before info.id moment body refusal
    ⊎ ((refusal ≡ Problem StoreFault) × ((new : List StoredRow) × (text : List ℕ) × (new ≢ []) × IsAdding before info.id moment body new text))))
    → IsWhyNot config before moment body query operation refusal
add_failed config before moment body query info operation refusal is (inl none) = inl none
add_failed config before moment body query info operation refusal is (inr (inl cannot)) = inr (inl (info, is, cannot))
add_failed config before moment body query info operation refusal is (inr (inr (fault, (new, text, some, adding)))) =
    let answer = body_answer Accepted text in
    let after = with_added new text before in
    inr (inr (fault, (answer, after, adds_body config before after moment body query info operation answer is (new, text, adding, refl, refl), rows_grow before.library.rows new some)))

pub additions_fail : (config : Config) (before : State) (moment : ℕ) (body : List ℕ) (query : Query) (info : CollectionInfo) (operation : Operation) (result : Result Answer Refusal) → operation ≡ Add info
    → IfErr result (λ refusal. (refusal ≡ NoMemory) ⊎ (CannotAdd before info.id moment body refusal
    ⊎ ((refusal ≡ Problem StoreFault) × ((new : List StoredRow) × (text : List ℕ) × (new ≢ []) × IsAdding before info.id moment body new text))))
    → IfErr result (IsWhyNot config before moment body query operation)
additions_fail config before moment body query info operation (Ok answer) is its = tt
additions_fail config before moment body query info operation (Err refusal) is its = add_failed config before moment body query info operation refusal is its

pub additions_do : (config : Config) (before after : State) (moment : ℕ) (body : List ℕ) (query : Query) (info : CollectionInfo) (operation : Operation) (result : Result Answer Refusal) → operation ≡ Add info
    → IfOk result (λ answer. (new : List StoredRow) × (text : List ℕ) × IsAdding before info.id moment body new text × (answer ≡ body_answer Accepted text) × (after ≡ with_added new text before))
    → IfOk result (λ answer. Does config before moment body query operation answer after)
additions_do config before after moment body query info operation (Ok answer) is its = adds_body config before after moment body query info operation answer is its
additions_do config before after moment body query info operation (Err refusal) is its = tt

-- a deletion is what `Remove` does
pub removes_object : (config : Config) (before after : State) (moment : ℕ) (body : List ℕ) (query : Query) (info : CollectionInfo) (id : Id) (operation : Operation) (answer : Answer)
    → operation ≡ Remove info id
    → ((dates : List ℕ) × AreDeleted before.library info.id id query dates × (answer ≡ bare_answer Okay None) × (after ≡ without_dates dates before))
    → Does config before moment body query operation answer after
removes_object config before after moment body query info id operation answer is its =
    let removes : RemovesObject before info.id id query answer after = record { dates = its.0; deleted = its.1; answer_is = its.2; after_is = its.3 } in
    subst (λ (o : Operation). Does config before moment body query o answer after) (sym is) removes

pub remove_failed : (config : Config) (before : State) (moment : ℕ) (body : List ℕ) (query : Query) (info : CollectionInfo) (id : Id) (operation : Operation) (refusal : Refusal)
    → operation ≡ Remove info id
    → ((refusal ≡ NoMemory)
    ⊎ ((refusal ≡ Problem StoreFault) × ((dates : List ℕ) × (dates ≢ []) × AreDeleted before.library info.id id query dates)))
    → IsWhyNot config before moment body query operation refusal
remove_failed config before moment body query info id operation refusal is (inl none) = inl none
remove_failed config before moment body query info id operation refusal is (inr (fault, (dates, some, deleted))) =
    let answer = bare_answer Okay None in
    let after = without_dates dates before in
    inr (inr (fault, (answer, after, removes_object config before after moment body query info id operation answer is (dates, deleted, refl, refl), rows_go before.library info.id id query dates deleted some)))

pub removals_fail : (config : Config) (before : State) (moment : ℕ) (body : List ℕ) (query : Query) (info : CollectionInfo) (told id : Id) (operation : Operation) (result : Result Answer Refusal)
    → told ≡ id → operation ≡ Remove info id
    → IfErr result (λ refusal. (refusal ≡ NoMemory)
    ⊎ ((refusal ≡ Problem StoreFault) × ((dates : List ℕ) × (dates ≢ []) × AreDeleted before.library info.id told query dates)))
    → IfErr result (IsWhyNot config before moment body query operation)
removals_fail config before moment body query info told id operation (Ok answer) same is its = tt
removals_fail config before moment body query info told id operation (Err refusal) same is its =
    remove_failed config before moment body query info id operation refusal is
    (subst (λ (i : Id). (refusal ≡ NoMemory)
    ⊎ ((refusal ≡ Problem StoreFault) × ((dates : List ℕ) × (dates ≢ []) × AreDeleted before.library info.id i query dates))) same its)

-- ---- the request

-- why a request that passed all checks failed
pub request_fails : (config : Config) (before : State) (moment : ℕ) (request : Request) (route : Route) (text : List ℕ) (query : Query) (resource : Resource) (operation : Operation)
    (result : Result Answer Refusal) → IsResource config.collections before route resource → IsFit (allowed resource) (rights_to resource) request → IsQueryOf (pairs_of text) query
    → IsOperation request.method resource operation → IfErr result (IsWhyNot config before moment request.body query operation)
    → IfErr result (λ refusal. (refusal ≡ NoMemory) ⊎ (IsRefusedResource config before moment request route text refusal
    ⊎ ((refusal ≡ Problem StoreFault) × RouteChanges config before moment request route text)))
request_fails config before moment request route text query resource operation (Ok answer) found fit asks is its = tt
request_fails config before moment request route text query resource operation (Err refusal) found fit asks is (inl none) = inl none
request_fails config before moment request route text query resource operation (Err refusal) found fit asks is (inr (inl cannot)) =
    let undone : IsUndone before moment request resource text refusal =
    record { query = query; operation = operation; fit = fit; query_is = asks; operation_is = is; cannot = cannot } in
    inr (inl (inr (resource, found, inr undone)))
request_fails config before moment request route text query resource operation (Err refusal) found fit asks is (inr (inr (fault, (answer, after, does, rows)))) =
    let done : IsDone config before moment request route text answer after =
    record { resource = resource; operation = operation; query = query; found = found; fit = fit; query_is = asks; operation_is = is; does = does } in
    inr (inr (fault, (answer, after, done, rows)))

-- ---- answers

pub if_ok : {T E : Type 0} (answer : Result T E) (P Q : T → Type 0) → ((value : T) → P value → Q value) → IfOk answer P → IfOk answer Q
if_ok (Ok value) P Q to its = to value its
if_ok (Err refusal) P Q to its = tt

-- only a fault of the store is answered as an error of the server
pub is_fault : (problem : Trouble) → problem_status problem ≡ InternalServerError → problem ≡ StoreFault
is_fault (BadValue param) is = absurd (cc)
is_fault (Repeated param) is = absurd (cc)
is_fault Forbidden is = absurd (cc)
is_fault NotFound is = absurd (cc)
is_fault NotAcceptable is = absurd (cc)
is_fault UnsupportedMediaType is = absurd (cc)
is_fault NotJson is = absurd (cc)
is_fault NotList is = absurd (cc)
is_fault StoreFault is = refl
is_fault DatesUsedUp is = absurd (cc)

fault_answered : (method : Method) (refusal : Refusal) (answer : Answer) → IsAnswerTo method refusal answer → answer.status ≡ InternalServerError → refusal ≡ Problem StoreFault
fault_answered method (NotAllowed its) answer is failed = absurd (let e = sym (ap (λ (one : Answer). one.status) is) ∙ failed in cc e)
fault_answered method (Problem problem) answer is failed =
    ap Problem (is_fault problem (sym (told_status method problem) ∙ sym (ap (λ (one : Answer). one.status) is) ∙ failed))
fault_answered method NoMemory answer is failed = absurd is

other_answered : (method : Method) (refusal : Refusal) (answer : Answer) → IsAnswerTo method refusal answer → answer.status ≢ InternalServerError → refusal ≢ Problem StoreFault
other_answered method refusal answer is other fault =
    let told = subst (λ (one : Refusal). IsAnswerTo method one answer) fault is in other (ap (λ (one : Answer). one.status) told ∙ told_status method StoreFault)

-- the keeper's count where a refusal was answered: a fault of the store has an answer, which is an error of the server
pub refusal_counted : {E : Type 0} (method : Method) (refusal : Refusal) (answer : Result Answer E) (before now : ℕ) → IfOk answer (IsAnswerTo method refusal)
    → (refusal ≡ Problem StoreFault → IsOk answer) → Counted (◌≡◌ {A = Result Answer Refusal} (Err refusal) (Err (Problem StoreFault))) before now
    → Counted (IsOkAnd answer (λ one. one.status ≡ InternalServerError)) before now
refusal_counted method refusal (Ok answer) before now its there counted = record {
  later = counted.later;
  failed = λ failed. counted.failed (ap Err (fault_answered method refusal answer its failed));
  quiet = λ other. counted.quiet (λ same. other_answered method refusal answer its other (let is : refusal ≡ Problem StoreFault = cc same in is));
}
refusal_counted method refusal (Err error) before now its there counted = record {
  later = counted.later;
  failed = λ failed. absurd failed;
  quiet = λ other. counted.quiet (λ same. let is : refusal ≡ Problem StoreFault = cc same in absurd (cc (there is)));
}
