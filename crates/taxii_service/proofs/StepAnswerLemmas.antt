-- What every answer of a step is: a status with a body, a status alone, or a page of the store's rows; and never a fault of the keeper.
use Rattle.std.proofs.Common.{◌≡◌, ◌≢◌, ◌∙◌, inl, inr, ℕ, List, Option, ap, sym, subst}
use Rattle.std.specs.Prelude.{Bool}
use Rattle.stix_ids.specs.declared.id.Id.{Id}
use Rattle.http_messages.specs.declared.method.Method.{Method}
use Rattle.http_messages.specs.declared.request.Request.{Request}
use Rattle.http_messages.specs.declared.status.Status.{Status as Code}
use Rattle.http_messages.specs.declared.status.Status.TheVariants.{InternalServerError}
use Rattle.taxii_exchange.specs.declared.answer.Allow.{Allow}
use Rattle.taxii_exchange.specs.declared.answer.Answer.{Answer}
use Rattle.taxii_bodies.specs.declared.problem.Problem.{Problem as Trouble}
use Rattle.taxii_bodies.specs.declared.problem.Problem.TheVariants.{NotFound, StoreFault}
use Rattle.taxii_routes.specs.declared.query.Query.{Query}
use Rattle.taxii_routes.specs.declared.route.Route.{Route}
use Rattle.taxii_service.specs.Resource.{Resource, Discovery, Root, Status, Collections, Collection, Manifest, Objects, Object, Versions, allowed, rights_to}
use Rattle.taxii_service.specs.Operation.{Operation, Read, Add, Remove, Does}
use Rattle.taxii_rows.specs.declared.stored_row.StoredRow.{StoredRow}
use Rattle.taxii_store.specs.Page.{IsPage}
use Rattle.taxii_exchange.specs.declared.config.Config.{Config}
use Rattle.taxii_exchange.specs.declared.refusal.Refusal.{Refusal}
use Rattle.taxii_exchange.specs.declared.refusal.Refusal.TheVariants.{NotAllowed, Problem, NoMemory}
use Rattle.taxii_exchange.specs.declared.rights.Rights.{Rights}
use Rattle.taxii_exchange.specs.AnswersToRequests.{body_answer, bare_answer, answer_to_problem, page_answer, problem_status}
use Rattle.taxii_exchange.proofs.AnswersToRequestsLemmas.{told_status}
use Rattle.taxii_exchange.specs.Checking.{IsRefusedByCheck}
use Rattle.taxii_service.specs.Reading.{IsPageOf, IsGetAnswer}
use Rattle.taxii_service.specs.declared.state.State.{State}
use Rattle.taxii_service.specs.Posted.{IsUnreadableBody}
use Rattle.taxii_service.specs.Adding.{CannotAdd}
use Rattle.taxii_service.specs.Step.{IsRefusedResource, IsDone, IsAnswerTo, RouteStep, Step}

-- what holds of each form that an answer of a step has
pub record HoldsOfForms (rows : List StoredRow) (P : Answer → Type 0) : Type 0 where
  pub bodies : (status : Code) (body : List ℕ) → status ≢ InternalServerError → P (body_answer status body)
  pub bare : (status : Code) (its : Option Allow) → status ≢ InternalServerError → P (bare_answer status its)
  pub pages : (collection : ℕ) (only : Option Id) (query : Query) (page : List StoredRow) (more : Bool) (body : List ℕ)
      → IsPage rows collection only query page more → P (page_answer page body)

-- ---- what is done

body_holds : {rows : List StoredRow} (P : Answer → Type 0) → HoldsOfForms rows P → (status : Code) (body : List ℕ) (answer : Answer)
    → status ≢ InternalServerError → answer ≡ body_answer status body → P answer
body_holds P forms status body answer other is = subst P (sym is) (forms.bodies status body other)

page_holds : (P : Answer → Type 0) (rows : List StoredRow) → HoldsOfForms rows P → (collection : ℕ) (only : Option Id) (query : Query)
    (Rule : List StoredRow → Bool → List ℕ → Type 0) (answer : Answer) → IsPageOf rows collection only query Rule answer → P answer
page_holds P rows forms collection only query Rule answer its =
    subst P (sym its.answer_is) (forms.pages collection only query its.page its.more its.body its.page_is)

reading_holds : (P : Answer → Type 0) (config : Config) (before : State) → HoldsOfForms before.library.rows P → (resource : Resource) (query : Query) (answer : Answer)
    → IsGetAnswer config before resource query answer → P answer
reading_holds P config before forms Discovery query answer its = body_holds P forms _ _ answer (λ is. absurd (cc is)) its
reading_holds P config before forms Root query answer its = body_holds P forms _ _ answer (λ is. absurd (cc is)) its
reading_holds P config before forms (Status id) query answer its = body_holds P forms _ _ answer (λ is. absurd (cc is)) its.2
reading_holds P config before forms Collections query answer its = body_holds P forms _ _ answer (λ is. absurd (cc is)) its
reading_holds P config before forms (Collection info) query answer its = body_holds P forms _ _ answer (λ is. absurd (cc is)) its
reading_holds P config before forms (Manifest info) query answer its = page_holds P _ forms _ _ _ _ answer its
reading_holds P config before forms (Objects info) query answer its = page_holds P _ forms _ _ _ _ answer its
reading_holds P config before forms (Object info id) query answer its = page_holds P _ forms _ _ _ _ answer its
reading_holds P config before forms (Versions info id) query answer its = page_holds P _ forms _ _ _ _ answer its

does_holds : (P : Answer → Type 0) (config : Config) (before : State) → HoldsOfForms before.library.rows P → (moment : ℕ) (body : List ℕ) (query : Query) (operation : Operation) (answer : Answer) (after : State)
    → Does config before moment body query operation answer after → P answer
does_holds P config before forms moment body query (Read resource) answer after its = reading_holds P config before forms resource query answer its.0
does_holds P config before forms moment body query (Add info) answer after its = body_holds P forms _ _ answer (λ is. absurd (cc is)) its.answer_is
does_holds P config before forms moment body query (Remove info id) answer after its = subst P (sym its.answer_is) (forms.bare _ _ (λ is. absurd (cc is)))

pub done_holds : (P : Answer → Type 0) (config : Config) (before : State) → HoldsOfForms before.library.rows P → (moment : ℕ) (request : Request) (route : Route) (text : List ℕ) (answer : Answer) (after : State)
    → IsDone config before moment request route text answer after → P answer
done_holds P config before forms moment request route text answer after done =
    does_holds P config before forms moment request.body done.query done.operation answer after done.does

-- ---- what is refused

-- nothing stands against a request that is a fault of the keeper
abbrev IsOther : Refusal → Type 0
IsOther refusal = refusal ≢ Problem StoreFault

refused_other : (its : Allow) (rights : Rights) (request : Request) (text : List ℕ) (refusal : Refusal) → IsRefusedByCheck its rights request text refusal → IsOther refusal
refused_other its rights request text (Problem StoreFault) refused = absurd refused
refused_other its rights request text refusal refused = λ is. absurd (cc is)

unreadable_other : (body : List ℕ) (refusal : Refusal) → IsUnreadableBody body refusal → IsOther refusal
unreadable_other body refusal (inl its) is = let wrong = sym its.0 ∙ is in absurd (cc wrong)
unreadable_other body refusal (inr its) is = let wrong = sym its.0 ∙ is in absurd (cc wrong)

add_other : (before : State) (collection moment : ℕ) (body : List ℕ) (refusal : Refusal) → CannotAdd before collection moment body refusal → IsOther refusal
add_other before collection moment body refusal (inl its) = unreadable_other body refusal its
add_other before collection moment body refusal (inr its) = λ is. let wrong = sym its.0 ∙ is in absurd (cc wrong)

is_other : (config : Config) (before : State) (moment : ℕ) (request : Request) (route : Route) (text : List ℕ) (refusal : Refusal)
    → IsRefusedResource config before moment request route text refusal → IsOther refusal
is_other config before moment request route text refusal (inl nothing) = λ is. absurd (cc (is, nothing.1))
is_other config before moment request route text refusal (inr (resource, found, inl refused)) = refused_other (allowed resource) (rights_to resource) request text refusal refused
is_other config before moment request route text refusal (inr (resource, found, inr undone)) =
    let (info, operation_is, cannot) = undone.cannot in add_other before info.id moment request.body refusal cannot

-- ---- a step

abbrev IsNoFault : Answer → Type 0
IsNoFault answer = answer.status ≢ InternalServerError

no_fault : (rows : List StoredRow) → HoldsOfForms rows IsNoFault
no_fault rows = record {
  bodies = λ status body other. other;
  bare = λ status its other. other;
  pages = λ collection only query page more body its is. absurd (cc is);
}

problem_no_fault : (problem : Trouble) → Problem problem ≢ Problem StoreFault → problem_status problem ≢ InternalServerError
problem_no_fault StoreFault other = absurd (other (cc))
problem_no_fault problem other = λ is. absurd (cc is)

told_no_fault : (method : Method) (problem : Trouble) (answer : Answer) → answer ≡ answer_to_problem method problem → problem_status problem ≢ InternalServerError → IsNoFault answer
told_no_fault method problem answer is other failed = other (sym (told_status method problem) ∙ sym (ap (λ (one : Answer). one.status) is) ∙ failed)

answer_no_fault : (method : Method) (refusal : Refusal) (answer : Answer) → IsOther refusal → IsAnswerTo method refusal answer → IsNoFault answer
answer_no_fault method (NotAllowed its) answer other is = subst IsNoFault (sym is) (λ same. absurd (cc same))
answer_no_fault method (Problem problem) answer other is = told_no_fault method problem answer is (problem_no_fault problem other)
answer_no_fault method NoMemory answer other is = absurd is

pub route_step_no_fault : (config : Config) (before : State) (moment : ℕ) (request : Request) (route : Route) (text : List ℕ) (answer : Answer) (after : State)
    → RouteStep config before moment request route text answer after → IsNoFault answer
route_step_no_fault config before moment request route text answer after (inl (refusal, refused, is, same)) =
    answer_no_fault request.method refusal answer (is_other config before moment request route text refusal refused) is
route_step_no_fault config before moment request route text answer after (inr done) =
    done_holds IsNoFault config before (no_fault before.library.rows) moment request route text answer after done

-- no step tells of a fault of the keeper
pub step_no_fault : (config : Config) (before : State) (moment : ℕ) (request : Request) (answer : Answer) (after : State)
    → Step config before moment request answer after → IsNoFault answer
step_no_fault config before moment request answer after step = elim step.outcome [
  | inl nowhere ↦ told_no_fault request.method NotFound answer nowhere.1 (λ same. absurd (cc same))
  | inr somewhere ↦ route_step_no_fault config before moment request somewhere.0 _ answer after somewhere.2
]
