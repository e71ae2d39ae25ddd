-- What a request that passed all checks does with its resource (TAXII 2.1, sections 4 and 5).
use Rattle.std.specs.Prelude.{◌≡◌, ℕ, List, None}
use Rattle.stix_ids.specs.declared.id.Id.{Id}
use Rattle.http_messages.specs.declared.method.Method.{Method}
use Rattle.http_messages.specs.declared.method.Method.TheVariants.{Get, Post, Delete}
use Rattle.http_messages.specs.declared.status.Status.TheVariants.{Okay, Accepted}
use Rattle.taxii_exchange.specs.declared.answer.Answer.{Answer}
use Rattle.taxii_exchange.specs.declared.config.Config.{Config}
use Rattle.taxii_exchange.specs.declared.refusal.Refusal.{Refusal}
use Rattle.taxii_exchange.specs.AnswersToRequests.{body_answer, bare_answer}
use Rattle.taxii_routes.specs.declared.query.Query.{Query}
use Rattle.taxii_rows.specs.declared.stored_row.StoredRow.{StoredRow}
use Rattle.taxii_bodies.specs.declared.collections.CollectionInfo.{CollectionInfo}
use Rattle.taxii_service.specs.declared.state.State.{State}
use Rattle.taxii_service.specs.Resource.{Resource, Objects, Object}
use Rattle.taxii_service.specs.Reading.{IsGetAnswer}
use Rattle.taxii_service.specs.Adding.{IsAdding, CannotAdd, with_added}
use Rattle.taxii_service.specs.Deleting.{AreDeleted, without_dates}

-- a GET reads a resource, a POST adds objects to a collection, a DELETE removes an object from it
pub data Operation : Type 0 where
  Read : Resource → Operation
  Add : CollectionInfo → Operation
  Remove : CollectionInfo → Id → Operation

-- what a method does with a resource
abbrev pub IsOperation : Method → Resource → Operation → Type 0
IsOperation method resource (Read its) = (method ≡ Get) × (its ≡ resource)
IsOperation method resource (Add info) = (method ≡ Post) × (resource ≡ Objects info)
IsOperation method resource (Remove info id) = (method ≡ Delete) × (resource ≡ Object info id)

-- the objects of a body are added to a collection
pub record AddsBody (before : State) (moment : ℕ) (body : List ℕ) (collection : ℕ) (answer : Answer) (after : State) : Type 0 where
  pub new : List StoredRow
  pub text : List ℕ
  pub adding : IsAdding before collection moment body new text
  pub answer_is : answer ≡ body_answer Accepted text
  pub after_is : after ≡ with_added new text before

-- the rows of an object that the query selects are removed from a collection
pub record RemovesObject (before : State) (collection : ℕ) (id : Id) (query : Query) (answer : Answer) (after : State) : Type 0 where
  pub dates : List ℕ
  pub deleted : AreDeleted before.library collection id query dates
  pub answer_is : answer ≡ bare_answer Okay None
  pub after_is : after ≡ without_dates dates before

-- the effect of an operation
abbrev pub Does : Config → State → ℕ → List ℕ → Query → Operation → Answer → State → Type 0
Does config before moment body query (Read resource) answer after =
    IsGetAnswer config before resource query answer × (after ≡ before)
Does config before moment body query (Add info) answer after =
    AddsBody before moment body info.id answer after
Does config before moment body query (Remove info id) answer after =
    RemovesObject before info.id id query answer after

-- why an operation cannot be performed: only an addition can be refused now
abbrev pub CannotDo : State → ℕ → List ℕ → Operation → Refusal → Type 0
CannotDo before moment body operation refusal =
    (info : CollectionInfo) × (operation ≡ Add info) × CannotAdd before info.id moment body refusal
