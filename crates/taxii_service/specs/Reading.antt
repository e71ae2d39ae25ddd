-- What a GET of a resource answers (TAXII 2.1, sections 4 and 5), after what is asked of every
-- request.
use Rattle.std.specs.Prelude.{◌≡◌, ℕ, List, [], ◌∷◌, Bool, Option, Some, None}
use Rattle.serde_json.specs.Written.{compact_text}
use Rattle.stix_ids.specs.declared.id.Id.{Id}
use Rattle.stix_ids.specs.declared.pick.Pick.TheVariants.{All}
use Rattle.http_messages.specs.declared.status.Status.TheVariants.{Okay}
use Rattle.taxii_exchange.specs.declared.answer.Answer.{Answer}
use Rattle.taxii_routes.specs.declared.query.Query.{Query}
use Rattle.taxii_rows.specs.declared.stored_row.StoredRow.{StoredRow}
use Rattle.taxii_store.specs.Page.{IsPage}
use Rattle.taxii_bodies.specs.Discovery.{discovery_data, root_data}
use Rattle.taxii_bodies.specs.Collections.{collection_data, collections_data}
use Rattle.taxii_bodies.specs.Envelope.{envelope_text}
use Rattle.taxii_bodies.specs.Manifest.{IsManifest}
use Rattle.taxii_bodies.specs.Versions.{AreVersions}
use Rattle.taxii_exchange.specs.Statuses.{kept_status_body}
use Rattle.taxii_service.specs.declared.state.State.{State}
use Rattle.taxii_exchange.specs.declared.config.Config.{Config}
use Rattle.taxii_exchange.specs.AnswersToRequests.{body_answer, page_answer}
use Rattle.taxii_service.specs.Resource.{Resource, Discovery, Root, Status, Collections, Collection, Manifest, Objects, Object, Versions}

-- the answer has that body and no more
abbrev pub HasBody : List ℕ → Answer → Type 0
HasBody body answer = answer ≡ body_answer Okay body

-- the answer has a page of the query, and the body that the rule gives it
pub record IsPageOf (rows : List StoredRow) (collection : ℕ) (only : Option Id) (query : Query) (IsBody : List StoredRow → Bool → List ℕ → Type 0) (answer : Answer) : Type 0 where
  pub page : List StoredRow
  pub more : Bool
  pub body : List ℕ
  pub page_is : IsPage rows collection only query page more
  pub body_is : IsBody page more body
  pub answer_is : answer ≡ page_answer page body

-- the body of a page of objects
abbrev pub IsEnvelope : List StoredRow → Bool → List ℕ → Type 0
IsEnvelope page more body = body ≡ envelope_text page more

-- what is asked of the one object of a path: the query without its identifiers and types
abbrev pub object_query : Query → Query
object_query query = record {
  added_after = query.added_after;
  limit = query.limit;
  next = query.next;
  ids = None;
  kinds = None;
  picks = query.picks;
  specs = query.specs;
}

-- what is asked of its versions: all of them
abbrev pub versions_query : Query → Query
versions_query query = record {
  added_after = query.added_after;
  limit = query.limit;
  next = query.next;
  ids = None;
  kinds = None;
  picks = Some (All ∷ []);
  specs = query.specs;
}

-- the answer to a GET of a resource, whose query asks for this
abbrev pub IsGetAnswer : Config → State → Resource → Query → Answer → Type 0
IsGetAnswer config state Discovery query answer = HasBody (compact_text (discovery_data config.base)) answer
IsGetAnswer config state Root query answer = HasBody (compact_text root_data) answer
IsGetAnswer config state (Status id) query answer =
    (body : List ℕ) × (kept_status_body id state.statuses ≡ Some body) × HasBody body answer
IsGetAnswer config state Collections query answer = HasBody (compact_text (collections_data config.collections)) answer
IsGetAnswer config state (Collection info) query answer = HasBody (compact_text (collection_data info)) answer
IsGetAnswer config state (Manifest info) query answer =
    IsPageOf state.library.rows info.id None query IsManifest answer
IsGetAnswer config state (Objects info) query answer =
    IsPageOf state.library.rows info.id None query IsEnvelope answer
IsGetAnswer config state (Object info id) query answer =
    IsPageOf state.library.rows info.id (Some id) (object_query query) IsEnvelope answer
IsGetAnswer config state (Versions info id) query answer =
    IsPageOf state.library.rows info.id (Some id) (versions_query query) AreVersions answer
