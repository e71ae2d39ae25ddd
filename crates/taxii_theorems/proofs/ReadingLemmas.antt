-- A GET of a resource has one answer.
use Rattle.std.proofs.Common.{◌≡◌, ℕ, List, Bool, Option, Some, None, sym, ap, subst, ◌∙◌}
use Rattle.stix_ids.specs.declared.id.Id.{Id}
use Rattle.stix_ids.specs.Identifier.{IsTextOfId}
use Rattle.http_messages.specs.declared.status.Status.TheVariants.{Okay}
use Rattle.taxii_exchange.specs.declared.answer.Answer.{Answer}
use Rattle.taxii_routes.specs.declared.query.Query.{Query}
use Rattle.taxii_rows.specs.declared.stored_row.StoredRow.{StoredRow}
use Rattle.taxii_store.specs.Page.{IsPage}
use Rattle.taxii_bodies.specs.Manifest.{IsManifest}
use Rattle.taxii_bodies.specs.Versions.{AreVersions}
use Rattle.taxii_exchange.specs.declared.config.Config.{Config}
use Rattle.taxii_exchange.specs.AnswersToRequests.{body_answer, page_answer}
use Rattle.taxii_service.specs.Resource.{Resource, Discovery, Root, Status, Collections, Collection, Manifest, Objects, Object, Versions}
use Rattle.taxii_service.specs.Reading.{IsPageOf, IsEnvelope, IsGetAnswer, object_query, versions_query}
use Rattle.taxii_service.specs.declared.state.State.{State}
use Rattle.taxii_theorems.proofs.BodyLemmas.{OneText, one_manifest, one_list_of_versions}

-- the laws of lower floors: a text names one identifier, an instant has one text of so many digits, and a query one page
pub record Laws : Type 0 where
  pub identifier : (text : List ℕ) (first second : Id) → IsTextOfId text first → IsTextOfId text second → first ≡ second
  pub text : OneText
  pub page : (rows : List StoredRow) (collection : ℕ) (only : Option Id) (query : Query) (first second : List StoredRow) (left more : Bool)
      → IsPage rows collection only query first left → IsPage rows collection only query second more → first ≡ second
  pub more : (rows : List StoredRow) (collection : ℕ) (only : Option Id) (query : Query) (first second : List StoredRow) (left more : Bool)
      → IsPage rows collection only query first left → IsPage rows collection only query second more → left ≡ more

-- two things that are one thing
both_are : {A : Type 0} (a b c : A) → a ≡ c → b ≡ c → a ≡ b
both_are a b c first second = first ∙ sym second

one_some : {A : Type 0} (found : Option A) (a b : A) → found ≡ Some a → found ≡ Some b → a ≡ b
one_some found a b first second = let same : Some a ≡ Some b = sym first ∙ second in cc

-- a rule of bodies by which a page has one
abbrev pub OneBody : (List StoredRow → Bool → List ℕ → Type 0) → Type 0
OneBody IsBody = (page : List StoredRow) (more : Bool) (first second : List ℕ) → IsBody page more first → IsBody page more second → first ≡ second

one_page : Laws → (IsBody : List StoredRow → Bool → List ℕ → Type 0) → OneBody IsBody → (rows : List StoredRow) (collection : ℕ) (only : Option Id) (query : Query) (answer other : Answer)
    → IsPageOf rows collection only query IsBody answer → IsPageOf rows collection only query IsBody other → answer ≡ other
one_page laws IsBody one rows collection only query answer other its also =
    let page : its.page ≡ also.page = laws.page rows collection only query its.page also.page its.more also.more its.page_is also.page_is in
    let more : its.more ≡ also.more = laws.more rows collection only query its.page also.page its.more also.more its.page_is also.page_is in
    let body : IsBody also.page also.more its.body =
    subst (λ (m : Bool). IsBody also.page m its.body) more (subst (λ (p : List StoredRow). IsBody p its.more its.body) page its.body_is) in
    its.answer_is
    ∙ ap (λ (p : List StoredRow). page_answer p its.body) page
    ∙ ap (page_answer also.page) (one also.page also.more its.body also.body body also.body_is)
    ∙ sym also.answer_is

one_envelope : OneBody IsEnvelope
one_envelope page more first second its also = its ∙ sym also

pub one_reading : Laws → (config : Config) (state : State) (resource : Resource) (query : Query) (answer other : Answer)
    → IsGetAnswer config state resource query answer → IsGetAnswer config state resource query other → answer ≡ other
one_reading laws config state Discovery query answer other its also = both_are answer other _ its also
one_reading laws config state Root query answer other its also = both_are answer other _ its also
one_reading laws config state (Status id) query answer other its also =
    its.2 ∙ ap (body_answer Okay) (one_some _ its.0 also.0 its.1 also.1) ∙ sym also.2
one_reading laws config state Collections query answer other its also = both_are answer other _ its also
one_reading laws config state (Collection info) query answer other its also = both_are answer other _ its also
one_reading laws config state (Manifest info) query answer other its also =
    one_page laws IsManifest (one_manifest laws.text) state.library.rows info.id None query answer other its also
one_reading laws config state (Objects info) query answer other its also =
    one_page laws IsEnvelope one_envelope state.library.rows info.id None query answer other its also
one_reading laws config state (Object info id) query answer other its also =
    one_page laws IsEnvelope one_envelope state.library.rows info.id (Some id) (object_query query) answer other its also
one_reading laws config state (Versions info id) query answer other its also =
    one_page laws AreVersions (one_list_of_versions laws.text) state.library.rows info.id (Some id) (versions_query query) answer other its also
