-- Which resource a route leads to, and rows of pages have texts.
use Rattle.std.proofs.Common.{◌≡◌, ◌≢◌, ℕ, List, All, Some, None, sym, ap, subst, ◌∙◌}
use Rattle.std.specs.List.{Contains}
use Rattle.std.proofs.lemmas.List.Elements.{All-contains, All-weaker}
use Rattle.stix_ids.specs.declared.id.Id.{Id}
use Rattle.http_messages.specs.declared.method.Method.{Method}
use Rattle.taxii_routes.specs.declared.route.Route.{Route}
use Rattle.taxii_routes.specs.declared.route.Route.TheVariants as route
use Rattle.taxii_rows.specs.declared.stored_row.StoredRow.{StoredRow}
use Rattle.taxii_bodies.specs.declared.collections.CollectionInfo.{CollectionInfo}
use Rattle.taxii_exchange.specs.Config.{collection_named}
use Rattle.taxii_exchange.specs.Statuses.{kept_status_body}
use Rattle.taxii_service.specs.declared.state.State.{State}
use Rattle.taxii_service.specs.Resource.{Resource, Discovery, Root, Status, Collections, Collection, Manifest, Objects, Object, Versions}
use Rattle.taxii_service.specs.Finding.{NamesCollection, NamesObject, IsResource}
use Rattle.taxii_service.specs.Operation.{Operation, Read, IsOperation}
use Rattle.taxii_service.specs.inner.Performing.{HasStatus}
use Rattle.taxii_bodies.specs.Times.{IsWritable}

pub writable : (rows page : List StoredRow) → All IsWritable rows → All (Contains rows) page → All IsWritable page
writable rows page all held = All-weaker (Contains rows) IsWritable (λ row there. All-contains IsWritable rows row all there) page held

-- an object that its collection doesn't have, is none
pub no_object : (infos : List CollectionInfo) (rows : List StoredRow) (name named text told : List ℕ) (info : CollectionInfo) → name ≡ named → text ≡ told
    → Some info ≡ collection_named name infos → ((id : Id) → NamesObject text info rows id → ⊥)
    → (other : CollectionInfo) (id : Id) → NamesCollection named infos other → NamesObject told other rows id → ⊥
no_object infos rows name named text told info name_is text_is found none other id names its =
    let same : Some info ≡ Some other = found ∙ ap (λ (n : List ℕ). collection_named n infos) name_is ∙ names in
    let info_is : info ≡ other = cc in
    none id (subst (λ (i : CollectionInfo). NamesObject text i rows id) (sym info_is) (subst (λ (t : List ℕ). NamesObject t other rows id) (sym text_is) its))

-- a status that is found is kept
kept_here : (state : State) (id other : List ℕ) → Status id ≡ Status other → kept_status_body id state.statuses ≢ None → kept_status_body other state.statuses ≢ None
kept_here state id other is kept = let same : id ≡ other = cc in subst (λ (i : List ℕ). kept_status_body i state.statuses ≢ None) same kept

pub has_status : (infos : List CollectionInfo) (state : State) (its_route : Route) (resource : Resource) → IsResource infos state its_route resource → HasStatus state resource
has_status infos state route.Discovery resource its = λ id is. absurd (let wrong = sym its ∙ is in cc wrong)
has_status infos state route.Root resource its = λ id is. absurd (let wrong = sym its ∙ is in cc wrong)
has_status infos state (route.Status name) resource its = λ id is. kept_here state name id (sym its.0 ∙ is) its.1
has_status infos state route.Collections resource its = λ id is. absurd (let wrong = sym its ∙ is in cc wrong)
has_status infos state (route.Collection name) resource its = λ id is. absurd (let wrong = sym its.2 ∙ is in cc wrong)
has_status infos state (route.Manifest name) resource its = λ id is. absurd (let wrong = sym its.2 ∙ is in cc wrong)
has_status infos state (route.Objects name) resource its = λ id is. absurd (let wrong = sym its.2 ∙ is in cc wrong)
has_status infos state (route.Object name text) resource its = λ id is. absurd (let wrong = sym its.4 ∙ is in cc wrong)
has_status infos state (route.Versions name text) resource its = λ id is. absurd (let wrong = sym its.4 ∙ is in cc wrong)
has_status infos state route.None resource its = absurd its

-- what a request reads is the resource that was found
pub reads_status : (state : State) (method : Method) (resource : Resource) (operation : Operation) → HasStatus state resource → IsOperation method resource operation
    → (its : Resource) → operation ≡ Read its → HasStatus state its
reads_status state method resource operation has is its read_is =
    subst (HasStatus state) (sym (subst (IsOperation method resource) read_is is).1) has
