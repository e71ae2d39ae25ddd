-- A route leads to one resource, and a method does one thing with it.
use Rattle.std.proofs.Common.{◌≡◌, ℕ, List, Option, Some, ap, sym, ◌∙◌}
use Rattle.stix_ids.specs.declared.id.Id.{Id}
use Rattle.stix_ids.specs.Identifier.{IsTextOfId}
use Rattle.http_messages.specs.declared.method.Method.{Method}
use Rattle.http_messages.specs.declared.method.Method.TheVariants.{Get, Post, Delete}
use Rattle.taxii_routes.specs.declared.route.Route.{Route}
use Rattle.taxii_routes.specs.declared.route.Route.TheVariants as route
use Rattle.taxii_bodies.specs.declared.collections.CollectionInfo.{CollectionInfo}
use Rattle.taxii_service.specs.declared.state.State.{State}
use Rattle.taxii_service.specs.Resource.{Resource, Collection, Manifest, Objects, Object, Versions}
use Rattle.taxii_service.specs.Finding.{NamesCollection, IsResource}
use Rattle.taxii_service.specs.Operation.{Operation, Read, Add, Remove, IsOperation}

-- a text names one identifier
abbrev pub OneIdentifier : Type 0
OneIdentifier = (text : List ℕ) (first second : Id) → IsTextOfId text first → IsTextOfId text second → first ≡ second

both_are : {A : Type 0} (a b c : A) → a ≡ c → b ≡ c → a ≡ b
both_are a b c first second = first ∙ sym second

one_some : {A : Type 0} (found : Option A) (a b : A) → found ≡ Some a → found ≡ Some b → a ≡ b
one_some found a b first second = let same : Some a ≡ Some b = sym first ∙ second in cc

of_collection : (infos : List CollectionInfo) (text : List ℕ) (info other : CollectionInfo) (Form : CollectionInfo → Resource) (first second : Resource)
    → NamesCollection text infos info → NamesCollection text infos other → first ≡ Form info → second ≡ Form other → first ≡ second
of_collection infos text info other Form first second names also its of = its ∙ ap Form (one_some _ info other names also) ∙ sym of

of_object : OneIdentifier → (infos : List CollectionInfo) (name text : List ℕ) (info other : CollectionInfo) (id id_too : Id) (Form : CollectionInfo → Id → Resource) (first second : Resource)
    → NamesCollection name infos info → NamesCollection name infos other → IsTextOfId text id → IsTextOfId text id_too → first ≡ Form info id → second ≡ Form other id_too → first ≡ second
of_object one infos name text info other id id_too Form first second names also text_of text_of_too its of =
    its ∙ ap (λ (i : CollectionInfo). Form i id) (one_some _ info other names also) ∙ ap (Form other) (one text id id_too text_of text_of_too) ∙ sym of

pub one_resource : OneIdentifier → (infos : List CollectionInfo) (state : State) (its_route : Route) (first second : Resource)
    → IsResource infos state its_route first → IsResource infos state its_route second → first ≡ second
one_resource one infos state route.Discovery first second its also = both_are first second _ its also
one_resource one infos state route.Root first second its also = both_are first second _ its also
one_resource one infos state (route.Status id) first second its also = both_are first second _ its.0 also.0
one_resource one infos state route.Collections first second its also = both_are first second _ its also
one_resource one infos state (route.Collection name) first second its also =
    of_collection infos name its.0 also.0 Collection first second its.1 also.1 its.2 also.2
one_resource one infos state (route.Manifest name) first second its also =
    of_collection infos name its.0 also.0 Manifest first second its.1 also.1 its.2 also.2
one_resource one infos state (route.Objects name) first second its also =
    of_collection infos name its.0 also.0 Objects first second its.1 also.1 its.2 also.2
one_resource one infos state (route.Object name text) first second its also =
    of_object one infos name text its.0 also.0 its.1 also.1 Object first second its.2 also.2 its.3.text_of also.3.text_of its.4 also.4
one_resource one infos state (route.Versions name text) first second its also =
    of_object one infos name text its.0 also.0 its.1 also.1 Versions first second its.2 also.2 its.3.text_of also.3.text_of its.4 also.4
one_resource one infos state route.None first second its also = absurd its

-- methods that differ
get_post : (method : Method) → method ≡ Get → method ≡ Post → ⊥
get_post method its also = let wrong : Get ≡ Post = sym its ∙ also in cc

get_delete : (method : Method) → method ≡ Get → method ≡ Delete → ⊥
get_delete method its also = let wrong : Get ≡ Delete = sym its ∙ also in cc

post_delete : (method : Method) → method ≡ Post → method ≡ Delete → ⊥
post_delete method its also = let wrong : Post ≡ Delete = sym its ∙ also in cc

pub one_operation : (method : Method) (resource : Resource) (first second : Operation) → IsOperation method resource first → IsOperation method resource second → first ≡ second
one_operation method resource (Read its) (Read other) is also = ap (λ (r : Resource). Read r) (both_are its other resource is.1 also.1)
one_operation method resource (Read its) (Add other) is also = absurd (get_post method is.0 also.0)
one_operation method resource (Read its) (Remove other id) is also = absurd (get_delete method is.0 also.0)
one_operation method resource (Add info) (Read other) is also = absurd (get_post method also.0 is.0)
one_operation method resource (Add info) (Add other) is also = let same : Objects info ≡ Objects other = sym is.1 ∙ also.1 in cc
one_operation method resource (Add info) (Remove other id) is also = absurd (post_delete method is.0 also.0)
one_operation method resource (Remove info id) (Read other) is also = absurd (get_delete method also.0 is.0)
one_operation method resource (Remove info id) (Add other) is also = absurd (post_delete method also.0 is.0)
one_operation method resource (Remove info id) (Remove other id_too) is also = let same : Object info id ≡ Object other id_too = sym is.1 ∙ also.1 in cc
