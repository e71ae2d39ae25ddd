-- What is asked of every request, in this order: the methods that the resource allows (RFC 9110,
-- section 9.1), what the client accepts (TAXII 2.1, section 1.6.8), what it may do with the
-- collection (section 5.1), the media type of what it sends, and its query (section 3.4).
use Rattle.std.specs.Prelude.{◌≡◌, ⊤, ℕ, List, Bool, true, false, ◌&&◌, IfSome, IsSomeAnd}
use Rattle.http_messages.specs.declared.method.Method.{Method}
use Rattle.http_messages.specs.declared.method.Method.TheVariants.{Get, Head, Post, Delete, Other}
use Rattle.http_messages.specs.declared.request.Request.{Request}
use Rattle.taxii_exchange.specs.declared.answer.Allow.{Allow}
use Rattle.taxii_exchange.specs.declared.answer.Allow.TheVariants as allow
use Rattle.taxii_routes.specs.declared.refusal.QueryRefusal.TheVariants as query
use Rattle.taxii_routes.specs.MediaType.{Accepts, IsTaxii}
use Rattle.taxii_routes.specs.Query.{pairs_of, IsRefusedQuery}
use Rattle.taxii_bodies.specs.declared.problem.Problem.TheVariants.{BadValue, Repeated, Forbidden, NotFound, NotAcceptable, UnsupportedMediaType, NotJson, NotList, StoreFault, DatesUsedUp}
use Rattle.taxii_exchange.specs.declared.rights.Rights.{Rights}
use Rattle.taxii_exchange.specs.declared.refusal.Refusal.{Refusal}
use Rattle.taxii_exchange.specs.declared.refusal.Refusal.TheVariants.{NotAllowed, Problem, NoMemory}

-- whether the method is one of those that a resource allows
abbrev pub allows : Allow → Method → Bool
allows its Get = true
allows its Head = false
allows allow.Get Post = false
allows allow.GetPost Post = true
allows allow.GetDelete Post = false
allows allow.Get Delete = false
allows allow.GetPost Delete = false
allows allow.GetDelete Delete = true
allows its Other = false

-- whether the rights permit the method: to read, to add, or to delete what can be read
abbrev pub permits : Rights → Method → Bool
permits rights Get = rights.read
permits rights Head = false
permits rights Post = rights.write
permits rights Delete = rights.read && rights.write
permits rights Other = false

-- the client accepts TAXII's media type, or says nothing of it
abbrev pub IsAccepted : Request → Type 0
IsAccepted request = IfSome request.accept Accepts

-- what a method sends is of TAXII's media type
abbrev pub IsTypedFor : Method → Request → Type 0
IsTypedFor Get request = ⊤
IsTypedFor Head request = ⊤
IsTypedFor Post request = IsSomeAnd request.content_type IsTaxii
IsTypedFor Delete request = ⊤
IsTypedFor Other request = ⊤

abbrev pub IsTyped : Request → Type 0
IsTyped request = IsTypedFor request.method request

-- the request passes all checks but that of its query
pub record IsFit (its : Allow) (rights : Rights) (request : Request) : Type 0 where
  pub allowed : allows its request.method ≡ true
  pub accepted : IsAccepted request
  pub permitted : permits rights request.method ≡ true
  pub typed : IsTyped request

-- the first reason against the request
abbrev pub IsRefusedByCheck : Allow → Rights → Request → List ℕ → Refusal → Type 0
IsRefusedByCheck its rights request text (NotAllowed others) = (others ≡ its) × (allows its request.method ≡ false)
IsRefusedByCheck its rights request text (Problem NotAcceptable) = (allows its request.method ≡ true) × (¬ IsAccepted request)
IsRefusedByCheck its rights request text (Problem Forbidden) =
    (allows its request.method ≡ true) × IsAccepted request × (permits rights request.method ≡ false)
IsRefusedByCheck its rights request text (Problem UnsupportedMediaType) =
    (allows its request.method ≡ true) × IsAccepted request × (permits rights request.method ≡ true) × (¬ IsTyped request)
IsRefusedByCheck its rights request text (Problem (BadValue param)) = IsFit its rights request × IsRefusedQuery (pairs_of text) (query.BadValue param)
IsRefusedByCheck its rights request text (Problem (Repeated param)) = IsFit its rights request × IsRefusedQuery (pairs_of text) (query.Repeated param)
IsRefusedByCheck its rights request text (Problem NotFound) = ⊥
IsRefusedByCheck its rights request text (Problem NotJson) = ⊥
IsRefusedByCheck its rights request text (Problem NotList) = ⊥
IsRefusedByCheck its rights request text (Problem StoreFault) = ⊥
IsRefusedByCheck its rights request text (Problem DatesUsedUp) = ⊥
IsRefusedByCheck its rights request text NoMemory = ⊥
