-- One thing stands first against a request, and where nothing does it is done.
use Rattle.std.proofs.Common.{◌≡◌, ◌⊎◌, inl, inr, ℕ, List, Bool, true, false, refl, sym, ap, ◌∙◌}
use Rattle.http_messages.specs.declared.request.Request.{Request}
use Rattle.taxii_exchange.specs.declared.answer.Allow.{Allow}
use Rattle.taxii_routes.specs.declared.query.Query.{Query}
use Rattle.taxii_routes.specs.declared.refusal.QueryRefusal.{QueryRefusal}
use Rattle.taxii_routes.specs.declared.refusal.QueryRefusal.TheVariants as query
use Rattle.taxii_routes.specs.Query.{Pair, pairs_of, IsQueryOf, IsRefusedQuery}
use Rattle.taxii_bodies.specs.declared.problem.Problem.TheVariants.{BadValue, Repeated, Forbidden, NotFound, NotAcceptable, UnsupportedMediaType, NotJson, NotList, StoreFault, DatesUsedUp}
use Rattle.taxii_exchange.specs.declared.refusal.Refusal.{Refusal}
use Rattle.taxii_exchange.specs.declared.refusal.Refusal.TheVariants.{NotAllowed, Problem, NoMemory}
use Rattle.taxii_exchange.specs.declared.rights.Rights.{Rights}
use Rattle.taxii_exchange.specs.Checking.{allows, permits, IsAccepted, IsTyped, IsFit, IsRefusedByCheck}

-- the laws of queries: pairs are refused in one way, and not where they ask for a query
pub record Laws : Type 0 where
  pub refusal : (pairs : List Pair) (first second : QueryRefusal) → IsRefusedQuery pairs first → IsRefusedQuery pairs second → first ≡ second
  pub never_both : (pairs : List Pair) (query : Query) (refusal : QueryRefusal) → IsQueryOf pairs query → ¬ IsRefusedQuery pairs refusal

-- what a bad pair is to a request
abbrev told : QueryRefusal → Refusal
told (query.BadValue param) = Problem (BadValue param)
told (query.Repeated param) = Problem (Repeated param)
told query.NoMemory = NoMemory

-- ---- what is asked in turn

-- of the query
abbrev ByQuery : List ℕ → Refusal → Type 0
ByQuery text refusal = (bad : QueryRefusal) × IsRefusedQuery (pairs_of text) bad × (refusal ≡ told bad)

-- of the media type, and then of the query
abbrev ByType : Request → List ℕ → Refusal → Type 0
ByType request text refusal = ((¬ IsTyped request) × (refusal ≡ Problem UnsupportedMediaType)) ⊎ (IsTyped request × ByQuery text refusal)

abbrev ByRights : Rights → Request → List ℕ → Refusal → Type 0
ByRights rights request text refusal =
    ((permits rights request.method ≡ false) × (refusal ≡ Problem Forbidden)) ⊎ ((permits rights request.method ≡ true) × ByType request text refusal)

abbrev ByAccept : Rights → Request → List ℕ → Refusal → Type 0
ByAccept rights request text refusal = ((¬ IsAccepted request) × (refusal ≡ Problem NotAcceptable)) ⊎ (IsAccepted request × ByRights rights request text refusal)

abbrev ByMethod : Allow → Rights → Request → List ℕ → Refusal → Type 0
ByMethod its rights request text refusal =
    ((allows its request.method ≡ false) × (refusal ≡ NotAllowed its)) ⊎ ((allows its request.method ≡ true) × ByAccept rights request text refusal)

by_query : (its : Allow) (rights : Rights) (request : Request) (text : List ℕ) (refusal : Refusal) (bad : QueryRefusal) → IsFit its rights request
    → IsRefusedQuery (pairs_of text) bad → refusal ≡ told bad → ByMethod its rights request text refusal
by_query its rights request text refusal bad fit refused same =
    inr (fit.allowed, inr (fit.accepted, inr (fit.permitted, inr (fit.typed, (bad, refused, same)))))

in_turn : (its : Allow) (rights : Rights) (request : Request) (text : List ℕ) (refusal : Refusal) → IsRefusedByCheck its rights request text refusal
    → ByMethod its rights request text refusal
in_turn its rights request text (NotAllowed others) (same, method) = inl (method, ap NotAllowed same)
in_turn its rights request text (Problem NotAcceptable) (allowed, not) = inr (allowed, inl (not, refl))
in_turn its rights request text (Problem Forbidden) (allowed, accepted, not) = inr (allowed, inr (accepted, inl (not, refl)))
in_turn its rights request text (Problem UnsupportedMediaType) (allowed, accepted, permitted, not) = inr (allowed, inr (accepted, inr (permitted, inl (not, refl))))
in_turn its rights request text (Problem (BadValue param)) (fit, refused) = by_query its rights request text _ (query.BadValue param) fit refused refl
in_turn its rights request text (Problem (Repeated param)) (fit, refused) = by_query its rights request text _ (query.Repeated param) fit refused refl
in_turn its rights request text (Problem NotFound) none = absurd none
in_turn its rights request text (Problem NotJson) none = absurd none
in_turn its rights request text (Problem NotList) none = absurd none
in_turn its rights request text (Problem StoreFault) none = absurd none
in_turn its rights request text (Problem DatesUsedUp) none = absurd none
in_turn its rights request text NoMemory none = absurd none

-- ---- one refusal

not_both : (b : Bool) → b ≡ true → b ≡ false → ⊥
not_both b first second = let same : true ≡ false = sym first ∙ second in absurd (cc)

one_by_query : Laws → (text : List ℕ) (first second : Refusal) → ByQuery text first → ByQuery text second → first ≡ second
one_by_query laws text first second (bad, refused, is) (other, also, of) = is ∙ ap told (laws.refusal (pairs_of text) bad other refused also) ∙ sym of

one_by_type : Laws → (request : Request) (text : List ℕ) (first second : Refusal) → ByType request text first → ByType request text second → first ≡ second
one_by_type laws request text first second (inl its) (inl also) = its.1 ∙ sym also.1
one_by_type laws request text first second (inl its) (inr also) = absurd (its.0 also.0)
one_by_type laws request text first second (inr its) (inl also) = absurd (also.0 its.0)
one_by_type laws request text first second (inr its) (inr also) = one_by_query laws text first second its.1 also.1

one_by_rights : Laws → (rights : Rights) (request : Request) (text : List ℕ) (first second : Refusal) → ByRights rights request text first → ByRights rights request text second
    → first ≡ second
one_by_rights laws rights request text first second (inl its) (inl also) = its.1 ∙ sym also.1
one_by_rights laws rights request text first second (inl its) (inr also) = absurd (not_both _ also.0 its.0)
one_by_rights laws rights request text first second (inr its) (inl also) = absurd (not_both _ its.0 also.0)
one_by_rights laws rights request text first second (inr its) (inr also) = one_by_type laws request text first second its.1 also.1

one_by_accept : Laws → (rights : Rights) (request : Request) (text : List ℕ) (first second : Refusal) → ByAccept rights request text first → ByAccept rights request text second
    → first ≡ second
one_by_accept laws rights request text first second (inl its) (inl also) = its.1 ∙ sym also.1
one_by_accept laws rights request text first second (inl its) (inr also) = absurd (its.0 also.0)
one_by_accept laws rights request text first second (inr its) (inl also) = absurd (also.0 its.0)
one_by_accept laws rights request text first second (inr its) (inr also) = one_by_rights laws rights request text first second its.1 also.1

one_by_method : Laws → (its : Allow) (rights : Rights) (request : Request) (text : List ℕ) (first second : Refusal) → ByMethod its rights request text first
    → ByMethod its rights request text second → first ≡ second
one_by_method laws its rights request text first second (inl one) (inl also) = one.1 ∙ sym also.1
one_by_method laws its rights request text first second (inl one) (inr also) = absurd (not_both _ also.0 one.0)
one_by_method laws its rights request text first second (inr one) (inl also) = absurd (not_both _ one.0 also.0)
one_by_method laws its rights request text first second (inr one) (inr also) = one_by_accept laws rights request text first second one.1 also.1

pub one_refusal : Laws → (its : Allow) (rights : Rights) (request : Request) (text : List ℕ) (first second : Refusal) → IsRefusedByCheck its rights request text first
    → IsRefusedByCheck its rights request text second → first ≡ second
one_refusal laws its rights request text first second one also =
    one_by_method laws its rights request text first second (in_turn its rights request text first one) (in_turn its rights request text second also)

-- ---- no refusal of what is fit

fit_not_refused : Laws → (its : Allow) (rights : Rights) (request : Request) (text : List ℕ) (wanted : Query) (refusal : Refusal) → IsFit its rights request
    → IsQueryOf (pairs_of text) wanted → ByMethod its rights request text refusal → ⊥
fit_not_refused laws its rights request text wanted refusal fit asks (inl not) = not_both _ fit.allowed not.0
fit_not_refused laws its rights request text wanted refusal fit asks (inr (allowed, inl not)) = not.0 fit.accepted
fit_not_refused laws its rights request text wanted refusal fit asks (inr (allowed, inr (accepted, inl not))) = not_both _ fit.permitted not.0
fit_not_refused laws its rights request text wanted refusal fit asks (inr (allowed, inr (accepted, inr (permitted, inl not)))) = not.0 fit.typed
fit_not_refused laws its rights request text wanted refusal fit asks (inr (allowed, inr (accepted, inr (permitted, inr (typed, bad))))) =
    laws.never_both (pairs_of text) wanted bad.0 asks bad.1

pub not_refused : Laws → (its : Allow) (rights : Rights) (request : Request) (text : List ℕ) (wanted : Query) (refusal : Refusal) → IsFit its rights request
    → IsQueryOf (pairs_of text) wanted → IsRefusedByCheck its rights request text refusal → ⊥
not_refused laws its rights request text wanted refusal fit asks refused =
    fit_not_refused laws its rights request text wanted refusal fit asks (in_turn its rights request text refusal refused)
