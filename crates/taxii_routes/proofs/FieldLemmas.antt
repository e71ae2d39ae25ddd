-- The fields of a query, by parameter.
use Rattle.std.proofs.Common.{◌≡◌, ◌≢◌, ◌↔◌, ℕ, List, Bool, true, false, Option, Some, None, Result, Ok, Err, refl, sym, ap, subst, ◌∙◌}
use Rattle.std.specs.Prelude.{IsOk, OnOk, IfErr, MatchOption, is_some}
use Rattle.std.proofs.lemmas.Bool.{false≢true}
use Rattle.flow_values.specs.Answers.{FindsExactly}
use Rattle.taxii_routes.specs.declared.param.Param.{Param}
use Rattle.taxii_routes.specs.declared.param.Param.TheVariants.{AddedAfter, Limit, Next, MatchId, MatchType, MatchVersion, MatchSpec}
use Rattle.taxii_routes.specs.declared.query.Query.{Query}
use Rattle.taxii_routes.specs.declared.refusal.QueryRefusal.{QueryRefusal}
use Rattle.taxii_routes.specs.declared.refusal.QueryRefusal.TheVariants.{BadValue}
use Rattle.taxii_routes.specs.Value.{Meaning, IsParameterValue}
use Rattle.taxii_routes.specs.Query.{asked}
use Rattle.taxii_routes.specs.inner.Step.{with_parameter, AddsParameter, CannotAddParameter}

pub asked-put : (param : Param) (slot : Option (Meaning param)) (query : Query) → asked param (with_parameter param slot query) ≡ slot
asked-put AddedAfter slot query = refl
asked-put Limit slot query = refl
asked-put Next slot query = refl
asked-put MatchId slot query = refl
asked-put MatchType slot query = refl
asked-put MatchVersion slot query = refl
asked-put MatchSpec slot query = refl

pub asked-put_other : (param other : Param) (slot : Option (Meaning param)) (query : Query) → other ≢ param → asked other (with_parameter param slot query) ≡ asked other query
asked-put_other AddedAfter AddedAfter slot query differs = absurd (differs refl)
asked-put_other AddedAfter Limit slot query differs = refl
asked-put_other AddedAfter Next slot query differs = refl
asked-put_other AddedAfter MatchId slot query differs = refl
asked-put_other AddedAfter MatchType slot query differs = refl
asked-put_other AddedAfter MatchVersion slot query differs = refl
asked-put_other AddedAfter MatchSpec slot query differs = refl
asked-put_other Limit AddedAfter slot query differs = refl
asked-put_other Limit Limit slot query differs = absurd (differs refl)
asked-put_other Limit Next slot query differs = refl
asked-put_other Limit MatchId slot query differs = refl
asked-put_other Limit MatchType slot query differs = refl
asked-put_other Limit MatchVersion slot query differs = refl
asked-put_other Limit MatchSpec slot query differs = refl
asked-put_other Next AddedAfter slot query differs = refl
asked-put_other Next Limit slot query differs = refl
asked-put_other Next Next slot query differs = absurd (differs refl)
asked-put_other Next MatchId slot query differs = refl
asked-put_other Next MatchType slot query differs = refl
asked-put_other Next MatchVersion slot query differs = refl
asked-put_other Next MatchSpec slot query differs = refl
asked-put_other MatchId AddedAfter slot query differs = refl
asked-put_other MatchId Limit slot query differs = refl
asked-put_other MatchId Next slot query differs = refl
asked-put_other MatchId MatchId slot query differs = absurd (differs refl)
asked-put_other MatchId MatchType slot query differs = refl
asked-put_other MatchId MatchVersion slot query differs = refl
asked-put_other MatchId MatchSpec slot query differs = refl
asked-put_other MatchType AddedAfter slot query differs = refl
asked-put_other MatchType Limit slot query differs = refl
asked-put_other MatchType Next slot query differs = refl
asked-put_other MatchType MatchId slot query differs = refl
asked-put_other MatchType MatchType slot query differs = absurd (differs refl)
asked-put_other MatchType MatchVersion slot query differs = refl
asked-put_other MatchType MatchSpec slot query differs = refl
asked-put_other MatchVersion AddedAfter slot query differs = refl
asked-put_other MatchVersion Limit slot query differs = refl
asked-put_other MatchVersion Next slot query differs = refl
asked-put_other MatchVersion MatchId slot query differs = refl
asked-put_other MatchVersion MatchType slot query differs = refl
asked-put_other MatchVersion MatchVersion slot query differs = absurd (differs refl)
asked-put_other MatchVersion MatchSpec slot query differs = refl
asked-put_other MatchSpec AddedAfter slot query differs = refl
asked-put_other MatchSpec Limit slot query differs = refl
asked-put_other MatchSpec Next slot query differs = refl
asked-put_other MatchSpec MatchId slot query differs = refl
asked-put_other MatchSpec MatchType slot query differs = refl
asked-put_other MatchSpec MatchVersion slot query differs = refl
asked-put_other MatchSpec MatchSpec slot query differs = absurd (differs refl)

-- a query of which each field is none asks for nothing
pub asks_nothing : (query : Query) → query.added_after ≡ None → query.limit ≡ None → query.next ≡ None → query.ids ≡ None → query.kinds ≡ None → query.picks ≡ None → query.specs ≡ None
    → (param : Param) → asked param query ≡ None
asks_nothing query e1 e2 e3 e4 e5 e6 e7 AddedAfter = e1
asks_nothing query e1 e2 e3 e4 e5 e6 e7 Limit = e2
asks_nothing query e1 e2 e3 e4 e5 e6 e7 Next = e3
asks_nothing query e1 e2 e3 e4 e5 e6 e7 MatchId = e4
asks_nothing query e1 e2 e3 e4 e5 e6 e7 MatchType = e5
asks_nothing query e1 e2 e3 e4 e5 e6 e7 MatchVersion = e6
asks_nothing query e1 e2 e3 e4 e5 e6 e7 MatchSpec = e7

some_iff : {A : Type 0} (o : Option A) (b : Bool) → b ≡ is_some o → (b ≡ true) ↔ (o ≢ None)
some_iff None b is = (λ yes. absurd (false≢true (sym is ∙ yes)), λ some. absurd (some refl))
some_iff (Some x) b is = (λ yes e. absurd cc, λ some. is)

-- whether a query asks for something, by the field
pub has_asked : (param known : Param) (query : Query) (b : Bool) → param ≡ known → b ≡ is_some (asked known query) → (b ≡ true) ↔ (asked param query ≢ None)
has_asked param known query b same is = subst (λ p. (b ≡ true) ↔ (asked p query ≢ None)) (sym same) (some_iff (asked known query) b is)

-- what setting a field answers
abbrev pub Sets : {A : Type 0} → Option A → QueryRefusal → Option A → Option A → Result (Unit {0}) QueryRefusal → Type 0
Sets meaning bad before after answer = MatchOption meaning ((answer ≡ Err bad) × (after ≡ before)) (λ value. IsOk answer × (after ≡ Some value))

-- and what that says of the query
abbrev pub AddAnswers : Param → List ℕ → Query → Query → Result (Unit {0}) QueryRefusal → Type 0
AddAnswers param value old new answer = OnOk answer (AddsParameter param value old new) × IfErr answer (CannotAddParameter param value old)

add_answers : (known : Param) (value : List ℕ) (old new : Query) (meaning after : Option (Meaning known)) (answer : Result (Unit {0}) QueryRefusal)
    → asked known old ≡ None → FindsExactly (IsParameterValue known value) meaning → Sets meaning (BadValue known) (asked known old) after answer → new ≡ with_parameter known after old
    → AddAnswers known value old new answer
add_answers known value old new None after (Ok u) none finds sets change = absurd cc
add_answers known value old new None after (Err e) none finds sets change =
    let bad : BadValue known ≡ e = cc in
    (tt, subst (CannotAddParameter known value old) bad (refl, none, λ (m, means). finds m means))
add_answers known value old new (Some m) after (Ok u) none finds sets change =
    (record { before = none; meaning = m; means = finds; change = change ∙ ap (λ w. with_parameter known w old) sets.1 }, tt)
add_answers known value old new (Some m) after (Err e) none finds sets change = absurd (false≢true sets.0)

-- the same at the parameter that was matched
pub adds : (param known : Param) (value : List ℕ) (old new : Query) (meaning after : Option (Meaning known)) (answer : Result (Unit {0}) QueryRefusal)
    → param ≡ known → asked param old ≡ None → FindsExactly (IsParameterValue known value) meaning → Sets meaning (BadValue param) (asked known old) after answer → new ≡ with_parameter known after old
    → AddAnswers param value old new answer
adds param known value old new meaning after answer same none finds sets change =
    subst (λ p. AddAnswers p value old new answer) (sym same)
    (add_answers known value old new meaning after answer (subst (λ p. asked p old ≡ None) same none) finds (subst (λ p. Sets meaning (BadValue p) (asked known old) after answer) same sets) change)

-- what isn't asked for is none
pub none_asked : {A : Type 0} (slot : Option A) (b : Bool) → (b ≡ true) ↔ (slot ≢ None) → b ≡ false → slot ≡ None
none_asked None b tells is = refl
none_asked {A} (Some x) b tells is = absurd (false≢true (sym is ∙ tells.1 some))
  where
    some : ◌≡◌ {A = Option A} (Some x) None → ⊥
    some e = cc
