-- What a token's text has as its value, the token has.
use Rattle.std.proofs.Common.{◌≡◌, ℕ, List, Option, Some, None, Result, Ok, Err, IfOk, MatchOption, sym, subst}
use Rattle.pattern_lexer.specs.declared.token.Token.{Token}
use Rattle.pattern_lexer.specs.Spans.{token_text_at, At, IsItself}

pub no_value : {V : Type 0} {IsTextOf : List ℕ → V → Type 0} (text : List ℕ) (token : Token) (part : List ℕ) → At IsItself text token part → ((v : V) → ¬ IsTextOf part v) → (v : V) → ¬ At IsTextOf text token v
no_value {IsTextOf = T} text token part p none v x = none v (let e : token_text_at text token ≡ part = sym p.is in subst (λ (l : List ℕ). T l v) e x.is)

pub a_value : {V : Type 0} {IsTextOf : List ℕ → V → Type 0} (text : List ℕ) (token : Token) (part : List ℕ) (v : V) → At IsItself text token part → IsTextOf part v → At IsTextOf text token v
a_value {IsTextOf = T} text token part v p x = record { cut = p.cut; is = subst (λ (l : List ℕ). T l v) p.is x }

-- what the token's text has as its value, the token has
pub found_at : {V E : Type 0} (IsTextOf : List ℕ → V → Type 0) (text : List ℕ) (token : Token) (part : List ℕ) (r : Result (Option V) E) → At IsItself text token part → IfOk r (λ o. MatchOption o ((v : V) → ¬ IsTextOf part v) (IsTextOf part)) → IfOk r (λ o. MatchOption o ((v : V) → ¬ At IsTextOf text token v) (At IsTextOf text token))
found_at T text token part (Err e) p h = tt
found_at T text token part (Ok (Some v)) p h = a_value text token part v p h
found_at T text token part (Ok None) p h = λ v. no_value text token part p h v
