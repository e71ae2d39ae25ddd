-- Whether a token has a value, by what its value's call answers.
use Rattle.std.proofs.Common.{◌≡◌, ◌↔◌, ℕ, List, Bool, Option, Some, None, IfSome, IfNone, MatchOption, Result, Ok, Err, IfOk, IsTrue, subst, sym}
use Rattle.std.specs.Option.{is_some}
use Rattle.pattern_lexer.specs.declared.token.Token.{Token}
use Rattle.pattern_lexer.specs.declared.token.TokenKind.{TokenKind}
use Rattle.pattern_lexer.specs.Values.{HasValue}
use Rattle.pattern_lexer.specs.Spans.{IsCut, token_text_at, At}

pub has_one : {V : Type 0} (IsTextOf : List ℕ → V → Type 0) (text : List ℕ) (token : Token) (o : Option V) (b : Bool) → IsCut text token → IfSome o (At IsTextOf text token) → IfNone o ((v : V) → ¬ At IsTextOf text token v) → b ≡ is_some o → IsTrue b ↔ ((v : V) × IsTextOf (token_text_at text token) v)
has_one T text token (Some v) b cut some none e = (λ _. (v, some.is), λ _. e)
has_one T text token None b cut some none e = (λ yes. absurd (cc), λ h. absurd (none h.0 (record { cut = cut; is = h.1 })))

pub has_found : {V : Type 0} (IsTextOf : List ℕ → V → Type 0) (text : List ℕ) (token : Token) (o : Option V) (b : Bool) → IsCut text token → MatchOption o ((v : V) → ¬ At IsTextOf text token v) (At IsTextOf text token) → b ≡ is_some o → IsTrue b ↔ ((v : V) × IsTextOf (token_text_at text token) v)
has_found T text token (Some v) b cut found e = (λ _. (v, found.is), λ _. e)
has_found T text token None b cut found e = (λ yes. absurd (cc), λ h. absurd (found h.0 (record { cut = cut; is = h.1 })))

-- an answer on a token of a kind
pub at_kind : {E : Type 0} (kind known : TokenKind) (part : List ℕ) (r : Result Bool E) → kind ≡ known → IfOk r (λ b. IsTrue b ↔ HasValue known part) → IfOk r (λ b. IsTrue b ↔ HasValue kind part)
at_kind kind known part (Ok b) e h = subst (λ (k : TokenKind). IsTrue b ↔ HasValue k part) (sym e) h
at_kind kind known part (Err x) e h = tt
