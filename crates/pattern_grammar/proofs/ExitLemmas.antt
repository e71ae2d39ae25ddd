-- What a `?` passes on, and what `add` does.
use Rattle.std.proofs.Common.{◌≡◌, ◌⊎◌, inl, inr, List, Result, Ok, Err, IfOk, IfErr, IsOkAnd, IsErrAnd, sym}
use Rattle.pattern_lexer.specs.declared.token.Token.{Token}
use Rattle.pattern_grammar.specs.declared.stop.Stop.{Stop}
use Rattle.pattern_grammar.specs.declared.stop.Stop.TheVariants.{Memory, Syntax}
use Rattle.pattern_grammar.specs.inner.Machine.{Expected}
use Rattle.pattern_grammar.specs.inner.Machine.{Stuck, Refused}

pub passed : {T E : Type 0} (r : Result T E) (e : E) (P : E → Type 0) → IsErrAnd r (λ y. y ≡ e) → P e → IfErr r P
passed (Ok x) e P h p = tt
passed (Err y) e P h p = rw h p

pub refused_in : {V W : Type 0} {A : List Token → V → Type 0} {B : List Token → W → Type 0} {b d : List Expected → List Expected} {ts us : List Token} (e : Stop) → Refused A b ts e → ((rest : List Token) → Stuck A b ts rest → Stuck B d us rest) → Refused B d us e
refused_in Memory h f = tt
refused_in (Syntax r) h f = f r.now h

pub refused_added : {T V W : Type 0} {A : List Token → V → Type 0} {B : List Token → W → Type 0} {b d : List Expected → List Expected} {ts us : List Token} (r : Result T Stop) (e : Stop) → IfErr r (Refused A b ts) → (e ≡ Memory) ⊎ IsErrAnd r (λ y. y ≡ e) → ((rest : List Token) → Stuck A b ts rest → Stuck B d us rest) → Refused B d us e
refused_added r e h (inl m) f = rw m tt
refused_added (Ok x) e h (inr s) f = elim s [ ]
refused_added (Err y) e h (inr s) f = rw (sym s) (refused_in y h f)

pub added : {T E G : Type 0} {P Q : T → Type 0} (r : Result T E) → IfOk r P → IsOkAnd r Q → ((x : T) → P x → Q x → G) → G
added (Ok x) p q f = f x p q
added (Err e) p q f = elim q [ ]
