-- Where tokens lead, put together from where their parts lead.
use Rattle.std.proofs.Common.{◌≡◌, List, [], ◌∷◌, ◌++◌, Option, Some, None, option_and_then, refl, sym, ap, ◌∙◌}
use Rattle.pattern_lexer.specs.declared.token.Token.{Token}
use Rattle.pattern_grammar.specs.declared.class.TokenClass.{TokenClass}
use Rattle.pattern_grammar.specs.TokenClass.{IsA}
use Rattle.pattern_grammar.specs.inner.Machine.{Expected, one, Tail, opening, next, state_after, go}
use Rattle.pattern_grammar.specs.inner.Machine.{LacksTokenClass, Leads, Halts, done, open_for}

pub state_after-append : (s : Option (List Expected)) (a b : List Token) → state_after s (a ++ b) ≡ state_after (state_after s a) b
state_after-append s [] b = refl
state_after-append s (t ∷ a) b = state_after-append (option_and_then (λ w. next w t.kind) s) a b

-- one token further is what comes next
pub go_is : (s : Option (List Expected)) (t : Token) (r : List Token) → go s (t ∷ r) ≡ option_and_then (λ w. next w t.kind) s
go_is None t r = refl
go_is (Some w) t r = refl

resume : (s u : Option (List Expected)) (y r : List Token) → go s (y ++ r) ≡ go u (y ++ r) → go (state_after s y) r ≡ go (state_after u y) r
resume s u [] r e = e
resume s u (t ∷ y) r e = ap (λ x. go (state_after x y) r) (sym (go_is s t (y ++ r)) ∙ e ∙ go_is u t (y ++ r))

-- one part and then another
pub leads_then : {f g h : List Expected → List Expected} (x y r : List Token) → Leads f g x (y ++ r) → Leads g h y r → Leads f h (x ++ y) r
leads_then {f} {g} {h} x y r a b = record { proceed = λ k. ap (λ s. go s r) (state_after-append (Some (f k)) x y) ∙ resume (state_after (Some (f k)) x) (Some (g k)) y r (a.proceed k) ∙ b.proceed k }

pub halts_then : {f g : List Expected → List Expected} (x y r : List Token) → Leads f g x (y ++ r) → Halts g y r → Halts f (x ++ y) r
halts_then {f} {g} x y r a b = record { stop = λ k. ap (λ s. go s r) (state_after-append (Some (f k)) x y) ∙ resume (state_after (Some (f k)) x) (Some (g k)) y r (a.proceed k) ∙ b.stop k }

-- the same with more expected after it
pub leads_before : {f g : List Expected → List Expected} {x r : List Token} (m : List Expected → List Expected) → Leads f g x r → Leads (λ k. f (m k)) (λ k. g (m k)) x r
leads_before m a = record { proceed = λ k. a.proceed (m k) }

pub halts_before : {f : List Expected → List Expected} {x r : List Token} (m : List Expected → List Expected) → Halts f x r → Halts (λ k. f (m k)) x r
halts_before m a = record { stop = λ k. a.stop (m k) }

-- a token that fits
pub leads_token : {f g : List Expected → List Expected} (t : Token) (r : List Token) → ((k : List Expected) → next (f k) t.kind ≡ Some (g k)) → Leads f g (t ∷ []) r
leads_token t r e = record { proceed = λ k. ap (λ s. go s r) (e k) }

pub leads_one : (class : TokenClass) (t : Token) (r : List Token) → IsA class t → Leads (λ k. one class ∷ k) done (t ∷ []) r
leads_one class t r h = record { proceed = λ k. rw h refl }

-- a token that doesn't
pub halts_one : (class : TokenClass) (r : List Token) → LacksTokenClass class r → Halts (λ k. one class ∷ k) [] r
halts_one class [] h = record { stop = λ k. refl }
halts_one class (t ∷ r) h = record { stop = λ k. rw h refl }

-- no further turn
pub leads_past : (t : Tail) (r : List Token) → LacksTokenClass (opening t) r → Leads (open_for t) done [] r
leads_past t [] h = record { proceed = λ k. refl }
leads_past t (o ∷ r) h = record { proceed = λ k. rw h refl }
