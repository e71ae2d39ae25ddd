-- Where reading ends, for a list of tokens as a whole.
use Rattle.std.proofs.Common.{◌≡◌, true, false, List, [], ◌∷◌, ◌++◌, Option, Some, None, refl, sym, ap, ◌∙◌, append-nil, append_assoc, length, ◌==◌, arith}
use Rattle.std.proofs.lemmas.Bool.{eqb-true}
use Rattle.pattern_lexer.specs.declared.token.Token.{Token}
use Rattle.pattern_grammar.specs.declared.stop.Stop.{Stop}
use Rattle.pattern_grammar.specs.declared.stop.Stop.TheVariants.{Memory, Syntax}
use Rattle.pattern_grammar.specs.Tree.{Tree}
use Rattle.pattern_grammar.specs.Grammar.{IsPattern}
use Rattle.pattern_grammar.specs.inner.Machine.{Expected, thens, state_after, go, expects_pattern}
use Rattle.pattern_grammar.specs.inner.Machine.{Found, Stuck, Refused, done}
use Rattle.pattern_grammar.specs.Answer.{EndsAt, SyntaxErrorAt, SyntaxError}
use Rattle.pattern_grammar.proofs.LeadsLemmas.{state_after-append, go_is, leads_past}
use Rattle.pattern_grammar.proofs.CompletionLemmas.{prefix_whole}
use Rattle.pattern_grammar.proofs.MachineLemmas.{run_pattern}
use Rattle.pattern_grammar.proofs.DerivesLemmas.{prefix_completes, completes_prefix}

-- what is spelled leads to the end
spelled_ends : {ts : List Token} {p : Tree} → IsPattern ts p → go (state_after (Some (expects_pattern [])) ts) [] ≡ Some []
spelled_ends x = (run_pattern x [] tt tt tt).proceed [] ∙ (leads_past thens [] tt).proceed []

dead : (ts : List Token) → state_after None ts ≡ None
dead [] = refl
dead (t ∷ ts) = dead ts

-- past a token that may not stand there is nothing
lost : (s : Option (List Expected)) (t : Token) (r more : List Token) → go s (t ∷ r) ≡ None → state_after s (t ∷ more) ≡ None
lost s t r more h = ap (λ o. state_after o more) (sym (go_is s t r) ∙ h) ∙ dead more

-- a list that continues where it may not isn't spelled
no_more : (read : List Token) (t : Token) (r more : List Token) → go (state_after (Some (expects_pattern [])) read) (t ∷ r) ≡ None → (p : Tree) → ¬ IsPattern (read ++ t ∷ more) p
no_more read t r more h p x =
    let e : state_after (Some (expects_pattern [])) (read ++ t ∷ more) ≡ None = state_after-append (Some (expects_pattern [])) read (t ∷ more) ∙ lost _ t r more h in
    let g : go None [] ≡ Some [] = ap (λ s. go s []) (sym e) ∙ spelled_ends x in
    absurd (cc)

ends_at : (read rest : List Token) → go (state_after (Some (expects_pattern [])) read) rest ≡ None → EndsAt read rest
ends_at read [] h = λ p x. let g : None ≡ Some [] = sym h ∙ spelled_ends x in absurd (cc)
ends_at read (t ∷ rest) h = λ x. let f = prefix_completes x in no_more read t rest f.more h f.value (rw append_assoc at f.spells)

pub syntax_error : {ts rest : List Token} → Stuck IsPattern expects_pattern ts rest → SyntaxErrorAt ts rest
syntax_error {rest = rest} s = record { read = s.read; all_are = s.all_are; prefix = completes_prefix s.prefix; ends = ends_at s.read rest (s.halts.stop []) }

pub syntax_error_in : (ts : List Token) (e : Stop) → Refused IsPattern expects_pattern ts e → SyntaxError ts e
syntax_error_in ts Memory h = tt
syntax_error_in ts (Syntax r) h = syntax_error h

-- tokens that are left don't fit
pub syntax_error_rest : {ts : List Token} (rest : List Token) {p : Tree} → Found IsPattern expects_pattern done ts p rest → (length rest == 0) ≡ false → SyntaxErrorAt ts rest
syntax_error_rest [] f h = absurd (cc)
syntax_error_rest (t ∷ rest) {p} f h = record { read = f.read; all_are = f.all_are; prefix = completes_prefix (prefix_whole p f.spells); ends = ends_at f.read (t ∷ rest) (f.leads.proceed []) }

none_left : (rest : List Token) → (length rest == 0) ≡ true → rest ≡ []
none_left [] h = refl
none_left (t ∷ rest) h = absurd (omega (arith, eqb-true _ _ h))

pub spells_whole : {ts rest : List Token} {p : Tree} → Found IsPattern expects_pattern done ts p rest → (length rest == 0) ≡ true → IsPattern ts p
spells_whole {rest = rest} f h = rw (f.all_are, none_left rest h, append-nil) f.spells

-- what is refused isn't spelled
pub syntax_error_unspelled : {ts rest : List Token} → SyntaxErrorAt ts rest → (p : Tree) → ¬ IsPattern ts p
syntax_error_unspelled {rest = []} m p x = m.ends p (let e = m.all_are ∙ append-nil m.read in rw e at x)
syntax_error_unspelled {rest = t ∷ rest} m p x = m.ends (completes_prefix (record { more = rest; value = p; spells = rw append_assoc (rw m.all_are at x) }))
