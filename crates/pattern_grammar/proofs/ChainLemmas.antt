-- Parts that are repeated, with a token between them or without, for any part.
use Rattle.std.proofs.Common.{◌≡◌, List, [], ◌∷◌, ◌++◌, Some, sym, ap, ◌∙◌, subst, append_assoc, arith, length, length-append, ◌<◌}
use Rattle.pattern_lexer.specs.declared.token.Token.{Token}
use Rattle.pattern_grammar.specs.declared.class.TokenClass.{TokenClass}
use Rattle.pattern_grammar.specs.TokenClass.{IsA}
use Rattle.pattern_grammar.specs.inner.Machine.{Expected, ExpectedLine, line, Tail, tail, opening, next}
use Rattle.pattern_grammar.specs.inner.Machine.{BeginsLine, Leads, Found, Stuck, done, open_for}
use Rattle.pattern_grammar.proofs.LeadsLemmas.{leads_then, halts_then, leads_before, halts_before, leads_token}
use Rattle.pattern_grammar.proofs.CompletionLemmas.{prefix_behind}

pub joined : {ts rest r1 : List Token} (read more r2 : List Token) (o : Token) → ts ≡ read ++ rest → rest ≡ o ∷ r1 → r1 ≡ more ++ r2 → ts ≡ (read ++ o ∷ more) ++ r2
joined read more r2 o a b c = a ∙ ap (λ r. read ++ r) (b ∙ ap (λ r. o ∷ r) c) ∙ sym (append_assoc read (o ∷ more) r2)

pub joined_to : {ts rest : List Token} (read more r2 : List Token) → ts ≡ read ++ rest → rest ≡ more ++ r2 → ts ≡ (read ++ more) ++ r2
joined_to read more r2 a c = a ∙ ap (λ r. read ++ r) c ∙ sym (append_assoc read more r2)

-- where the rest is put otherwise
pub leads_at : {f g : List Expected → List Expected} {x r : List Token} (q : List Token) → r ≡ q → Leads f g x r → Leads f g x q
leads_at {f} {g} {x} q e a = subst (λ (u : List Token). Leads f g x u) e a

-- a chain of links: its relation and its link's, the link's first expected, the tail, and how values are joined
pub record Chain {V : Type 0} (IsChain IsLink : List Token → V → Type 0) (link : List Expected → List Expected) (t : Tail) (join : V → V → V) : Type 0 where
  pub one : (ts : List Token) (v : V) → IsLink ts v → IsChain ts v
  pub more : (a b : List Token) (o : Token) (v w : V) → IsChain a v → IsA (opening t) o → IsLink b w → IsChain (a ++ o ∷ b) (join v w)
  pub again : (o : Token) (k : List Expected) → IsA (opening t) o → next (tail t ∷ k) o.kind ≡ Some (link (tail t ∷ k))

module _ {V : Type 0} {IsChain IsLink : List Token → V → Type 0} {link : List Expected → List Expected} {t : Tail} {join : V → V → V} (c : Chain IsChain IsLink link t join) where
  pub stuck_first : {ts rest : List Token} → Stuck IsLink link ts rest → Stuck IsChain (λ k. link (tail t ∷ k)) ts rest
  stuck_first s = record {
    read = s.read;
    all_are = s.all_are;
    prefix = record { more = s.prefix.more; value = s.prefix.value; spells = c.one _ s.prefix.value s.prefix.spells };
    halts = halts_before (open_for t) s.halts;
  }

  pub found_first : {ts rest : List Token} {v : V} → Found IsLink link done ts v rest → Found IsChain (λ k. link (tail t ∷ k)) (open_for t) ts v rest
  found_first {v = v} f = record { read = f.read; all_are = f.all_are; spells = c.one f.read v f.spells; leads = leads_before (open_for t) f.leads }

  pub stuck_later : {ts rest r1 r2 : List Token} {v : V} (o : Token) → Found IsChain (λ k. link (tail t ∷ k)) (open_for t) ts v rest → BeginsLine (opening t) o rest r1 → Stuck IsLink link r1 r2 → Stuck IsChain (λ k. link (tail t ∷ k)) ts r2
  stuck_later {r2 = r2} {v = v} o f b s = record {
    read = f.read ++ o ∷ s.read;
    all_are = joined f.read s.read r2 o f.all_are b.all_are s.all_are;
    prefix = record { more = s.prefix.more; value = join v s.prefix.value; spells = rw append_assoc (c.more f.read (s.read ++ s.prefix.more) o v s.prefix.value f.spells b.of_class s.prefix.spells) };
    halts = halts_then f.read (o ∷ s.read) r2
        (leads_at (o ∷ s.read ++ r2) (b.all_are ∙ ap (λ r. o ∷ r) s.all_are) f.leads)
        (halts_then (o ∷ []) s.read r2 (leads_token o (s.read ++ r2) (λ k. c.again o k b.of_class)) (halts_before (open_for t) s.halts));
  }

  pub found_later : {ts rest r1 r2 : List Token} {v w : V} (o : Token) → Found IsChain (λ k. link (tail t ∷ k)) (open_for t) ts v rest → BeginsLine (opening t) o rest r1 → Found IsLink link done r1 w r2 → Found IsChain (λ k. link (tail t ∷ k)) (open_for t) ts (join v w) r2
  found_later {r2 = r2} {v = v} {w = w} o f b g = record {
    read = f.read ++ o ∷ g.read;
    all_are = joined f.read g.read r2 o f.all_are b.all_are g.all_are;
    spells = c.more f.read g.read o v w f.spells b.of_class g.spells;
    leads = leads_then f.read (o ∷ g.read) r2
        (leads_at (o ∷ g.read ++ r2) (b.all_are ∙ ap (λ r. o ∷ r) g.all_are) f.leads)
        (leads_then (o ∷ []) g.read r2 (leads_token o (g.read ++ r2) (λ k. c.again o k b.of_class)) (leads_before (open_for t) g.leads));
  }

-- parts that follow one another
pub record Repeat {V W : Type 0} (IsMany : List Token → V → Type 0) (IsPart : List Token → W → Type 0) (l : ExpectedLine) (t : Tail) (join : V → W → V) : Type 0 where
  pub more : (a b : List Token) (v : V) (w : W) → IsMany a v → IsPart b w → IsMany (a ++ b) (join v w)
  pub enters : (o : Token) (k : List Expected) → IsA (opening t) o → next (tail t ∷ k) o.kind ≡ next (line l ∷ tail t ∷ k) o.kind

module _ {V W : Type 0} {IsMany : List Token → V → Type 0} {IsPart : List Token → W → Type 0} {l : ExpectedLine} {t : Tail} {join : V → W → V} (c : Repeat IsMany IsPart l t join) where
  -- another part may stand where it begins
  inside : {rest r1 : List Token} (o : Token) → BeginsLine (opening t) o rest r1 → Leads (open_for t) (λ k. line l ∷ tail t ∷ k) [] rest
  inside {r1 = r1} o b = leads_at _ (sym b.all_are) (record { proceed = λ k. c.enters o k b.of_class })

  pub stuck_further : {before : List Expected → List Expected} {ts rest r1 r2 : List Token} {v : V} (o : Token) → Found IsMany before (open_for t) ts v rest → BeginsLine (opening t) o rest r1 → Stuck IsPart (λ k. line l ∷ k) rest r2 → Stuck IsMany before ts r2
  stuck_further {r2 = r2} {v = v} o f b s = record {
    read = f.read ++ s.read;
    all_are = joined_to f.read s.read r2 f.all_are s.all_are;
    prefix = prefix_behind f.read s.read (join v) (λ us w x. c.more f.read us v w f.spells x) s.prefix;
    halts = halts_then f.read s.read r2 (leads_at (s.read ++ r2) s.all_are f.leads)
        (halts_then [] s.read r2 (leads_at (s.read ++ r2) s.all_are (inside o b)) (halts_before (open_for t) s.halts));
  }

  pub found_further : {before : List Expected → List Expected} {ts rest r1 r2 : List Token} {v : V} {w : W} (o : Token) → Found IsMany before (open_for t) ts v rest → BeginsLine (opening t) o rest r1 → Found IsPart (λ k. line l ∷ k) done rest w r2 → Found IsMany before (open_for t) ts (join v w) r2
  found_further {r2 = r2} {v = v} {w = w} o f b g = record {
    read = f.read ++ g.read;
    all_are = joined_to f.read g.read r2 f.all_are g.all_are;
    spells = c.more f.read g.read v w f.spells g.spells;
    leads = leads_then f.read g.read r2 (leads_at (g.read ++ r2) g.all_are f.leads)
        (leads_then [] g.read r2 (leads_at (g.read ++ r2) g.all_are (inside o b)) (leads_before (open_for t) g.leads));
  }

-- what is left is shorter
pub begun_shorter : {class : TokenClass} {ts rest : List Token} (o : Token) → BeginsLine class o ts rest → length rest < length ts
begun_shorter o b = omega (arith, ap length b.all_are)

pub link_shorter : {class : TokenClass} {V : Type 0} {Spells : List Token → V → Type 0} {before after : List Expected → List Expected} {ts r1 rest : List Token} {v : V} (o : Token) → BeginsLine class o ts r1 → Found Spells before after r1 v rest → length rest < length ts
link_shorter {rest = rest} o b f = omega (arith, ap length b.all_are, ap length f.all_are, length-append f.read rest)

pub later_shorter : {class : TokenClass} {V : Type 0} {Spells : List Token → V → Type 0} {before after : List Expected → List Expected} {ts rest r1 : List Token} {v : V} (o : Token) → Found Spells before after ts v rest → BeginsLine class o rest r1 → length r1 < length ts
later_shorter {rest = rest} o f b = omega (arith, ap length f.all_are, length-append f.read rest, ap length b.all_are)
