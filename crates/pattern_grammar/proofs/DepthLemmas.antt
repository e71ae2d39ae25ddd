-- Reading up to the first token that is one too many.
use Rattle.std.proofs.Common.{◌≡◌, ◌+◌, ◌<◌, ◌≤◌, ℕ, List, [], ◌∷◌, ◌++◌, length, take, drop, get_or, Bor, refl, sym, ap, subst, ◌∙◌, arith, append_assoc, append-nil, length-append, length-take-le, take-append-drop}
use Rattle.std.proofs.lemmas.List.{take_at, take_more, get_or_at}
use Rattle.pattern_lexer.specs.declared.token.Token.{Token}
use Rattle.pattern_grammar.specs.declared.stop.Stop.{Stop}
use Rattle.pattern_grammar.specs.declared.stop.Stop.TheVariants.{Syntax}
use Rattle.pattern_grammar.specs.Tree.{Tree}
use Rattle.pattern_grammar.specs.Grammar.{IsPattern}
use Rattle.pattern_grammar.specs.Answer.{BeginsPattern, SyntaxErrorAt, SyntaxError}
use Rattle.pattern_grammar.specs.Depth.{IsTooMany, NoneTooMany, FirstTooMany, IsShallow}
use Rattle.pattern_grammar.specs.Answer.{offset, SyntaxAt, DeepAt}
use Rattle.pattern_grammar.specs.inner.Machine.{IsFirstAt}
use Rattle.pattern_grammar.proofs.CompletionLemmas.{prefix_whole}
use Rattle.pattern_grammar.proofs.DerivesLemmas.{completes_prefix}

-- where a token stands in a list with one more after it: it is that one, or stands before it
pub data Standing (ts : List Token) (last : Token) (before : List Token) (token : Token) (after : List Token) : Type 0 where
  behind : ts ≡ before → last ≡ token → after ≡ [] → Standing ts last before token after
  within : (between : List Token) → ts ≡ before ++ token ∷ between → Standing ts last before token after

pub standing : (ts : List Token) (last : Token) (before : List Token) (token : Token) (after : List Token) → ts ++ last ∷ [] ≡ before ++ token ∷ after → Standing ts last before token after
standing [] last [] token after e = behind refl (cc) (cc)
standing [] last (b ∷ before) token after e = let n = ap length e in absurd (omega (arith, n, length-append before (token ∷ after)))
standing (t ∷ ts) last [] token after e = let h : t ≡ token = cc in within ts (cc)
standing (t ∷ ts) last (b ∷ before) token after e =
    let h : t ≡ b = cc in
    let g : ts ++ last ∷ [] ≡ before ++ token ∷ after = cc in
    further (standing ts last before token after g)
  where
    further : Standing ts last before token after → Standing (t ∷ ts) last (b ∷ before) token after
    further (behind p q r) = behind (cc) q r
    further (within between p) = within between (cc)

-- none in the beginning of a list, and none in a list with one more
pub none_less : (ts more : List Token) → NoneTooMany (ts ++ more) → NoneTooMany ts
none_less ts more none before token after e = none before token (after ++ more) (ap (λ x. x ++ more) e ∙ append_assoc before (token ∷ after) more)

pub none_more : (ts : List Token) (last : Token) → NoneTooMany ts → ¬ IsTooMany ts last → NoneTooMany (ts ++ last ∷ [])
none_more ts last none few before token after e h = nowhere (standing ts last before token after e)
  where
    nowhere : Standing ts last before token after → ⊥
    nowhere (behind p q r) = few (rw (p, q) h)
    nowhere (within between p) = none before token between p h

pub none_nothing : NoneTooMany []
none_nothing before token after e h = let n = ap length e in absurd (omega (arith, n, length-append before (token ∷ after)))

-- the tokens through the first that is one too many
pub through_shallow : {ts : List Token} (first : FirstTooMany ts) → IsShallow (first.before ++ first.token ∷ [])
through_shallow first before token after e h = last (standing first.before first.token before token after e)
  where
    last : Standing first.before first.token before token after → after ≡ []
    last (behind p q r) = r
    last (within between p) = absurd (first.none_before before token between p h)

pub split_through : {ts : List Token} (first : FirstTooMany ts) → ts ≡ (first.before ++ first.token ∷ []) ++ first.after
split_through first = first.spelled ∙ sym (append_assoc first.before (first.token ∷ []) first.after)

pub take_through : (ts : List Token) (n : ℕ) → (first : IsFirstAt ts n) → take (n + 1) ts ≡ first.0.before ++ first.0.token ∷ []
take_through ts n (first, size) = ap (take (n + 1)) (split_through first) ∙ take_at (first.before ++ first.token ∷ []) first.after (n + 1) (omega (arith, length-append first.before (first.token ∷ []), size))

prefix_shallow : {ts : List Token} (first : FirstTooMany ts) (read rest : List Token) (t : Token) → first.before ++ first.token ∷ [] ≡ read ++ t ∷ rest → NoneTooMany read
prefix_shallow first read rest t e = less (standing first.before first.token read t rest e)
  where
    less : Standing first.before first.token read t rest → NoneTooMany read
    less (behind p q r) = subst NoneTooMany p first.none_before
    less (within between p) = none_less read (t ∷ between) (subst NoneTooMany p first.none_before)

-- what ends before the cut ends there without it
syntax_cut : {ts rest : List Token} {t : Token} (first : FirstTooMany ts) (end : ℕ) → SyntaxErrorAt (first.before ++ first.token ∷ []) (t ∷ rest) → SyntaxAt ts end t.from
syntax_cut {ts} {rest} {t} first end m = record {
  rest = t ∷ rest ++ first.after;
  syntax_error = record {
    read = m.read;
    all_are = split_through first ∙ ap (λ x. x ++ first.after) m.all_are ∙ append_assoc m.read (t ∷ rest) first.after;
    prefix = m.prefix;
    ends = m.ends;
  };
  shallow = prefix_shallow first m.read rest t m.all_are;
  here = refl;
}

-- where reading stops before the cut, and where it doesn't
at_syntax : {ts : List Token} (e : Stop) (r : Bor (List Token)) → SyntaxError ts e → e ≡ Syntax r → SyntaxErrorAt ts r.now
at_syntax e r m h = rw h at m

pub syntax_none : {ts : List Token} (e : Stop) (r : Bor (List Token)) (end at : ℕ) → SyntaxError ts e → e ≡ Syntax r → NoneTooMany ts → at ≡ offset r.now end → SyntaxAt ts end at
syntax_none {ts} e r end at m h none here =
    let f = at_syntax e r m h in
    record { rest = r.now; syntax_error = f; shallow = none_less f.read r.now (subst NoneTooMany f.all_are none); here = here }

pub syntax_at : (ts : List Token) (n : ℕ) (e : Stop) (r : Bor (List Token)) (d : Token) → IsFirstAt ts n → SyntaxError (take (n + 1) ts) e → e ≡ Syntax r → 1 ≤ length r.now → (end : ℕ) → SyntaxAt ts end (get_or r.now 0 d).from
syntax_at ts n e r d f m h k end = some_there r.now (rw (take_through ts n f) at (at_syntax e r m h)) k
  where
    some_there : (us : List Token) → SyntaxErrorAt (f.0.before ++ f.0.token ∷ []) us → 1 ≤ length us → SyntaxAt ts end (get_or us 0 d).from
    some_there [] g i = absurd (omega arith)
    some_there (u ∷ us) g i = syntax_cut f.0 end g

deep_from : (ts : List Token) (n : ℕ) (d : Token) → IsFirstAt ts n → BeginsPattern (take (n + 1) ts) → DeepAt ts (get_or ts n d).from
deep_from ts n d (first, size) begins = record {
  first = first;
  prefix = subst BeginsPattern (take_through ts n (first, size)) begins;
  here = ap (λ t. t.from) (ap (λ x. get_or x n d) first.spelled ∙ get_or_at first.before first.token first.after d n (sym size));
}

pub deep_spelled : (ts : List Token) (n : ℕ) (d : Token) (q : Tree) → IsFirstAt ts n → IsPattern (take (n + 1) ts) q → DeepAt ts (get_or ts n d).from
deep_spelled ts n d q f x = deep_from ts n d f (completes_prefix (prefix_whole q x))

none_there : (ts : List Token) → length ts < 1 → ts ≡ []
none_there [] h = refl
none_there (t ∷ ts) h = absurd (omega arith)

pub deep_empty : (ts : List Token) (n : ℕ) (d : Token) (e : Stop) (r : Bor (List Token)) → IsFirstAt ts n → SyntaxError (take (n + 1) ts) e → e ≡ Syntax r → length r.now < 1 → DeepAt ts (get_or ts n d).from
deep_empty ts n d e r f m h k =
    let g : SyntaxErrorAt (take (n + 1) ts) [] = rw (none_there r.now k) at (at_syntax e r m h) in
    deep_from ts n d f (subst BeginsPattern (sym (g.all_are ∙ append-nil g.read)) g.prefix)

-- one token more
pub first_at : (ts : List Token) (n : ℕ) (d : Token) → n < length ts → NoneTooMany (take n ts) → IsTooMany (take n ts) (get_or ts n d) → IsFirstAt ts n
first_at ts n d h none many = (
  record {
    before = take n ts;
    token = get_or ts n d;
    after = drop (n + 1) ts;
    spelled = sym (take-append-drop (n + 1) ts) ∙ ap (λ x. x ++ drop (n + 1) ts) (take_more ts n d h) ∙ append_assoc (take n ts) (get_or ts n d ∷ []) (drop (n + 1) ts);
    none_before = none;
    too_many = many;
  },
  sym (length-take-le n ts (omega arith)),
)

pub none_through : (ts : List Token) (n : ℕ) (d : Token) → n < length ts → NoneTooMany (take n ts) → ¬ IsTooMany (take n ts) (get_or ts n d) → NoneTooMany (take (n + 1) ts)
none_through ts n d h none few = subst NoneTooMany (sym (take_more ts n d h)) (none_more (take n ts) (get_or ts n d) none few)
