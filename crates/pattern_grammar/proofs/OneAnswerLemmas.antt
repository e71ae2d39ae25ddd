-- Tokens spell a tree, or are refused in one way.
use Rattle.std.proofs.Common.{◌≡◌, ℕ, List, [], ◌∷◌, ◌++◌, inl, inr, refl, sym, ap, subst, ◌∙◌, append_assoc, append-nil}
use Rattle.pattern_lexer.specs.declared.token.Token.{Token}
use Rattle.pattern_grammar.specs.declared.refusal.SyntaxRefusal.{SyntaxRefusal}
use Rattle.pattern_grammar.specs.declared.refusal.SyntaxRefusal.TheVariants.{Syntax, TooDeep}
use Rattle.pattern_grammar.specs.Tree.{Tree}
use Rattle.pattern_grammar.specs.Answer.{BeginsPattern, EndsAt, SyntaxErrorAt}
use Rattle.pattern_grammar.specs.Depth.{FirstTooMany}
use Rattle.pattern_grammar.specs.Answer.{offset, SyntaxAt, DeepAt, IsMisread, IsTreeOf}
use Rattle.pattern_grammar.proofs.CutLemmas.{Longer, cut}
use Rattle.pattern_grammar.proofs.DerivesLemmas.{prefix_completes, completes_prefix}
use Rattle.pattern_grammar.proofs.DepthLemmas.{split_through}
use Rattle.pattern_grammar.proofs.EndsAtLemmas.{syntax_error_unspelled}

-- what begins the beginning of a pattern begins a pattern
begins_less : (ts more : List Token) → BeginsPattern (ts ++ more) → BeginsPattern ts
begins_less ts more x = let f = prefix_completes x in completes_prefix (record { more = more ++ f.more; value = f.value; spells = rw (← append_assoc ts more f.more) f.spells })

-- what begins a pattern doesn't go past where another prefix of the same tokens ends
not_past : (x y ts more between : List Token) → x ≡ ts ++ between → more ≡ between ++ y → BeginsPattern x → EndsAt ts more → between ≡ []
not_past x y ts more [] e h prefix ends = refl
not_past x y ts more (t ∷ between) e h prefix ends =
    let begins : BeginsPattern (ts ++ t ∷ []) = begins_less (ts ++ t ∷ []) between (subst BeginsPattern (e ∙ sym (append_assoc ts (t ∷ []) between)) prefix) in
    absurd ((subst (EndsAt ts) h ends) begins)

longer_ends : {x y ts more : List Token} → Longer x y ts more → BeginsPattern x → EndsAt ts more → (x ≡ ts) × (y ≡ more)
longer_ends {x} {y} {ts} {more} l prefix ends =
    let e = not_past x y ts more l.between l.longer l.left prefix ends in
    (l.longer ∙ ap (λ z. ts ++ z) e ∙ append-nil ts, sym (l.left ∙ ap (λ z. z ++ y) e))

-- prefixes of the same tokens end at the same place
one_rest : {ts first second : List Token} → SyntaxErrorAt ts first → SyntaxErrorAt ts second → first ≡ second
one_rest {ts} {first} {second} m n =
    elim (cut m.read first n.read second (sym m.all_are ∙ n.all_are)) [ inl l ↦ (longer_ends l m.prefix n.ends).1 | inr l ↦ sym (longer_ends l n.prefix m.ends).1 ]

-- a prefix through the first token that is one too many is no syntax error before it
not_both : {ts : List Token} (end at there : ℕ) → SyntaxAt ts end at → DeepAt ts there → ⊥
not_both {ts} end at there s d =
    let through : List Token = d.first.before ++ d.first.token ∷ [] in
    elim (cut through d.first.after s.syntax_error.read s.rest (sym (split_through d.first) ∙ s.syntax_error.all_are)) [
      | inl l ↦ s.shallow d.first.before d.first.token [] (sym (longer_ends l d.prefix s.syntax_error.ends).0) d.first.too_many
      | inr l ↦ s.shallow d.first.before d.first.token l.between (l.longer ∙ append_assoc d.first.before (d.first.token ∷ []) l.between) d.first.too_many
    ]

pub not_misread : (ts : List Token) (end : ℕ) (p : Tree) (refusal : SyntaxRefusal) → IsTreeOf ts p → ¬ IsMisread ts end refusal
not_misread ts end p (Syntax at) x m = syntax_error_unspelled m.syntax_error p x.spells
not_misread ts end p (TooDeep at) x m = x.shallow m.first.before m.first.token m.first.after m.first.spelled m.first.too_many

-- one token is the first
same_first : {ts : List Token} (a b : FirstTooMany ts) (between : List Token) → a.before ≡ b.before ++ between → b.token ∷ b.after ≡ between ++ a.token ∷ a.after → a.token ≡ b.token
same_first a b [] e h = cc
same_first a b (t ∷ between) e h = let same : b.token ≡ t = cc in absurd (a.none_before b.before b.token between (rw same e) b.too_many)

one_first : {ts : List Token} (a b : FirstTooMany ts) → a.token ≡ b.token
one_first a b =
    elim (cut a.before (a.token ∷ a.after) b.before (b.token ∷ b.after) (sym a.spelled ∙ b.spelled)) [ inl l ↦ same_first a b l.between l.longer l.left | inr l ↦ sym (same_first b a l.between l.longer l.left) ]

pub one_refusal : (ts : List Token) (end : ℕ) (first second : SyntaxRefusal) → IsMisread ts end first → IsMisread ts end second → first ≡ second
one_refusal ts end (Syntax at) (Syntax there) x y = ap (λ n. Syntax n) (x.here ∙ ap (λ rest. offset rest end) (one_rest x.syntax_error y.syntax_error) ∙ sym y.here)
one_refusal ts end (Syntax at) (TooDeep there) x y = absurd (not_both end at there x y)
one_refusal ts end (TooDeep at) (Syntax there) x y = absurd (not_both end there at y x)
one_refusal ts end (TooDeep at) (TooDeep there) x y = ap (λ n. TooDeep n) (x.here ∙ ap (λ t. t.from) (one_first x.first y.first) ∙ sym y.here)
