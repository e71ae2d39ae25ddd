-- A text is read in one way.
use Rattle.std.proofs.Common.{◌≡◌, ℕ, ◌-◌, inl, inr, List, [], ◌∷◌, ◌++◌, length, All, Option, Some, None, Result, Ok, Err, refl, sym, ap, ◌∙◌, subst, arith, append_assoc}
use Rattle.std.proofs.lemmas.List.Elements.{All-head, All-tail}
use Rattle.pattern_lexer.specs.declared.token.Token.{Token}
use Rattle.pattern_lexer.specs.declared.token.TokenKind.{TokenKind}
use Rattle.pattern_lexer.specs.declared.token.TokenKind.TheVariants.{Word, Equal, Less, Number, Hex, Binary, Timestamp}
use Rattle.pattern_lexer.specs.declared.refusal.LeftWord.{LeftWord}
use Rattle.pattern_lexer.specs.declared.refusal.LeftWord.TheVariants.{Matches, Fraction, DoubleEqual, LessGreater}
use Rattle.pattern_lexer.specs.declared.refusal.TokenRefusal.{TokenRefusal}
use Rattle.pattern_lexer.specs.declared.refusal.TokenRefusal.TheVariants.{BadToken, LeftOut, BadNumber, BadTime, BadBytes}
use Rattle.pattern_lexer.specs.Word.{HasAt}
use Rattle.pattern_lexer.specs.Table.{IsToken}
use Rattle.pattern_lexer.specs.Values.{HasValue}
use Rattle.pattern_lexer.specs.Reading.{IsBlank, IsFirst, RunsOn, IsUnsupported, IsUsable, IsNextToken, AreTokens, HasNoToken, IsUnterminated, IsUnsupportedToken, IsInvalidValue, IsRefusalAt, HasRefusal, ReadsTokens}
use Rattle.pattern_lexer.specs.inner.Steps.{invalid_value_refusal}
use Rattle.pattern_lexer.proofs.OneKindLemmas.{kind_of, kind_is, one_first, carry, token_not_blank}

-- blanks before what is no blank
split_blanks : (a b x y : List ℕ) → a ++ x ≡ b ++ y → All IsBlank a → All IsBlank b → HasAt 0 (λ c. ¬ IsBlank c) x → HasAt 0 (λ c. ¬ IsBlank c) y → (a ≡ b) × (x ≡ y)
split_blanks [] [] x y e p q n m = (refl, e)
split_blanks [] (b ∷ bs) x y e p q n m = absurd ((subst (λ (l : List ℕ). HasAt 0 (λ c. ¬ IsBlank c) l) e n) (All-head IsBlank b bs q))
split_blanks (a ∷ cs) [] x y e p q n m = absurd ((subst (λ (l : List ℕ). HasAt 0 (λ c. ¬ IsBlank c) l) (sym e) m) (All-head IsBlank a cs p))
split_blanks (a ∷ cs) (b ∷ bs) x y e p q n m =
    let same : a ≡ b = cc in
    let tails : cs ++ x ≡ bs ++ y = cc in
    let h = split_blanks cs bs x y tails (All-tail IsBlank a cs p) (All-tail IsBlank b bs q) n m in
    let rest : cs ≡ bs = h.0 in
    (cc, h.1)

blanks_alone : (blanks rest : List ℕ) → All IsBlank (blanks ++ rest) → HasAt 0 (λ c. ¬ IsBlank c) rest → ⊥
blanks_alone [] [] all h = h
blanks_alone [] (c ∷ rest) all h = h (All-head IsBlank c rest all)
blanks_alone (b ∷ blanks) rest all h = blanks_alone blanks rest (All-tail IsBlank b (blanks ++ rest) all) h

-- one next token
same_token : (t u : Token) → t.kind ≡ u.kind → t.from ≡ u.from → t.to ≡ u.to → t ≡ u
same_token t u p q r =
    ap (λ (k : TokenKind). record t { kind = k }) p
    ∙ ap (λ (n : ℕ). record u { from = n; to = t.to }) q
    ∙ ap (λ (n : ℕ). record u { to = n }) r

next_spelled : (at : ℕ) (left : List ℕ) (t : Token) (a : List ℕ) → (n : IsNextToken at left t a) → left ≡ n.blanks ++ (n.text ++ a)
next_spelled at left t a n = n.spelled ∙ append_assoc n.blanks n.text a

one_next : (at : ℕ) (left : List ℕ) (t u : Token) (a b : List ℕ) → IsNextToken at left t a → IsNextToken at left u b → (t ≡ u) × (a ≡ b)
one_next at left t u a b x y =
    let e = split_blanks x.blanks y.blanks (x.text ++ a) (y.text ++ b) (sym (next_spelled at left t a x) ∙ next_spelled at left u b y) x.blank y.blank (token_not_blank t.kind x.text a x.first.token) (token_not_blank u.kind y.text b y.first.token) in
    let first = subst (λ (l : List ℕ). IsFirst l u.kind y.text b) (sym e.1) y.first in
    let same = one_first (x.text ++ a) t.kind u.kind x.text y.text a b x.first first in
    let n : length x.blanks ≡ length y.blanks = ap length e.0 in
    let m : length x.text ≡ length y.text = ap length same.text in
    let from1 = x.from in
    let from2 = y.from in
    let to1 = x.to in
    let to2 = y.to in
    let from : t.from ≡ u.from = omega arith in
    (same_token t u same.kind from (omega arith), same.after)

-- why a token that begins a text is refused
pub data Why : ℕ → List ℕ → TokenRefusal → Type 0 where
  no_token : {place : ℕ} {whole : List ℕ} {refusal : TokenRefusal} → HasNoToken whole → refusal ≡ BadToken place → Why place whole refusal
  endless : {place : ℕ} {whole : List ℕ} {refusal : TokenRefusal} → IsUnterminated whole → refusal ≡ BadToken place → Why place whole refusal
  useless : {place : ℕ} {whole : List ℕ} {refusal : TokenRefusal} (word : LeftWord) → IsUnsupportedToken whole word → refusal ≡ LeftOut place word → Why place whole refusal
  invalid_value : {place : ℕ} {whole : List ℕ} {refusal : TokenRefusal} (kind : TokenKind) → IsInvalidValue whole kind → refusal ≡ invalid_value_refusal kind place → Why place whole refusal

why : (place : ℕ) (whole : List ℕ) (refusal : TokenRefusal) → IsRefusalAt place whole refusal → Why place whole refusal
why place whole (BadToken at) (e, inl h) = no_token h (ap (λ (n : ℕ). BadToken n) e)
why place whole (BadToken at) (e, inr h) = endless h (ap (λ (n : ℕ). BadToken n) e)
why place whole (LeftOut at word) h = useless word h.1 (ap (λ (n : ℕ). LeftOut n word) h.0)
why place whole (BadNumber at) h = invalid_value Number h.1 (ap (λ (n : ℕ). BadNumber n) h.0)
why place whole (BadTime at) h = invalid_value Timestamp h.1 (ap (λ (n : ℕ). BadTime n) h.0)
why place whole (BadBytes at) (e, inl h) = invalid_value Hex h (ap (λ (n : ℕ). BadBytes n) e)
why place whole (BadBytes at) (e, inr h) = invalid_value Binary h (ap (λ (n : ℕ). BadBytes n) e)

matches_word : (kind : TokenKind) (text : List ℕ) → IsToken kind text → text ≡ 77 ∷ 65 ∷ 84 ∷ 67 ∷ 72 ∷ 69 ∷ 83 ∷ [] → kind ≡ Word
matches_word kind text token e = sym (kind_is kind text token) ∙ ap kind_of e

one_left : (a b : LeftWord) (kind : TokenKind) (text after : List ℕ) → IsToken kind text → IsUnsupported a kind text after → IsUnsupported b kind text after → a ≡ b
one_left Matches Matches kind text after t x y = refl
one_left Matches Fraction kind text after t x y = let h : Word ≡ Number = sym (matches_word kind text t x) ∙ y.0 in absurd (cc)
one_left Matches DoubleEqual kind text after t x y = let h : Word ≡ Equal = sym (matches_word kind text t x) ∙ y.0 in absurd (cc)
one_left Matches LessGreater kind text after t x y = let h : Word ≡ Less = sym (matches_word kind text t x) ∙ y.0 in absurd (cc)
one_left Fraction Matches kind text after t x y = let h : Number ≡ Word = sym (x.0) ∙ matches_word kind text t y in absurd (cc)
one_left Fraction Fraction kind text after t x y = refl
one_left Fraction DoubleEqual kind text after t x y = let h : Number ≡ Equal = sym (x.0) ∙ y.0 in absurd (cc)
one_left Fraction LessGreater kind text after t x y = let h : Number ≡ Less = sym (x.0) ∙ y.0 in absurd (cc)
one_left DoubleEqual Matches kind text after t x y = let h : Equal ≡ Word = sym (x.0) ∙ matches_word kind text t y in absurd (cc)
one_left DoubleEqual Fraction kind text after t x y = let h : Equal ≡ Number = sym (x.0) ∙ y.0 in absurd (cc)
one_left DoubleEqual DoubleEqual kind text after t x y = refl
one_left DoubleEqual LessGreater kind text after t x y = let h : Equal ≡ Less = sym (x.0) ∙ y.0 in absurd (cc)
one_left LessGreater Matches kind text after t x y = let h : Less ≡ Word = sym (x.0) ∙ matches_word kind text t y in absurd (cc)
one_left LessGreater Fraction kind text after t x y = let h : Less ≡ Number = sym (x.0) ∙ y.0 in absurd (cc)
one_left LessGreater DoubleEqual kind text after t x y = let h : Less ≡ Equal = sym (x.0) ∙ y.0 in absurd (cc)
one_left LessGreater LessGreater kind text after t x y = refl

one_why : (place : ℕ) (whole : List ℕ) (r s : TokenRefusal) → Why place whole r → Why place whole s → r ≡ s
one_why place whole r s (no_token h e) (no_token g f) = cc
one_why place whole r s (no_token h e) (endless g f) = cc
one_why place whole r s (no_token h e) (useless w g f) = absurd (h g.kind g.text g.after g.first.spelled g.first.token)
one_why place whole r s (no_token h e) (invalid_value k g f) = absurd (h k g.text g.after g.first.spelled g.first.token)
one_why place whole r s (endless h e) (no_token g f) = cc
one_why place whole r s (endless h e) (endless g f) = cc
one_why place whole r s (endless h e) (useless w g f) = absurd (g.ends (carry (λ k t a. RunsOn k a) whole h.kind g.kind h.text g.text h.after g.after h.first g.first h.runs_on))
one_why place whole r s (endless h e) (invalid_value k g f) = absurd (g.usable.ends (carry (λ k t a. RunsOn k a) whole h.kind k h.text g.text h.after g.after h.first g.first h.runs_on))
one_why place whole r s (useless v h e) (no_token g f) = absurd (g h.kind h.text h.after h.first.spelled h.first.token)
one_why place whole r s (useless v h e) (endless g f) = absurd (h.ends (carry (λ k t a. RunsOn k a) whole g.kind h.kind g.text h.text g.after h.after g.first h.first g.runs_on))
one_why place whole r s (useless v h e) (useless w g f) =
    let same : v ≡ w = one_left v w g.kind g.text g.after g.first.token (carry (λ k t a. IsUnsupported v k t a) whole h.kind g.kind h.text g.text h.after g.after h.first g.first h.left_out) g.left_out in
    e ∙ ap (λ (x : LeftWord). LeftOut place x) same ∙ sym f
one_why place whole r s (useless v h e) (invalid_value k g f) = absurd (g.usable.used v (carry (λ k t a. IsUnsupported v k t a) whole h.kind k h.text g.text h.after g.after h.first g.first h.left_out))
one_why place whole r s (invalid_value k h e) (no_token g f) = absurd (g k h.text h.after h.first.spelled h.first.token)
one_why place whole r s (invalid_value k h e) (endless g f) = absurd (h.usable.ends (carry (λ k t a. RunsOn k a) whole g.kind k g.text h.text g.after h.after g.first h.first g.runs_on))
one_why place whole r s (invalid_value k h e) (useless w g f) = absurd (h.usable.used w (carry (λ k t a. IsUnsupported w k t a) whole g.kind k g.text h.text g.after h.after g.first h.first g.left_out))
one_why place whole r s (invalid_value k h e) (invalid_value l g f) =
    e ∙ ap (λ (x : TokenKind). invalid_value_refusal x place) (one_first whole k l h.text g.text h.after g.after h.first g.first).kind ∙ sym f

-- a token without refusal has none
no_fault : (place : ℕ) (whole : List ℕ) (r : TokenRefusal) (kind : TokenKind) (text after : List ℕ) → Why place whole r → IsFirst whole kind text after → IsUsable kind text after → HasValue kind text → ⊥
no_fault place whole r kind text after (no_token h e) first usable value = h kind text after first.spelled first.token
no_fault place whole r kind text after (endless h e) first usable value = usable.ends (carry (λ k t a. RunsOn k a) whole h.kind kind h.text text h.after after h.first first h.runs_on)
no_fault place whole r kind text after (useless w h e) first usable value = usable.used w (carry (λ k t a. IsUnsupported w k t a) whole h.kind kind h.text text h.after after h.first first h.left_out)
no_fault place whole r kind text after (invalid_value k h e) first usable value = h.invalid_value (carry (λ k t a. HasValue k t) whole kind k text h.text after h.after first h.first value)

-- how a reading ends: with blanks, or with a refusal after them
pub record Faulty (size : ℕ) (rest : List ℕ) (refusal : TokenRefusal) : Type 0 where
  pub blanks : List ℕ
  pub left : List ℕ
  pub spelled : rest ≡ blanks ++ left
  pub blank : All IsBlank blanks
  pub begins : HasAt 0 (λ c. ¬ IsBlank c) left
  pub refused : IsRefusalAt (size - length left) left refusal

abbrev End : ℕ → List ℕ → Option TokenRefusal → Type 0
End size rest None = All IsBlank rest
End size rest (Some refusal) = Faulty size rest refusal

one_end : (size : ℕ) (rest : List ℕ) (a b : Option TokenRefusal) → End size rest a → End size rest b → a ≡ b
one_end size rest None None x y = refl
one_end size rest None (Some s) x y = absurd (blanks_alone y.blanks y.left (subst (λ (l : List ℕ). All IsBlank l) y.spelled x) y.begins)
one_end size rest (Some r) None x y = absurd (blanks_alone x.blanks x.left (subst (λ (l : List ℕ). All IsBlank l) x.spelled y) x.begins)
one_end size rest (Some r) (Some s) x y =
    let e = split_blanks x.blanks y.blanks x.left y.left (sym x.spelled ∙ y.spelled) x.blank y.blank x.begins y.begins in
    let refused = subst (λ (l : List ℕ). IsRefusalAt (size - length l) l s) (sym e.1) y.refused in
    ap (λ (p : TokenRefusal). Some p) (one_why (size - length x.left) x.left r s (why (size - length x.left) x.left r x.refused) (why (size - length x.left) x.left s refused))

no_next : (size at : ℕ) (left : List ℕ) (o : Option TokenRefusal) (t : Token) (a : List ℕ) → End size left o → IsNextToken at left t a → ⊥
no_next size at left None t a x n = blanks_alone n.blanks (n.text ++ a) (subst (λ (l : List ℕ). All IsBlank l) (next_spelled at left t a n) x) (token_not_blank t.kind n.text a n.first.token)
no_next size at left (Some r) t a x n =
    let e = split_blanks x.blanks n.blanks x.left (n.text ++ a) (sym x.spelled ∙ next_spelled at left t a n) x.blank n.blank x.begins (token_not_blank t.kind n.text a n.first.token) in
    let first = subst (λ (l : List ℕ). IsFirst l t.kind n.text a) (sym e.1) n.first in
    no_fault (size - length x.left) x.left r t.kind n.text a (why (size - length x.left) x.left r x.refused) first n.usable n.value

one_run : (size at : ℕ) (left : List ℕ) (ts us : List Token) (x y : List ℕ) (a b : Option TokenRefusal) → AreTokens at left ts x → End size x a → AreTokens at left us y → End size y b → (ts ≡ us) × (a ≡ b)
one_run size at left [] [] x y a b s p t q =
    (refl, one_end size left a b (subst (λ (l : List ℕ). End size l a) (sym s) p) (subst (λ (l : List ℕ). End size l b) (sym t) q))
one_run size at left [] (u ∷ us) x y a b s p t q = absurd (no_next size at left a u t.0 (subst (λ (l : List ℕ). End size l a) (sym s) p) t.1)
one_run size at left (t ∷ ts) [] x y a b s p r q = absurd (no_next size at left b t s.0 (subst (λ (l : List ℕ). End size l b) (sym r) q) s.1)
one_run size at left (t ∷ ts) (u ∷ us) x y a b s p r q =
    let e = one_next at left t u s.0 r.0 s.1 r.1 in
    let more = subst (λ (l : List ℕ). AreTokens u.to l us y) (sym e.1) r.2 in
    let there = subst (λ (v : Token). AreTokens v.to s.0 us y) (sym e.0) more in
    let h = one_run size t.to s.0 ts us x y a b s.2 p there q in
    let same : t ≡ u = e.0 in
    let rest : ts ≡ us = h.0 in
    (cc, h.1)

faulty : (text : List ℕ) (refusal : TokenRefusal) → (h : HasRefusal text refusal) → Faulty (length text) (h.blanks ++ h.rest) refusal
faulty text refusal h = record { blanks = h.blanks; left = h.rest; spelled = refl; blank = h.blank; begins = h.begins; refused = h.refused }

-- the answer of a reading that ends so
abbrev answered : List Token → Option TokenRefusal → Result (List Token) TokenRefusal
answered tokens None = Ok tokens
answered tokens (Some refusal) = Err refusal

-- the reading of an answer: the tokens, and how it ends
record Reading (text : List ℕ) (answer : Result (List Token) TokenRefusal) : Type 0 where
  tokens : List Token
  rest : List ℕ
  end : Option TokenRefusal
  stand : AreTokens 0 text tokens rest
  ends : End (length text) rest end
  is : answer ≡ answered tokens end

reading : (text : List ℕ) (answer : Result (List Token) TokenRefusal) → ReadsTokens text answer → Reading text answer
reading text (Ok tokens) h = record { tokens = tokens; rest = h.rest; end = None; stand = h.stand; ends = h.blank; is = refl }
reading text (Err refusal) h = record { tokens = h.tokens; rest = h.blanks ++ h.rest; end = Some refusal; stand = h.stand; ends = faulty text refusal h; is = refl }

pub one_reading : (text : List ℕ) (a b : Result (List Token) TokenRefusal) → ReadsTokens text a → ReadsTokens text b → a ≡ b
one_reading text a b x y =
    let r = reading text a x in
    let s = reading text b y in
    let h = one_run (length text) 0 text r.tokens s.tokens r.rest s.rest r.end s.end r.stand r.ends s.stand s.ends in
    r.is ∙ ap (λ (ts : List Token). answered ts r.end) h.0 ∙ ap (λ (e : Option TokenRefusal). answered s.tokens e) h.1 ∙ sym s.is
