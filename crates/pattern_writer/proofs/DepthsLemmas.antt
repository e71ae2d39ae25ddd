-- How deep tokens nest: how many parentheses are open inside them at once, those of IN aside, and how many qualifiers
-- there are. This many of the 64 are needed, and no more.
use Rattle.std.proofs.Common.{◌≡◌, ℕ, ◌+◌, ◌<◌, ◌≤◌, ◌⊎◌, inl, inr, Bool, true, false, not, ◌||◌, ◌&&◌, List, [], ◌∷◌, ◌++◌, rules, refl, sym, ap, subst, ◌∙◌, arith, append_assoc, append-nil, max}
use Rattle.std.proofs.lemmas.Bool.{false≢true, not-true, and_parts, cases_lt, cases_Bool}
use Rattle.std.proofs.lemmas.List.{same_from_push}
use Rattle.std.proofs.lemmas.List.Sums.{sum_by-cons, sum_by-append, sum_by_push}
use Rattle.std.specs.Prelude.{cond}
use denote.Enum.Bare.{same_true}
use Rattle.pattern_lexer.specs.contracts.token.TokenKind.{the_type}
use Rattle.pattern_lexer.specs.declared.token.Token.{Token}
use Rattle.pattern_lexer.specs.declared.token.TokenKind.{TokenKind}
use Rattle.pattern_lexer.specs.declared.token.TokenKind.TheVariants as kind
use Rattle.pattern_grammar.specs.declared.class.TokenClass.{TokenClass}
use Rattle.pattern_grammar.specs.declared.class.TokenClass.TheVariants.{Only, Qualifying}
use Rattle.pattern_grammar.specs.TokenClass.{is_same_kind, is_in, IsA}
use Rattle.pattern_grammar.specs.Depth.{class_count, EndsWithIn, IsDeepOpen, NoneTooMany}

-- tokens of one kind
pub same_is : (w k : TokenKind) → is_same_kind w k ≡ true → k ≡ w
same_is w k h = sym (same_true the_type (search rules) w k h)

-- how many of joined tokens are of a class
many_first : (class : TokenClass) (t : Token) (ts : List Token) (b : Bool) → is_in class t.kind ≡ b → class_count class (t ∷ ts) ≡ cond b 1 0 + class_count class ts
many_first class t ts b e = sum_by-cons (λ u. cond (is_in class u.kind) 1 0) t ts ∙ ap (λ c. cond c 1 0 + class_count class ts) e

many_last : (class : TokenClass) (ts : List Token) (t : Token) (b : Bool) → is_in class t.kind ≡ b → class_count class (ts ++ t ∷ []) ≡ class_count class ts + cond b 1 0
many_last class ts t b e = sum_by_push (λ u. cond (is_in class u.kind) 1 0) ts t ∙ ap (λ c. class_count class ts + cond c 1 0) e

many_joined : (class : TokenClass) (xs ys : List Token) → class_count class (xs ++ ys) ≡ class_count class xs + class_count class ys
many_joined class xs ys = sum_by-append (λ u. cond (is_in class u.kind) 1 0) xs ys

-- none of the tokens opens a parenthesis too many after those
abbrev pub NoneDeep : List Token → List Token → Type 0
NoneDeep before [] = Unit {0}
NoneDeep before (t ∷ ts) = (¬ IsDeepOpen before t) × NoneDeep (before ++ t ∷ []) ts

deep_parts : (before xs ys : List Token) → NoneDeep before (xs ++ ys) → NoneDeep before xs × NoneDeep (before ++ xs) ys
deep_parts before [] ys h = (tt, subst (λ z. NoneDeep z ys) (sym (append-nil before)) h)
deep_parts before (x ∷ xs) ys h = let p = deep_parts (before ++ x ∷ []) xs ys h.1 in ((h.0, p.0), subst (λ z. NoneDeep z ys) (append_assoc before (x ∷ []) xs) p.1)

deep_join : (before xs ys : List Token) → NoneDeep before xs → NoneDeep (before ++ xs) ys → NoneDeep before (xs ++ ys)
deep_join before [] ys h k = subst (λ z. NoneDeep z ys) (append-nil before) k
deep_join before (x ∷ xs) ys h k = (h.0, deep_join (before ++ x ∷ []) xs ys h.1 (subst (λ z. NoneDeep z ys) (sym (append_assoc before (x ∷ []) xs)) k))

-- what holds of the tokens where none is one too many, and the other way round
one_more : (before ts : List Token) (t : Token) → NoneTooMany (before ++ t ∷ ts) → class_count Qualifying before ≤ 64 → class_count Qualifying (before ++ t ∷ []) ≤ 64
one_more before ts t none few = by (cases_Bool (is_in Qualifying t.kind)) (cases_lt (class_count Qualifying before) 64)
  where
    by : (is_in Qualifying t.kind ≡ true) ⊎ (is_in Qualifying t.kind ≡ false) → (class_count Qualifying before < 64) ⊎ (64 ≤ class_count Qualifying before) → class_count Qualifying (before ++ t ∷ []) ≤ 64
    by (inr e) h = omega (arith, few, many_last Qualifying before t false e)
    by (inl e) (inl h) = omega (arith, h, many_last Qualifying before t true e)
    by (inl e) (inr h) = absurd (none before t ts refl (inr (record { qualifies = e; deep = h })))

none_parts : (before ts : List Token) → NoneTooMany (before ++ ts) → class_count Qualifying before ≤ 64 → NoneDeep before ts × (class_count Qualifying (before ++ ts) ≤ 64)
none_parts before [] none few = (tt, subst (λ z. class_count Qualifying z ≤ 64) (sym (append-nil before)) few)
none_parts before (t ∷ ts) none few =
    let e = append_assoc before (t ∷ []) ts in
    let p = none_parts (before ++ t ∷ []) ts (subst NoneTooMany (sym e) none) (one_more before ts t none few) in
    ((λ d. none before t ts refl (inl d), p.0), subst (λ z. class_count Qualifying z ≤ 64) e p.1)

none_join : (ts : List Token) → NoneDeep [] ts → class_count Qualifying ts ≤ 64 → NoneTooMany ts
none_join ts deep few before token after e (inl d) = (deep_parts [] before (token ∷ after) (subst (NoneDeep []) e deep)).1.0 d
none_join ts deep few before token after e (inr d) =
    let h : class_count Qualifying (before ++ token ∷ after) ≤ 64 = subst (λ z. class_count Qualifying z ≤ 64) e few in
    absurd (omega (arith, h, d.deep, many_joined Qualifying before (token ∷ after), many_first Qualifying token after true d.qualifies))

-- this many parentheses are open after the tokens
abbrev Opened : List Token → ℕ → Type 0
Opened before x = class_count (Only kind.RoundOpen) before ≡ x + class_count (Only kind.RoundClose) before

pub record Behind (before : List Token) (x : ℕ) : Type 0 where
  pub opened : Opened before x
  pub apart : ¬ EndsWithIn before

-- the tokens open this many parentheses at once, and have this many qualifiers
pub record Measured (ts : List Token) (n q : ℕ) : Type 0 where
  pub keeps : (before : List Token) (x : ℕ) → Behind before x → Behind (before ++ ts) x
  pub needs : (before : List Token) (x : ℕ) → Behind before x → x ≤ 64 → NoneDeep before ts → x + n ≤ 64
  pub fits : (before : List Token) (x : ℕ) → Behind before x → x + n ≤ 64 → NoneDeep before ts
  pub qualifiers : class_count Qualifying ts ≡ q

behind_none : Behind [] 0
behind_none = record { opened = refl; apart = λ e. nowhere e.prefix e.last e.spelled }
  where
    nowhere : (prefix : List Token) (last : Token) → [] ≡ prefix ++ last ∷ [] → ⊥
    nowhere [] last e = absurd (cc)
    nowhere (t ∷ ts) last e = absurd (cc)

pub within : (ts : List Token) (n q : ℕ) → Measured ts n q → NoneTooMany ts → (n ≤ 64) × (q ≤ 64)
within ts n q m none =
    let p = none_parts [] ts none (omega arith) in
    (let a = m.needs [] 0 behind_none (omega arith) p.0 in omega (arith, a), (let b = p.1 in omega (arith, b, m.qualifiers)))

pub none_too_many : (ts : List Token) (n q : ℕ) → Measured ts n q → n ≤ 64 → q ≤ 64 → NoneTooMany ts
none_too_many ts n q m low few = none_join ts (m.fits [] 0 behind_none (omega arith)) (omega (arith, m.qualifiers))

-- tokens one after another
pub joined : (xs ys : List Token) (n q m r : ℕ) → Measured xs n q → Measured ys m r → Measured (xs ++ ys) (max n m) (q + r)
joined xs ys n q m r u v = record {
  keeps = λ before x b. subst (λ z. Behind z x) (append_assoc before xs ys) (v.keeps (before ++ xs) x (u.keeps before x b));
  needs = λ before x b h d.
      let p = deep_parts before xs ys d in
      let f = u.needs before x b h p.0 in
      let g = v.needs (before ++ xs) x (u.keeps before x b) h p.1 in
      omega (arith, f, g);
  fits = λ before x b h. deep_join before xs ys (u.fits before x b (omega arith)) (v.fits (before ++ xs) x (u.keeps before x b) (omega arith));
  qualifiers = omega (arith, u.qualifiers, v.qualifiers, many_joined Qualifying xs ys);
}

pub measured_is : (ts : List Token) (n q m r : ℕ) → n ≡ m → q ≡ r → Measured ts n q → Measured ts m r
measured_is ts n q m r e g h = subst (λ (k : ℕ). Measured ts k r) e (subst (λ (k : ℕ). Measured ts n k) g h)

-- one token more
opened_more : (before : List Token) (t : Token) (i j : Bool) (x y : ℕ) → is_in (Only kind.RoundOpen) t.kind ≡ i → is_in (Only kind.RoundClose) t.kind ≡ j → x + cond i 1 0 ≡ y + cond j 1 0 → Opened before x → Opened (before ++ t ∷ []) y
opened_more before t i j x y e g k h = omega (arith, k, h, many_last (Only kind.RoundOpen) before t i e, many_last (Only kind.RoundClose) before t j g)

not_in : (before : List Token) (t : Token) → is_in (Only kind.Among) t.kind ≡ false → ¬ EndsWithIn (before ++ t ∷ [])
not_in before t e i = false≢true (sym e ∙ ap (λ (u : Token). is_in (Only kind.Among) u.kind) (same_from_push before i.prefix t i.last i.spelled).1 ∙ i.among)

not_deep : (before : List Token) (t : Token) → is_in (Only kind.RoundOpen) t.kind ≡ false → ¬ IsDeepOpen before t
not_deep before t e d = false≢true (sym e ∙ d.opens)

-- a token that neither opens nor closes
abbrev pub is_plain : TokenKind → Bool
is_plain k = not (is_same_kind kind.RoundOpen k || is_same_kind kind.RoundClose k || is_same_kind kind.Among k)

none_of : (a b c : Bool) → not (a || b || c) ≡ true → (a ≡ false) × (b ≡ false) × (c ≡ false)
none_of a b c e = grind arith

plain : (t : Token) → is_plain t.kind ≡ true → Measured (t ∷ []) 0 (class_count Qualifying (t ∷ []))
plain t e =
    let p = none_of (is_same_kind kind.RoundOpen t.kind) (is_same_kind kind.RoundClose t.kind) (is_same_kind kind.Among t.kind) e in
    record {
      keeps = λ before x b. record { opened = opened_more before t false false x x p.0 p.1 refl b.opened; apart = not_in before t p.2 };
      needs = λ before x b h d. omega arith;
      fits = λ before x b h. (not_deep before t p.0, tt);
      qualifiers = refl;
    }

-- one that doesn't begin a qualifier either
abbrev pub is_flat : TokenKind → Bool
is_flat k = is_plain k && not (is_in Qualifying k)

flat : (t : Token) → is_flat t.kind ≡ true → Measured (t ∷ []) 0 0
flat t e =
    let p = and_parts (is_plain t.kind) (not (is_in Qualifying t.kind)) e in
    measured_is (t ∷ []) 0 (class_count Qualifying (t ∷ [])) 0 0 refl (rw (not-true (is_in Qualifying t.kind) p.1) refl) (plain t p.0)

pub only_flat : (w k : TokenKind) → is_same_kind w k ≡ true → is_flat w ≡ true → is_flat k ≡ true
only_flat w k e h = ap is_flat (same_is w k e) ∙ h

pub max_last : (n : ℕ) → max n 0 ≡ n
max_last n = omega arith

pub first_flat : (t : Token) (ts : List Token) (n q : ℕ) → is_flat t.kind ≡ true → Measured ts n q → Measured (t ∷ ts) n q
first_flat t ts n q e m = measured_is (t ∷ ts) (max 0 n) (0 + q) n q (omega arith) (omega arith) (joined (t ∷ []) ts 0 0 n q (flat t e) m)

pub last_flat : (t : Token) (ts : List Token) (n q : ℕ) → is_flat t.kind ≡ true → Measured ts n q → Measured (ts ++ t ∷ []) n q
last_flat t ts n q e m = measured_is (ts ++ t ∷ []) (max n 0) (q + 0) n q (omega arith) (omega arith) (joined ts (t ∷ []) n q 0 0 m (flat t e))

pub mid_flat : (xs : List Token) (t : Token) (ys : List Token) (n q m r : ℕ) → is_flat t.kind ≡ true → Measured xs n q → Measured ys m r → Measured (xs ++ t ∷ ys) (max n m) (q + r)
mid_flat xs t ys n q m r e u v = joined xs (t ∷ ys) n q m r u (first_flat t ys m r e v)

-- tokens that are all flat
abbrev pub Flat : List Token → Type 0
Flat [] = Unit {0}
Flat (t ∷ ts) = (is_flat t.kind ≡ true) × Flat ts

pub flat_join : (xs ys : List Token) → Flat xs → Flat ys → Flat (xs ++ ys)
flat_join [] ys h k = k
flat_join (x ∷ xs) ys h k = (h.0, flat_join xs ys h.1 k)

pub flats : (ts : List Token) → Flat ts → Measured ts 0 0
flats [] h = record {
  keeps = λ before x b. subst (λ z. Behind z x) (sym (append-nil before)) b;
  needs = λ before x b h d. omega arith;
  fits = λ before x b h. tt;
  qualifiers = refl;
}
flats (t ∷ ts) h = first_flat t ts 0 0 h.0 (flats ts h.1)

flats_deep : (before ts : List Token) → Flat ts → NoneDeep before ts
flats_deep before [] h = tt
flats_deep before (t ∷ ts) h = (not_deep before t (none_of (is_same_kind kind.RoundOpen t.kind) (is_same_kind kind.RoundClose t.kind) (is_same_kind kind.Among t.kind) (and_parts (is_plain t.kind) (not (is_in Qualifying t.kind)) h.0).0).0, flats_deep (before ++ t ∷ []) ts h.1)

-- the first token of a qualifier, and the rest of it
pub qualifying : (w : TokenKind) (t : Token) (ts : List Token) → IsA (Only w) t → is_plain w ≡ true → is_in Qualifying w ≡ true → Flat ts → Measured (t ∷ ts) 0 1
qualifying w t ts h p q f =
    let e = same_is w t.kind h in
    measured_is (t ∷ ts) (max 0 0) (class_count Qualifying (t ∷ []) + 0) 0 1 refl (rw (e, q) refl) (joined (t ∷ []) ts 0 (class_count Qualifying (t ∷ [])) 0 0 (plain t (ap is_plain e ∙ p)) (flats ts f))

-- tokens between parentheses
inside : (before : List Token) (a : Token) (x : ℕ) → IsA (Only kind.RoundOpen) a → Opened before x → Behind (before ++ a ∷ []) (x + 1)
inside before a x h o = let e = same_is kind.RoundOpen a.kind h in record { opened = opened_more before a true false x (x + 1) h (ap (is_same_kind kind.RoundClose) e) (omega arith) o; apart = not_in before a (ap (is_same_kind kind.Among) e) }

outside : (before : List Token) (b : Token) (x : ℕ) → IsA (Only kind.RoundClose) b → Opened before (x + 1) → Behind (before ++ b ∷ []) x
outside before b x h o = let e = same_is kind.RoundClose b.kind h in record { opened = opened_more before b false true (x + 1) x (ap (is_same_kind kind.RoundOpen) e) h (omega arith) o; apart = not_in before b (ap (is_same_kind kind.Among) e) }

room_for : (before : List Token) (a : Token) (x : ℕ) → IsA (Only kind.RoundOpen) a → Behind before x → ¬ IsDeepOpen before a → x + 1 ≤ 64
room_for before a x h b d = by (cases_lt x 64)
  where
    by : (x < 64) ⊎ (64 ≤ x) → x + 1 ≤ 64
    by (inl g) = omega (arith, g)
    by (inr g) = absurd (d (record { opens = h; groups = b.apart; deep = omega (arith, g, b.opened) }))

module _ (a b : Token) (ts : List Token) (n q : ℕ) (h : IsA (Only kind.RoundOpen) a) (k : IsA (Only kind.RoundClose) b) (m : Measured ts n q) where
  round_keeps : (before : List Token) (x : ℕ) → Opened before x → Behind (before ++ (a ∷ ts ++ b ∷ [])) x
  round_keeps before x o =
      subst (λ z. Behind z x) (append_assoc (before ++ a ∷ []) ts (b ∷ []) ∙ append_assoc before (a ∷ []) (ts ++ b ∷ []))
      (outside ((before ++ a ∷ []) ++ ts) b x k (m.keeps (before ++ a ∷ []) (x + 1) (inside before a x h o)).opened)

  round_deep : (before : List Token) → NoneDeep before ts → NoneDeep before (ts ++ b ∷ [])
  round_deep before d = deep_join before ts (b ∷ []) d (not_deep (before ++ ts) b (ap (is_same_kind kind.RoundOpen) (same_is kind.RoundClose b.kind k)), tt)

  round_qualifiers : class_count Qualifying (a ∷ ts ++ b ∷ []) ≡ q
  round_qualifiers =
      omega (
        arith,
        m.qualifiers,
        many_first Qualifying a (ts ++ b ∷ []) false (ap (is_in Qualifying) (same_is kind.RoundOpen a.kind h)),
        many_last Qualifying ts b false (ap (is_in Qualifying) (same_is kind.RoundClose b.kind k)),
      )

  pub round : Measured (a ∷ ts ++ b ∷ []) (n + 1) q
  round = record {
    keeps = λ before x o. round_keeps before x o.opened;
    needs = λ before x o low d.
        let c = m.needs (before ++ a ∷ []) (x + 1) (inside before a x h o.opened) (room_for before a x h o d.0) (deep_parts (before ++ a ∷ []) ts (b ∷ []) d.1).0 in
        omega (arith, c);
    fits = λ before x o low. (λ d. omega (arith, d.deep, o.opened), round_deep (before ++ a ∷ []) (m.fits (before ++ a ∷ []) (x + 1) (inside before a x h o.opened) (omega arith)));
    qualifiers = round_qualifiers;
  }

-- IN and its list
pub among : (a b c : Token) (ts : List Token) → IsA (Only kind.Among) a → IsA (Only kind.RoundOpen) b → IsA (Only kind.RoundClose) c → Flat ts → Measured (a ∷ b ∷ ts ++ c ∷ []) 0 0
among a b c ts h k l f =
    let e = same_is kind.Among a.kind h in
    let m = flats ts f in
    record {
      keeps = λ before x o. subst (λ z. Behind z x) (append_assoc before (a ∷ []) (b ∷ ts ++ c ∷ [])) (round_keeps b c ts 0 0 k l m (before ++ a ∷ []) x (opened_more before a false false x x (ap (is_same_kind kind.RoundOpen) e) (ap (is_same_kind kind.RoundClose) e) refl o.opened));
      needs = λ before x o low d. omega arith;
      fits = λ before x o low. (
        not_deep before a (ap (is_same_kind kind.RoundOpen) e),
        (λ d. d.groups (record { prefix = before; last = a; spelled = refl; among = h }), round_deep b c ts 0 0 k l m ((before ++ a ∷ []) ++ b ∷ []) (flats_deep ((before ++ a ∷ []) ++ b ∷ []) ts f)),
      );
      qualifiers = omega (arith, many_first Qualifying a (b ∷ ts ++ c ∷ []) false (ap (is_in Qualifying) e), round_qualifiers b c ts 0 0 k l m);
    }
