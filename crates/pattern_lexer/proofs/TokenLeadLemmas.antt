-- The bytes that begin the tokens of each shape.
use Rattle.std.proofs.Common.{◌≡◌, ◌≢◌, ℕ, inl, inr, Bool, true, false, ◌&&◌, ◌||◌, ◌==◌, nat_le, nat_lt, if◌then◌else◌, List, [], ◌∷◌, Option, Some, None, IsSome, refl, sym, ap, ◌∙◌, subst, arith}
use Rattle.std.proofs.lemmas.Bool.Decides.{nat_tests}
use Rattle.pattern_lexer.specs.declared.token.TokenKind.{TokenKind}
use Rattle.pattern_lexer.specs.declared.token.TokenKind.TheVariants.{SquareOpen, SquareClose, RoundOpen, RoundClose, Dot, Colon, Comma, Star, Equal, Differ, Less, LessEqual, Greater, GreaterEqual, Hex, Binary, Timestamp}
use Rattle.pattern_lexer.specs.Word.{IsWordStart}
use Rattle.pattern_lexer.specs.Values.{IsPrefixedText}
use Rattle.pattern_lexer.specs.Table.{IsToken}
use Rattle.pattern_lexer.specs.inner.Steps.{IsNumberStart, letter_kind, single_kind, double_kind}
use Rattle.pattern_lexer.proofs.TokenShapeLemmas.{starts, start_by}

-- how a token begins
pub data Lead : Type 0 where
  letter : Lead
  number : Lead
  quote : Lead
  other : Lead

abbrev number_test : ℕ → Bool
number_test c = (nat_le 48 c && nat_le c 57) || c == 43 || c == 45

abbrev pub lead : ℕ → Lead
lead c = if starts c then letter else if number_test c then number else if c == 39 then quote else other

starts_true : (c : ℕ) → IsWordStart c → starts c ≡ true
starts_true c (inl (inl h)) = grind (arith, nat_tests, h.0, h.1)
starts_true c (inl (inr h)) = grind (arith, nat_tests, h.0, h.1)
starts_true c (inr e) = grind (arith, nat_tests)

number_true : (c : ℕ) → IsNumberStart c → number_test c ≡ true
number_true c (inl h) = grind (arith, nat_tests, h.0, h.1)
number_true c (inr (inl h)) = grind (arith, nat_tests)
number_true c (inr (inr h)) = grind (arith, nat_tests)

pub letter_number : (c : ℕ) → IsWordStart c → IsNumberStart c → ⊥
letter_number c (inl (inl h)) (inl d) = absurd (omega (arith, h.0, h.1, d.0, d.1))
letter_number c (inl (inr h)) (inl d) = absurd (omega (arith, h.0, h.1, d.0, d.1))
letter_number c (inr h) (inl d) = absurd (omega (arith, h, d.0, d.1))
letter_number c (inl (inl h)) (inr (inl d)) = absurd (omega (arith, h.0, h.1, d))
letter_number c (inl (inr h)) (inr (inl d)) = absurd (omega (arith, h.0, h.1, d))
letter_number c (inr h) (inr (inl d)) = absurd (omega (arith, h, d))
letter_number c (inl (inl h)) (inr (inr d)) = absurd (omega (arith, h.0, h.1, d))
letter_number c (inl (inr h)) (inr (inr d)) = absurd (omega (arith, h.0, h.1, d))
letter_number c (inr h) (inr (inr d)) = absurd (omega (arith, h, d))

pub letter_quote : (c : ℕ) → IsWordStart c → c ≡ 39 → ⊥
letter_quote c (inl (inl h)) e = absurd (omega (arith, h.0, h.1, e))
letter_quote c (inl (inr h)) e = absurd (omega (arith, h.0, h.1, e))
letter_quote c (inr h) e = absurd (omega (arith, h, e))

pub number_quote : (c : ℕ) → IsNumberStart c → c ≡ 39 → ⊥
number_quote c (inl h) e = absurd (omega (arith, h.0, h.1, e))
number_quote c (inr (inl h)) e = absurd (omega (arith, h, e))
number_quote c (inr (inr h)) e = absurd (omega (arith, h, e))

abbrev pub Starts : Lead → ℕ → Type 0
Starts letter c = IsWordStart c
Starts number c = IsNumberStart c
Starts quote c = c ≡ 39
Starts other c = (¬ IsWordStart c) × (¬ IsNumberStart c) × (c ≢ 39)

pub same_lead : (a b : Lead) (c : ℕ) → Starts a c → Starts b c → a ≡ b
same_lead letter letter c x y = refl
same_lead letter number c x y = absurd (letter_number c x y)
same_lead letter quote c x y = absurd (letter_quote c x y)
same_lead letter other c x y = absurd (y.0 x)
same_lead number letter c x y = absurd (letter_number c y x)
same_lead number number c x y = refl
same_lead number quote c x y = absurd (number_quote c x y)
same_lead number other c x y = absurd (y.1 x)
same_lead quote letter c x y = absurd (letter_quote c y x)
same_lead quote number c x y = absurd (number_quote c y x)
same_lead quote quote c x y = refl
same_lead quote other c x y = absurd (y.2 x)
same_lead other letter c x y = absurd (x.0 y)
same_lead other number c x y = absurd (x.1 y)
same_lead other quote c x y = absurd (x.2 y)
same_lead other other c x y = refl

by_letter : (b : Bool) (l : Lead) → b ≡ true → (if b then letter else l) ≡ letter
by_letter true l e = refl
by_letter false l e = absurd (cc)

pub letter_lead : (c : ℕ) → IsWordStart c → lead c ≡ letter
letter_lead c h = by_letter (starts c) (if number_test c then number else if c == 39 then quote else other) (starts_true c h)

by_number : (a b : Bool) (c : ℕ) (l : Lead) → starts c ≡ a → IsNumberStart c → b ≡ true → (if a then letter else if b then number else l) ≡ number
by_number true b c l s h e = absurd (letter_number c (start_by c s) h)
by_number false true c l s h e = refl
by_number false false c l s h e = absurd (cc)

pub number_lead : (c : ℕ) → IsNumberStart c → lead c ≡ number
number_lead c h = by_number (starts c) (number_test c) c (if c == 39 then quote else other) refl h (number_true c h)

letter_not_other : (b : Bool) (l : Lead) → b ≡ true → (if b then letter else l) ≡ other → ⊥
letter_not_other true l e h = cc
letter_not_other false l e h = absurd (cc)

number_not_other : (a b : Bool) (l : Lead) → b ≡ true → (if a then letter else if b then number else l) ≡ other → ⊥
number_not_other true b l e h = cc
number_not_other false true l e h = cc
number_not_other false false l e h = absurd (cc)

pub other_start : (c : ℕ) → lead c ≡ other → Starts other c
other_start c e = (
  λ h. letter_not_other (starts c) (if number_test c then number else if c == 39 then quote else other) (starts_true c h) e,
  λ h. number_not_other (starts c) (number_test c) (if c == 39 then quote else other) (number_true c h) e,
  λ h. let g : quote ≡ other = sym (ap lead h) ∙ e in absurd (cc),
)

-- a table of bytes, one row after another
chain : (P : TokenKind → ℕ → Type 0) (b : Bool) (c n : ℕ) (k kind : TokenKind) (rest : Option TokenKind) → (c == n) ≡ b → (if b then Some k else rest) ≡ Some kind → P k n → (rest ≡ Some kind → P kind c) → P kind c
chain P true c n k kind rest t e here more =
    let same : n ≡ c = grind (arith, nat_tests) in
    let known : k ≡ kind = cc in
    subst (λ (x : ℕ). P kind x) same (subst (λ (x : TokenKind). P x n) known here)
chain P false c n k kind rest t e here more = more e

nothing : (kind : TokenKind) → ◌≡◌ {A = Option TokenKind} None (Some kind) → ⊥
nothing kind e = cc

abbrev pub SingleRow : TokenKind → ℕ → Type 0
SingleRow kind c = IsToken kind (c ∷ []) × (lead c ≡ other) × (nat_lt 32 c ≡ true)

pub single_row : (c : ℕ) (kind : TokenKind) → single_kind c ≡ Some kind → SingleRow kind c
single_row c kind e0 =
    (chain SingleRow (c == 91) c 91 SquareOpen kind _ refl e0 (refl, refl, refl) (λ e1.
    (chain SingleRow (c == 93) c 93 SquareClose kind _ refl e1 (refl, refl, refl) (λ e2.
    (chain SingleRow (c == 40) c 40 RoundOpen kind _ refl e2 (refl, refl, refl) (λ e3.
    (chain SingleRow (c == 41) c 41 RoundClose kind _ refl e3 (refl, refl, refl) (λ e4.
    (chain SingleRow (c == 46) c 46 Dot kind _ refl e4 (refl, refl, refl) (λ e5.
    (chain SingleRow (c == 58) c 58 Colon kind _ refl e5 (refl, refl, refl) (λ e6.
    (chain SingleRow (c == 44) c 44 Comma kind _ refl e6 (refl, refl, refl) (λ e7.
    (chain SingleRow (c == 42) c 42 Star kind _ refl e7 (refl, refl, refl) (λ e8.
    (chain SingleRow (c == 61) c 61 Equal kind _ refl e8 (refl, refl, refl) (λ e9.
    (chain SingleRow (c == 60) c 60 Less kind _ refl e9 (refl, refl, refl) (λ e10.
    (chain SingleRow (c == 62) c 62 Greater kind _ refl e10 (refl, refl, refl) (λ e11. absurd (nothing kind e11)))))))))))))))))))))))

abbrev pub DoubleRow : TokenKind → ℕ → Type 0
DoubleRow kind c = IsToken kind (c ∷ 61 ∷ []) × (lead c ≡ other) × (nat_lt 32 c ≡ true)

pub double_row : (c : ℕ) (kind : TokenKind) → double_kind c ≡ Some kind → DoubleRow kind c
double_row c kind e0 =
    (chain DoubleRow (c == 33) c 33 Differ kind _ refl e0 (refl, refl, refl) (λ e1.
    (chain DoubleRow (c == 60) c 60 LessEqual kind _ refl e1 (refl, refl, refl) (λ e2.
    (chain DoubleRow (c == 62) c 62 GreaterEqual kind _ refl e2 (refl, refl, refl) (λ e3. absurd (nothing kind e3)))))))

abbrev pub LetterRow : TokenKind → ℕ → Type 0
LetterRow kind c = ((text inside : List ℕ) → IsPrefixedText (c ∷ []) text inside → IsToken kind text) × (starts c ≡ true)

pub letter_row : (c : ℕ) (kind : TokenKind) → letter_kind c ≡ Some kind → LetterRow kind c
letter_row c kind e0 =
    (chain LetterRow (c == 104) c 104 Hex kind _ refl e0 (λ text inside h. (inside, h), refl) (λ e1.
    (chain LetterRow (c == 98) c 98 Binary kind _ refl e1 (λ text inside h. (inside, h), refl) (λ e2.
    (chain LetterRow (c == 116) c 116 Timestamp kind _ refl e2 (λ text inside h. (inside, h), refl) (λ e3. absurd (nothing kind e3)))))))

pub some_of : (o : Option TokenKind) → IsSome o → (kind : TokenKind) × (o ≡ Some kind)
some_of (Some kind) h = (kind, refl)
some_of None h = absurd (cc)
