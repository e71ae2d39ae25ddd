-- A text is a token of one kind alone, and no blank begins it.
use Rattle.std.proofs.Common.{◌≡◌, ◌≢◌, ℕ, ◌<◌, inl, inr, Bool, true, false, ◌&&◌, ◌||◌, ◌==◌, if◌then◌else◌, List, [], ◌∷◌, ◌++◌, length, get_or, take, drop, All, Contains, suc, zero, lit<, refl, sym, ap, ◌∙◌, subst, arith}
use Rattle.std.specs.Option.{unwrap_or}
use Rattle.std.proofs.lemmas.Bool.Decides.{nat_tests, Decides-eqb}
use Rattle.std.proofs.lemmas.List.{take_at, drop_at}
use Rattle.std.proofs.lemmas.List.Elements.{All-head, All-tail}
use Rattle.pattern_lexer.specs.declared.token.TokenKind.{TokenKind}
use Rattle.pattern_lexer.specs.declared.token.TokenKind.TheVariants.{SquareOpen, SquareClose, RoundOpen, RoundClose, Dot, Colon, Comma, Star, Equal, Differ, Less, LessEqual, Greater, GreaterEqual, And, Or, Not, FollowedBy, Within, Seconds, Repeats, Times, Start, Stop, Among, Like, Subset, Superset, Exists, TrueWord, FalseWord, Word, HyphenWord, Number, String, Hex, Binary, Timestamp}
use Rattle.pattern_lexer.specs.Word.{IsWordStart, IsWordPart, IsHyphenWordPart, HasAt, keywords}
use Rattle.pattern_lexer.specs.Table.{IsToken}
use Rattle.pattern_lexer.specs.Reading.{IsBlank, IsFirst}
use Rattle.pattern_lexer.specs.inner.Steps.{IsNumberStart, letter_kind, single_kind, double_kind}
use Rattle.pattern_lexer.proofs.TokenShapeLemmas.{Shape, of_single, of_double, of_name, of_letter, of_number, of_words, shape, start_by}
use Rattle.pattern_lexer.proofs.TokenLeadLemmas.{Lead, letter, number, quote, other, lead, letter_lead, number_lead, single_row, double_row, letter_row, some_of}
use Rattle.pattern_lexer.proofs.LongestTokenLemmas.{number_start, quote_no_part, has_first}

abbrev same : List ℕ → List ℕ → Bool
same [] [] = true
same [] (y ∷ ys) = false
same (x ∷ xs) [] = false
same (x ∷ xs) (y ∷ ys) = x == y && same xs ys

both : (a b : Bool) → (a && b) ≡ true → (a ≡ true) × (b ≡ true)
both true true e = (refl, refl)
both true false e = absurd (cc)
both false b e = absurd (cc)

same_is : (xs ys : List ℕ) → same xs ys ≡ true → xs ≡ ys
same_is [] [] e = refl
same_is [] (y ∷ ys) e = absurd (cc)
same_is (x ∷ xs) [] e = absurd (cc)
same_is (x ∷ xs) (y ∷ ys) e =
    let h = both (x == y) (same xs ys) e in
    let p : x ≡ y = (Decides-eqb x y).0 h.0 in
    let q : xs ≡ ys = same_is xs ys h.1 in
    cc

-- the kind in the table of a text, or a Word
abbrev find : List (List ℕ) → List TokenKind → List ℕ → TokenKind
find [] kinds text = Word
find (w ∷ ws) [] text = Word
find (w ∷ ws) (k ∷ ks) text = if same w text then k else find ws ks text

abbrev keyword_kinds : List TokenKind
keyword_kinds = And ∷ Or ∷ Not ∷ FollowedBy ∷ Within ∷ Seconds ∷ Repeats ∷ Times ∷ Start ∷ Stop ∷ Among ∷ Like ∷ Subset ∷ Superset ∷ Exists ∷ TrueWord ∷ FalseWord ∷ []

abbrev second_quote : List ℕ → Bool
second_quote [] = false
second_quote (d ∷ text) = d == 39

abbrev has_hyphen : List ℕ → Bool
has_hyphen [] = false
has_hyphen (d ∷ text) = d == 45 || has_hyphen text

abbrev name_kind : ℕ → List ℕ → TokenKind
name_kind c text = if second_quote text then unwrap_or (letter_kind c) Word else if has_hyphen text then HyphenWord else find keywords keyword_kinds (c ∷ text)

abbrev punctuation_kind : ℕ → List ℕ → TokenKind
punctuation_kind c [] = unwrap_or (single_kind c) Word
punctuation_kind c (d ∷ text) = unwrap_or (double_kind c) Word

abbrev by_lead : Lead → ℕ → List ℕ → TokenKind
by_lead letter c text = name_kind c text
by_lead number c text = Number
by_lead quote c text = String
by_lead other c text = punctuation_kind c text

-- the kind that a text can have
abbrev pub kind_of : List ℕ → TokenKind
kind_of [] = Word
kind_of (c ∷ text) = by_lead (lead c) c text

found_by : (b : Bool) (w text : List ℕ) (k : TokenKind) (rest : TokenKind) → same w text ≡ b → w ≢ text → rest ≡ Word → (if b then k else rest) ≡ Word
found_by true w text k rest e n h = absurd (n (same_is w text e))
found_by false w text k rest e n h = h

find_none : (ws : List (List ℕ)) (ks : List TokenKind) (text : List ℕ) → ¬ Contains ws text → find ws ks text ≡ Word
find_none [] ks text none = refl
find_none (w ∷ ws) [] text none = refl
find_none (w ∷ ws) (k ∷ ks) text none =
    found_by (same w text) w text k (find ws ks text) refl (λ e. none (0, omega arith, e))
    (find_none ws ks text (λ has. none (suc has.0, omega (arith, has.1), has.2)))

no_quote_by : (b : Bool) (d : ℕ) → (d == 39) ≡ b → IsHyphenWordPart d → b ≡ false
no_quote_by true d e h = let q : d ≡ 39 = (Decides-eqb d 39).0 e in absurd (quote_no_part (subst IsHyphenWordPart q h))
no_quote_by false d e h = refl

no_quote : (text : List ℕ) → All IsHyphenWordPart text → second_quote text ≡ false
no_quote [] all = refl
no_quote (d ∷ text) all = no_quote_by (d == 39) d refl (All-head IsHyphenWordPart d text all)

hyphen_apart : (d : ℕ) → IsWordPart d → d ≡ 45 → ⊥
hyphen_apart d (inl (inl (inl h))) e = absurd (omega (arith, h.0, e))
hyphen_apart d (inl (inl (inr h))) e = absurd (omega (arith, h.0, e))
hyphen_apart d (inl (inr h)) e = absurd (omega (arith, h, e))
hyphen_apart d (inr h) e = absurd (omega (arith, h.0, e))

neither : (a b : Bool) → a ≡ false → b ≡ false → (a || b) ≡ false
neither false false p q = refl
neither false true p q = absurd (cc)
neither true b p q = absurd (cc)

not_hyphen : (b : Bool) (d : ℕ) → (d == 45) ≡ b → IsWordPart d → b ≡ false
not_hyphen true d e h = absurd (hyphen_apart d h ((Decides-eqb d 45).0 e))
not_hyphen false d e h = refl

no_hyphen : (text : List ℕ) → All IsWordPart text → has_hyphen text ≡ false
no_hyphen [] all = refl
no_hyphen (d ∷ text) all = neither (d == 45) (has_hyphen text) (not_hyphen (d == 45) d refl (All-head IsWordPart d text all)) (no_hyphen text (All-tail IsWordPart d text all))

either_left : (a b : Bool) → a ≡ true → (a || b) ≡ true
either_left true b e = refl
either_left false b e = absurd (cc)

either_right : (a b : Bool) → b ≡ true → (a || b) ≡ true
either_right true b e = refl
either_right false b e = e

hyphen_there : (text : List ℕ) (k : ℕ) → k < length text → get_or text k 45 ≡ 45 → has_hyphen text ≡ true
hyphen_there [] k l e = absurd (omega arith)
hyphen_there (d ∷ text) zero l e = either_left (d == 45) (has_hyphen text) ((Decides-eqb d 45).1 e)
hyphen_there (d ∷ text) (suc k) l e = either_right (d == 45) (has_hyphen text) (hyphen_there text k (omega arith) e)

hyphen_behind : (c : ℕ) (text : List ℕ) (k : ℕ) → IsWordStart c → k < length (c ∷ text) → get_or (c ∷ text) k 45 ≡ 45 → has_hyphen text ≡ true
hyphen_behind c text zero start l e = absurd (hyphen_apart c (inl start) e)
hyphen_behind c text (suc k) start l e = hyphen_there text k (omega arith) e

choose : (a b : Bool) (x y z w : TokenKind) → a ≡ false → b ≡ false → z ≡ w → (if a then x else if b then y else z) ≡ w
choose true b x y z w p q e = absurd (cc)
choose false true x y z w p q e = absurd (cc)
choose false false x y z w p q e = e

choose_second : (a b : Bool) (x y z : TokenKind) → a ≡ false → b ≡ true → (if a then x else if b then y else z) ≡ y
choose_second true b x y z p q = absurd (cc)
choose_second false true x y z p q = refl
choose_second false false x y z p q = absurd (cc)

word_kind : (text : List ℕ) → IsToken Word text → kind_of text ≡ Word
word_kind [] h = absurd h.starts
word_kind (c ∷ text) h =
    let tail = All-tail IsWordPart c text h.parts in
    ap (λ (l : Lead). by_lead l c text) (letter_lead c h.starts)
    ∙ choose (second_quote text) (has_hyphen text) (unwrap_or (letter_kind c) Word) HyphenWord (find keywords keyword_kinds (c ∷ text)) Word (no_quote text (λ k d l. inl (tail k d l))) (no_hyphen text tail) (find_none keywords keyword_kinds (c ∷ text) h.free)

hyphen_kind : (text : List ℕ) → IsToken HyphenWord text → kind_of text ≡ HyphenWord
hyphen_kind [] h = absurd h.starts
hyphen_kind (c ∷ text) h =
    ap (λ (l : Lead). by_lead l c text) (letter_lead c h.starts)
    ∙ choose_second (second_quote text) (has_hyphen text) (unwrap_or (letter_kind c) Word) HyphenWord (find keywords keyword_kinds (c ∷ text)) (no_quote text (All-tail IsHyphenWordPart c text h.parts)) (hyphen_behind c text h.hyphen.0 h.starts h.hyphen.1 h.hyphen.2)

number_kind : (text : List ℕ) → HasAt 0 IsNumberStart text → kind_of text ≡ Number
number_kind [] h = absurd h
number_kind (c ∷ text) h = ap (λ (l : Lead). by_lead l c text) (number_lead c h)

pub kind_is : (kind : TokenKind) (text : List ℕ) → IsToken kind text → kind_of text ≡ kind
kind_is SquareOpen text h = ap kind_of h
kind_is SquareClose text h = ap kind_of h
kind_is RoundOpen text h = ap kind_of h
kind_is RoundClose text h = ap kind_of h
kind_is Dot text h = ap kind_of h
kind_is Colon text h = ap kind_of h
kind_is Comma text h = ap kind_of h
kind_is Star text h = ap kind_of h
kind_is Equal text h = ap kind_of h
kind_is Differ text h = ap kind_of h
kind_is Less text h = ap kind_of h
kind_is LessEqual text h = ap kind_of h
kind_is Greater text h = ap kind_of h
kind_is GreaterEqual text h = ap kind_of h
kind_is And text h = ap kind_of h
kind_is Or text h = ap kind_of h
kind_is Not text h = ap kind_of h
kind_is FollowedBy text h = ap kind_of h
kind_is Within text h = ap kind_of h
kind_is Seconds text h = ap kind_of h
kind_is Repeats text h = ap kind_of h
kind_is Times text h = ap kind_of h
kind_is Start text h = ap kind_of h
kind_is Stop text h = ap kind_of h
kind_is Among text h = ap kind_of h
kind_is Like text h = ap kind_of h
kind_is Subset text h = ap kind_of h
kind_is Superset text h = ap kind_of h
kind_is Exists text h = ap kind_of h
kind_is TrueWord text h = ap kind_of h
kind_is FalseWord text h = ap kind_of h
kind_is Word text h = word_kind text h
kind_is HyphenWord text h = hyphen_kind text h
kind_is Number text h = number_kind text (number_start text h)
kind_is String text h = ap kind_of h.1
kind_is Hex text h = ap kind_of h.1.spelled
kind_is Binary text h = ap kind_of h.1.spelled
kind_is Timestamp text h = ap kind_of h.1.spelled

-- a first token is the only one
same_front : (xs ys cs bs : List ℕ) → xs ++ cs ≡ ys ++ bs → length xs ≡ length ys → (xs ≡ ys) × (cs ≡ bs)
same_front xs ys cs bs e n = (
  sym (take_at xs cs (length xs) refl) ∙ ap (λ (l : List ℕ). take (length xs) l) e ∙ take_at ys bs (length xs) (sym n),
  sym (drop_at xs cs (length xs) refl) ∙ ap (λ (l : List ℕ). drop (length xs) l) e ∙ drop_at ys bs (length xs) (sym n),
)

pub record SameFirst (k l : TokenKind) (s t a b : List ℕ) : Type 0 where
  pub kind : k ≡ l
  pub text : s ≡ t
  pub after : a ≡ b

pub one_first : (whole : List ℕ) (k l : TokenKind) (s t a b : List ℕ) → IsFirst whole k s a → IsFirst whole l t b → SameFirst k l s t a b
one_first whole k l s t a b x y =
    let p = x.longest l t b y.spelled y.token in
    let q = y.longest k s a x.spelled x.token in
    let n : length s ≡ length t = omega arith in
    let h = same_front s t a b (sym x.spelled ∙ y.spelled) n in
    record {
      kind = sym (kind_is k s x.token) ∙ ap kind_of h.0 ∙ kind_is l t y.token;
      text = h.0;
      after = h.1;
    }

-- what is said of the first token is said of each
pub carry : (P : TokenKind → List ℕ → List ℕ → Type 0) (whole : List ℕ) (k l : TokenKind) (s t a b : List ℕ) → IsFirst whole k s a → IsFirst whole l t b → P k s a → P l t b
carry P whole k l s t a b x y h =
    let e = one_first whole k l s t a b x y in
    subst (λ (z : TokenKind). P z t b) e.kind (subst (λ (z : List ℕ). P k z b) e.text (subst (λ (z : List ℕ). P k s z) e.after h))

-- no blank begins a token
dark_start : (c : ℕ) → IsWordStart c → 32 < c
dark_start c (inl (inl h)) = omega (arith, h.0)
dark_start c (inl (inr h)) = omega (arith, h.0)
dark_start c (inr h) = omega (arith, h)

dark_number : (text : List ℕ) → HasAt 0 IsNumberStart text → HasAt 0 (λ c. 32 < c) text
dark_number [] h = absurd h
dark_number (c ∷ text) (inl h) = omega (arith, h.0)
dark_number (c ∷ text) (inr (inl h)) = omega (arith, h)
dark_number (c ∷ text) (inr (inr h)) = omega (arith, h)

dark_name : (text : List ℕ) → HasAt 0 IsWordStart text → HasAt 0 (λ c. 32 < c) text
dark_name [] h = absurd h
dark_name (c ∷ text) h = dark_start c h

dark_by : (text : List ℕ) → Shape text → HasAt 0 (λ c. 32 < c) text
dark_by text (of_single c s e) = let k = some_of (single_kind c) s in has_first (λ x. 32 < x) text c [] e (grind (arith, nat_tests, (single_row c k.0 k.1).2))
dark_by text (of_double c s e) = let k = some_of (double_kind c) s in has_first (λ x. 32 < x) text c (61 ∷ []) e (grind (arith, nat_tests, (double_row c k.0 k.1).2))
dark_by text (of_name n) = dark_name text n.starts
dark_by text (of_letter c inside s h) = let k = some_of (letter_kind c) s in has_first (λ x. 32 < x) text c (39 ∷ (inside ++ 39 ∷ [])) h.spelled (dark_start c (start_by c (letter_row c k.0 k.1).1))
dark_by text (of_number h) = dark_number text (number_start text h)
dark_by text (of_words words h) = has_first (λ x. 32 < x) text 39 _ h (lit< tt)

blank_dark : (c : ℕ) → 32 < c → ¬ IsBlank c
blank_dark c l (inl e) = absurd (omega arith)
blank_dark c l (inr (inl e)) = absurd (omega arith)
blank_dark c l (inr (inr (inl e))) = absurd (omega arith)
blank_dark c l (inr (inr (inr e))) = absurd (omega arith)

not_blank : (text after : List ℕ) → HasAt 0 (λ c. 32 < c) text → HasAt 0 (λ c. ¬ IsBlank c) (text ++ after)
not_blank [] after h = absurd h
not_blank (c ∷ text) after h = blank_dark c h

pub token_not_blank : (kind : TokenKind) (text after : List ℕ) → IsToken kind text → HasAt 0 (λ c. ¬ IsBlank c) (text ++ after)
token_not_blank kind text after token = not_blank text after (dark_by text (shape kind text token))
