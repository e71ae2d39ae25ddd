-- No longer token begins a canonical text: what is written ends where the table's longest token ends.
use Rattle.std.proofs.Common.{◌≡◌, ◌≢◌, ◌⊎◌, inl, inr, ℕ, ◌<◌, ◌≤◌, Bool, true, false, cond, ◌&&◌, ◌||◌, ◌==◌, List, [], ◌∷◌, ◌++◌, length, get_or, drop, refl, sym, ap, ◌∙◌, subst, arith, length-append}
use Rattle.std.specs.Prelude.{All, nat_le}
use Rattle.std.specs.Str.Parse.{IsNumeral, AllDigits}
use Rattle.std.proofs.lemmas.Bool.{and_parts}
use Rattle.std.proofs.lemmas.Bool.Decides.{nat_tests}
use Rattle.std.proofs.lemmas.Str.Parse.{digit_at}
use Rattle.pattern_lexer.specs.declared.token.TokenKind.{TokenKind}
use Rattle.pattern_lexer.specs.declared.token.TokenKind.TheVariants.{Word, HyphenWord, Number, String, Hex, Binary, Timestamp}
use Rattle.pattern_lexer.specs.Word.{IsWordPart, IsHyphenWordPart}
use Rattle.pattern_lexer.specs.Values.{IsNumberText, IsPrefixedText, string_text}
use Rattle.pattern_lexer.specs.Table.{IsToken}

-- a byte that extends no token but one in quotes
pub record IsStop (c : ℕ) : Type 0 where
  pub part : ¬ IsHyphenWordPart c
  pub quote : c ≢ 39
  pub equal : c ≢ 61
  pub greater : c ≢ 62

-- nothing follows, or such a byte
abbrev pub Stops : List ℕ → Type 0
Stops [] = Unit {0}
Stops (c ∷ after) = IsStop c

-- and no dot
abbrev pub Ends : List ℕ → Type 0
Ends [] = Unit {0}
Ends (c ∷ after) = IsStop c × (c ≢ 46)

pub ends_stops : (after : List ℕ) → Ends after → Stops after
ends_stops [] h = tt
ends_stops (c ∷ after) h = h.0

-- letters, digits, `_`, `-` and `=`
abbrev continues : ℕ → Bool
continues b = (nat_le 65 b && nat_le b 90) || ((nat_le 97 b && nat_le b 122) || (b == 61))

same : (b c : ℕ) → (b == c) ≡ true → b ≡ c
same b c e = grind (arith, nat_tests)

continues_is : (b : ℕ) → continues b ≡ true → IsHyphenWordPart b ⊎ (b ≡ 61)
continues_is b h = grind (arith, nat_tests)

abbrev all_continue : List ℕ → Bool
all_continue [] = true
all_continue (b ∷ bs) = continues b && all_continue bs

abbrev behind : List ℕ → List ℕ
behind [] = []
behind (b ∷ bs) = bs

continues_at : (xs : List ℕ) (c : ℕ) (r : List ℕ) → all_continue (xs ++ c ∷ r) ≡ true → continues c ≡ true
continues_at [] c r e = (and_parts (continues c) (all_continue r) e).0
continues_at (x ∷ xs) c r e = continues_at xs c r (and_parts (continues x) (all_continue (xs ++ c ∷ r)) e).1

-- no text of the table's marks and keywords has a stop after its first byte
not_literal : (literal : List ℕ) → all_continue (behind literal) ≡ true → (text : List ℕ) (c : ℕ) (r : List ℕ) → 0 < length text → IsStop c → text ++ c ∷ r ≡ literal → ⊥
not_literal literal e [] c r some stop h = absurd (omega arith)
not_literal literal e (x ∷ text) c r some stop h = case (continues_is c (continues_at text c r (ap (λ (y : List ℕ). all_continue (behind y)) h ∙ e)))
  where
    case : IsHyphenWordPart c ⊎ (c ≡ 61) → ⊥
    case (inl p) = stop.part p
    case (inr q) = stop.equal q

at_length : (text : List ℕ) (c d : ℕ) (r : List ℕ) → get_or (text ++ c ∷ r) (length text) d ≡ c
at_length [] c d r = refl
at_length (x ∷ text) c d r = at_length text c d r

longer_by_one : (text : List ℕ) (c : ℕ) (r : List ℕ) → length text < length (text ++ c ∷ r)
longer_by_one text c r = simp length-append (omega arith)

not_digits : (text : List ℕ) (c : ℕ) (r : List ℕ) → IsStop c → AllDigits 10 (text ++ c ∷ r) → ⊥
not_digits text c r stop h =
    let d = digit_at (text ++ c ∷ r) (length text) h (longer_by_one text c r) in
    let e = at_length text c 0 r in
    stop.part (inl (inr (subst (λ (x : ℕ). (48 ≤ x) × (x ≤ 57)) e d)))

pub first_bytes : (x y : ℕ) (xs ys : List ℕ) → x ∷ xs ≡ y ∷ ys → x ≡ y
first_bytes x y xs ys e = cc

pub rests : (x y : ℕ) (xs ys : List ℕ) → x ∷ xs ≡ y ∷ ys → xs ≡ ys
rests x y xs ys e = cc

-- a sign and digits, or digits
abbrev pub IsSigned : List ℕ → Type 0
IsSigned text = (c : ℕ) × (digits : List ℕ) × (text ≡ c ∷ digits) × ((c ≡ 43) ⊎ (c ≡ 45)) × IsNumeral 10 digits

signed_by : (c : ℕ) (digits : List ℕ) (minus plus : Bool) → (minus ≡ true → c ≡ 45) → (plus ≡ true → c ≡ 43) → IsNumeral 10 (cond minus digits (drop (cond plus 1 0) (c ∷ digits))) → IsNumeral 10 (c ∷ digits) ⊎ IsSigned (c ∷ digits)
signed_by c digits true plus f g h = inr (c, digits, refl, inr (f refl), h)
signed_by c digits false true f g h = inr (c, digits, refl, inl (g refl), h)
signed_by c digits false false f g h = inl h

pub signed : (text : List ℕ) → IsNumberText text → IsNumeral 10 text ⊎ IsSigned text
signed [] h = inl h
signed (c ∷ digits) h = signed_by c digits (c == 45) (c == 43) (same c 45) (same c 43) h

not_number : (text : List ℕ) (c : ℕ) (r : List ℕ) → 0 < length text → IsStop c → IsNumberText (text ++ c ∷ r) → ⊥
not_number [] c r some stop h = absurd (omega arith)
not_number (x ∷ text) c r some stop h = case (signed ((x ∷ text) ++ c ∷ r) h)
  where
    case : IsNumeral 10 ((x ∷ text) ++ c ∷ r) ⊎ IsSigned ((x ∷ text) ++ c ∷ r) → ⊥
    case (inl d) = not_digits (x ∷ text) c r stop d.1
    case (inr s) = let e : text ++ c ∷ r ≡ s.1 = rests x s.0 (text ++ c ∷ r) s.1 s.2 in not_digits text c r stop (subst (AllDigits 10) (sym e) s.4.1)

not_lettered : (l : ℕ) (text : List ℕ) (c : ℕ) (r inside : List ℕ) → 0 < length text → All (λ b. b ≢ 39) text → IsStop c → IsPrefixedText (l ∷ []) (text ++ c ∷ r) inside → ⊥
not_lettered l [] c r inside some plain stop h = absurd (omega arith)
not_lettered l (x ∷ []) c r inside some plain stop h = let e = h.spelled in stop.quote (cc)
not_lettered l (x ∷ y ∷ text) c r inside some plain stop h = let e = h.spelled in plain 1 0 (omega arith) (cc)

not_words : (text : List ℕ) (c : ℕ) (r words : List ℕ) → 0 < length text → All (λ b. b ≢ 39) text → text ++ c ∷ r ≡ string_text words → ⊥
not_words [] c r words some plain h = absurd (omega arith)
not_words (x ∷ text) c r words some plain h = plain 0 0 (omega arith) (cc)

-- no token has a stop after a text without quotes
no_token : (kind : TokenKind) (text : List ℕ) (c : ℕ) (r : List ℕ) → 0 < length text → All (λ b. b ≢ 39) text → IsStop c → ¬ IsToken kind (text ++ c ∷ r)
no_token Word text c r some plain stop h = stop.part (inl (subst IsWordPart (at_length text c 0 r) (h.parts (length text) 0 (longer_by_one text c r))))
no_token HyphenWord text c r some plain stop h = stop.part (subst IsHyphenWordPart (at_length text c 0 r) (h.parts (length text) 0 (longer_by_one text c r)))
no_token Number text c r some plain stop h = not_number text c r some stop h
no_token String text c r some plain stop h = not_words text c r h.0 some plain h.1
no_token Hex text c r some plain stop h = not_lettered 104 text c r h.0 some plain stop h.1
no_token Binary text c r some plain stop h = not_lettered 98 text c r h.0 some plain stop h.1
no_token Timestamp text c r some plain stop h = not_lettered 116 text c r h.0 some plain stop h.1
no_token _ text c r some plain stop h = not_literal _ refl text c r some stop h

-- a longer front of one list continues with what follows the shorter
pub data Longer (text after : List ℕ) : List ℕ → Type 0 where
  longer : (c : ℕ) (r more : List ℕ) → after ≡ c ∷ r ++ more → Longer text after (text ++ c ∷ r)

grow : (x y : ℕ) (text after whole : List ℕ) → x ≡ y → Longer text after whole → Longer (x ∷ text) after (y ∷ whole)
grow x y text after whole e (longer c r more f) = subst (λ (z : ℕ). Longer (x ∷ text) after (z ∷ (text ++ c ∷ r))) e (longer c r more f)

longer_front : (text after whole more : List ℕ) → text ++ after ≡ whole ++ more → length text < length whole → Longer text after whole
longer_front [] after [] more e h = absurd (omega arith)
longer_front [] after (c ∷ r) more e h = longer c r more e
longer_front (x ∷ text) after [] more e h = absurd (omega arith)
longer_front (x ∷ text) after (y ∷ whole) more e h = grow x y text after whole (first_bytes x y _ _ e) (longer_front text after whole more (rests x y _ _ e) (omega arith))

no_longer : (kind : TokenKind) (text after whole : List ℕ) → 0 < length text → All (λ b. b ≢ 39) text → Stops after → IsToken kind whole → Longer text after whole → ⊥
no_longer kind text after whole some plain stops h (longer c r more e) = no_token kind text c r some plain (subst Stops e stops) h

at_most : (a b : ℕ) → (b < a → ⊥) → a ≤ b
at_most a b h = grind arith

-- a text without quotes ends before a stop
pub longest_plain : (text after : List ℕ) → 0 < length text → All (λ b. b ≢ 39) text → Stops after → (other : TokenKind) (whole more : List ℕ) → text ++ after ≡ whole ++ more → IsToken other whole → length whole ≤ length text
longest_plain text after some plain stops other whole more e h =
    at_most (length whole) (length text) (λ b. no_longer other text after whole some plain stops h (longer_front text after whole more e b))
