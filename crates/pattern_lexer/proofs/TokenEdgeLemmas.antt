-- The edges of a token are ASCII, so that a text may be cut there.
use Rattle.std.proofs.Common.{◌≡◌, ℕ, ◌+◌, ◌-◌, ◌<◌, inl, inr, Bool, true, false, cond, ◌&&◌, ◌==◌, nat_lt, List, [], ◌∷◌, ◌++◌, length, get_or, take, drop, All, IsUtf8, flat_map, suc, refl, sym, ap, ◌∙◌, subst, arith, lit<, length-append}
use Rattle.std.specs.Str.{IsCharBoundary}
use Rattle.std.specs.Str.Parse.{IsNumeral}
use Rattle.std.proofs.lemmas.Bool.Decides.{nat_tests}
use Rattle.std.proofs.lemmas.List.{get_or_append_left, get_or-append-add, take_at, drop_at}
use Rattle.std.proofs.lemmas.Str.{IsCharBoundary-before_ascii, IsCharBoundary-after_ascii}
use Rattle.std.proofs.lemmas.Str.Parse.{digit_at}
use Rattle.pattern_lexer.specs.declared.token.TokenKind.{TokenKind}
use Rattle.pattern_lexer.specs.declared.token.TokenKind.TheVariants.{SquareOpen, SquareClose, RoundOpen, RoundClose, Dot, Colon, Comma, Star, Equal, Differ, Less, LessEqual, Greater, GreaterEqual, And, Or, Not, FollowedBy, Within, Seconds, Repeats, Times, Start, Stop, Among, Like, Subset, Superset, Exists, TrueWord, FalseWord, Word, HyphenWord, Number, String, Hex, Binary, Timestamp}
use Rattle.pattern_lexer.specs.Word.{IsWordStart, IsWordPart, IsHyphenWordPart, HasAt}
use Rattle.pattern_lexer.specs.Values.{escaped, IsNumberText, IsPrefixedText}
use Rattle.pattern_lexer.specs.Table.{IsToken}

-- there is a first and a last byte, and both are ASCII
pub record Edges (text : List ℕ) : Type 0 where
  pub some : 0 < length text
  pub first : get_or text 0 0 < 128
  pub last : get_or text (length text - 1) 0 < 128

unfoldable edges_test : List ℕ → Bool
edges_test text = nat_lt 0 (length text) && (nat_lt (get_or text 0 0) 128 && nat_lt (get_or text (length text - 1) 0) 128)

both : (a b c : Bool) → (a && (b && c)) ≡ true → (a ≡ true) × (b ≡ true) × (c ≡ true)
both true true true e = (refl, refl, refl)
both true true false e = absurd (cc)
both true false c e = absurd (cc)
both false b c e = absurd (cc)

below : (a b : ℕ) → nat_lt a b ≡ true → a < b
below a b e = grind (arith, nat_tests)

edges_from_test : (text : List ℕ) → edges_test text ≡ true → Edges text
unfolding edges_test
edges_from_test text e =
    let h = both (nat_lt 0 (length text)) (nat_lt (get_or text 0 0) 128) (nat_lt (get_or text (length text - 1) 0) 128) e in
    record { some = below 0 (length text) h.0; first = below (get_or text 0 0) 128 h.1; last = below (get_or text (length text - 1) 0) 128 h.2 }

-- a list with some last element
last_of : (front : List ℕ) (c : ℕ) → get_or (front ++ c ∷ []) (length (front ++ c ∷ []) - 1) 0 ≡ c
last_of front c =
    let n : length (front ++ c ∷ []) - 1 ≡ length front + 0 = simp length-append (omega arith) in
    ap (λ (i : ℕ). get_or (front ++ c ∷ []) i 0) n ∙ get_or-append-add front (c ∷ []) 0 0

edges_between : (c d : ℕ) (front : List ℕ) → c < 128 → d < 128 → Edges ((c ∷ front) ++ d ∷ [])
edges_between c d front p q = record {
  some = simp length-append (omega arith);
  first = p;
  last = subst (λ (n : ℕ). n < 128) (sym (last_of (c ∷ front) d)) q;
}

ascii_part : (c : ℕ) → IsHyphenWordPart c → c < 128
ascii_part c (inl (inl (inl (inl h)))) = omega (arith, h.1)
ascii_part c (inl (inl (inl (inr h)))) = omega (arith, h.1)
ascii_part c (inl (inl (inr h))) = omega (arith, h)
ascii_part c (inl (inr h)) = omega (arith, h.1)
ascii_part c (inr h) = omega (arith, h)

name_edges : (text : List ℕ) → HasAt 0 IsWordStart text → All IsHyphenWordPart text → Edges text
name_edges [] h all = absurd h
name_edges (c ∷ text) h all = record {
  some = omega arith;
  first = ascii_part c (inl (inl h));
  last = let i : length (c ∷ text) - 1 < length (c ∷ text) = omega arith in ascii_part (get_or (c ∷ text) (length (c ∷ text) - 1) 0) (all (length (c ∷ text) - 1) 0 i);
}

numeral_edges : (digits : List ℕ) → IsNumeral 10 digits → Edges digits
numeral_edges digits h =
    let some = h.0 in
    let i : length digits - 1 < length digits = omega arith in
    let first = digit_at digits 0 h.1 some in
    let last = digit_at digits (length digits - 1) h.1 i in
    record { some = some; first = omega (arith, first.1); last = omega (arith, last.1) }

cons_edges : (c : ℕ) (text : List ℕ) → c < 128 → Edges text → Edges (c ∷ text)
cons_edges c [] p e = absurd (omega (arith, e.some))
cons_edges c (d ∷ text) p e = record {
  some = omega arith;
  first = p;
  last =
      let n : length (c ∷ d ∷ text) - 1 ≡ suc (length (d ∷ text) - 1) = omega arith in
      subst (λ (i : ℕ). get_or (c ∷ d ∷ text) i 0 < 128) (sym n) e.last;
}

number_by : (b d : Bool) (c : ℕ) (cs : List ℕ) → (c == 45) ≡ b → (c == 43) ≡ d → IsNumeral 10 (cond b cs (drop (cond d 1 0) (c ∷ cs))) → Edges (c ∷ cs)
number_by true d c cs p q h = cons_edges c cs (grind (arith, nat_tests)) (numeral_edges cs h)
number_by false true c cs p q h = cons_edges c cs (grind (arith, nat_tests)) (numeral_edges cs h)
number_by false false c cs p q h = numeral_edges (c ∷ cs) h

number_edges : (text : List ℕ) → IsNumberText text → Edges text
number_edges [] h = absurd (omega (arith, h.0))
number_edges (c ∷ cs) h = number_by (c == 45) (c == 43) c cs refl refl h

prefixed_edges : (letter : ℕ) (text inside : List ℕ) → letter < 128 → IsPrefixedText (letter ∷ []) text inside → Edges text
prefixed_edges letter text inside p h = subst Edges (sym h.spelled) (edges_between letter 39 (39 ∷ inside) p (lit< tt))

word_parts : (text : List ℕ) → All IsWordPart text → All IsHyphenWordPart text
word_parts text all = λ k d l. inl (all k d l)

pub token_edges : (kind : TokenKind) (text : List ℕ) → IsToken kind text → Edges text
unfolding edges_test
token_edges SquareOpen text h = edges_from_test text (ap edges_test h)
token_edges SquareClose text h = edges_from_test text (ap edges_test h)
token_edges RoundOpen text h = edges_from_test text (ap edges_test h)
token_edges RoundClose text h = edges_from_test text (ap edges_test h)
token_edges Dot text h = edges_from_test text (ap edges_test h)
token_edges Colon text h = edges_from_test text (ap edges_test h)
token_edges Comma text h = edges_from_test text (ap edges_test h)
token_edges Star text h = edges_from_test text (ap edges_test h)
token_edges Equal text h = edges_from_test text (ap edges_test h)
token_edges Differ text h = edges_from_test text (ap edges_test h)
token_edges Less text h = edges_from_test text (ap edges_test h)
token_edges LessEqual text h = edges_from_test text (ap edges_test h)
token_edges Greater text h = edges_from_test text (ap edges_test h)
token_edges GreaterEqual text h = edges_from_test text (ap edges_test h)
token_edges And text h = edges_from_test text (ap edges_test h)
token_edges Or text h = edges_from_test text (ap edges_test h)
token_edges Not text h = edges_from_test text (ap edges_test h)
token_edges FollowedBy text h = edges_from_test text (ap edges_test h)
token_edges Within text h = edges_from_test text (ap edges_test h)
token_edges Seconds text h = edges_from_test text (ap edges_test h)
token_edges Repeats text h = edges_from_test text (ap edges_test h)
token_edges Times text h = edges_from_test text (ap edges_test h)
token_edges Start text h = edges_from_test text (ap edges_test h)
token_edges Stop text h = edges_from_test text (ap edges_test h)
token_edges Among text h = edges_from_test text (ap edges_test h)
token_edges Like text h = edges_from_test text (ap edges_test h)
token_edges Subset text h = edges_from_test text (ap edges_test h)
token_edges Superset text h = edges_from_test text (ap edges_test h)
token_edges Exists text h = edges_from_test text (ap edges_test h)
token_edges TrueWord text h = edges_from_test text (ap edges_test h)
token_edges FalseWord text h = edges_from_test text (ap edges_test h)
token_edges Word text h = name_edges text h.starts (word_parts text h.parts)
token_edges HyphenWord text h = name_edges text h.starts h.parts
token_edges Number text h = number_edges text h
token_edges String text h = subst Edges (sym h.1) (edges_between 39 39 (flat_map escaped h.0) (lit< tt) (lit< tt))
token_edges Hex text h = prefixed_edges 104 text h.0 (lit< tt) h.1
token_edges Binary text h = prefixed_edges 98 text h.0 (lit< tt) h.1
token_edges Timestamp text h = prefixed_edges 116 text h.0 (lit< tt) h.1

-- a text may be cut around a part with such edges
pub record Cuts (text : List ℕ) (start end : ℕ) (part : List ℕ) : Type 0 where
  pub from : IsCharBoundary text start
  pub to : IsCharBoundary text end
  pub is : take (end - start) (drop start text) ≡ part

cut_there : (text front part after : List ℕ) → IsUtf8 text → text ≡ front ++ (part ++ after) → Edges part → Cuts text (length front) (length front + length part) part
cut_there text front part after utf8 e edges =
    let some = edges.some in
    let n : length text ≡ length front + (length part + length after) = ap length e ∙ simp length-append in
    let read : (i : ℕ) → i < length part → get_or text (length front + i) 0 ≡ get_or part i 0 = λ i l.
    ap (λ (xs : List ℕ). get_or xs (length front + i) 0) e ∙ get_or-append-add front (part ++ after) i 0 ∙ get_or_append_left part after 0 i l in
    let start : length front + 0 < length text = omega arith in
    let stop : length front + (length part - 1) < length text = omega arith in
    let first : get_or text (length front + 0) 0 < 128 = subst (λ (c : ℕ). c < 128) (sym (read 0 some)) edges.first in
    let last : get_or text (length front + (length part - 1)) 0 < 128 = subst (λ (c : ℕ). c < 128) (sym (read (length part - 1) (omega arith))) edges.last in
    let zero : length front + 0 ≡ length front = omega arith in
    let end : length front + (length part - 1) + 1 ≡ length front + length part = omega arith in
    let width : length front + length part - length front ≡ length part = omega arith in
    record {
      from = subst (λ (i : ℕ). IsCharBoundary text i) zero (IsCharBoundary-before_ascii text (length front + 0) start first);
      to = subst (λ (i : ℕ). IsCharBoundary text i) end (IsCharBoundary-after_ascii text (length front + (length part - 1)) utf8 stop last);
      is =
          ap (λ (k : ℕ). take k (drop (length front) text)) width
          ∙ ap (λ (xs : List ℕ). take (length part) (drop (length front) xs)) e
          ∙ ap (λ (xs : List ℕ). take (length part) xs) (drop_at front (part ++ after) (length front) refl)
          ∙ take_at part after (length part) refl;
    }

pub cuts : (text front part after : List ℕ) (start end : ℕ) → IsUtf8 text → text ≡ front ++ (part ++ after) → start ≡ length front → end ≡ start + length part → Edges part → Cuts text start end part
cuts text front part after start end utf8 e p q edges =
    let h = cut_there text front part after utf8 e edges in
    let f : length front ≡ start = sym p in
    let t : length front + length part ≡ end = omega arith in
    let h1 : Cuts text start (length front + length part) part = subst (λ (i : ℕ). Cuts text i (length front + length part) part) f h in
    subst (λ (i : ℕ). Cuts text start i part) t h1
