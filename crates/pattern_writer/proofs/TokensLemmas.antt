-- The tokens of a canonical text, each with the end that it has there.
use Rattle.std.proofs.Common.{◌≡◌, ◌≢◌, ◌⊎◌, inl, inr, ℕ, ◌<◌, Bool, true, false, not, ◌&&◌, ◌==◌, List, [], ◌∷◌, length, get_or, refl, sym, ap, arith, Some, ℤ}
use Rattle.std.specs.Prelude.{All, codes, slice_get, nat_lt}
use Rattle.std.proofs.lemmas.Bool.{and_parts}
use Rattle.std.proofs.lemmas.Bool.Decides.{nat_tests}
use Rattle.std.proofs.lemmas.List.Elements.{All-cons}
use Rattle.pattern_lexer.specs.declared.token.Token.{Token}
use Rattle.pattern_lexer.specs.declared.token.TokenKind.{TokenKind}
use Rattle.pattern_lexer.specs.declared.token.TokenKind.TheVariants as kind
use Rattle.pattern_lexer.specs.Word.{IsWordStart, IsHyphenWordPart, HasAt, IsWord, IsHyphenWord}
use Rattle.pattern_lexer.specs.Values.{HasValue, quoted, string_text, IsIntegerText}
use Rattle.pattern_lexer.specs.Table.{IsToken}
use Rattle.pattern_lexer.specs.Reading.{IsUnsupported, IsUsable}
use Rattle.pattern_lexer.specs.declared.refusal.LeftWord.{LeftWord}
use Rattle.pattern_lexer.specs.declared.refusal.LeftWord.TheVariants.{Matches, Fraction, DoubleEqual, LessGreater}
use Rattle.pattern_grammar.specs.declared.class.TokenClass.{TokenClass}
use Rattle.pattern_grammar.specs.declared.class.TokenClass.TheVariants.{Root}
use Rattle.pattern_grammar.specs.TokenClass.{is_in}
use Rattle.pattern_lexer.specs.Spans.{At, IsItself}
use Rattle.pattern_writer.proofs.NumeralsLemmas.{IsNumeralShape}
use Rattle.pattern_writer.proofs.LongestLemmas.{Stops, Ends, ends_stops, longest_plain}
use Rattle.pattern_writer.proofs.AloneLemmas.{IsAlone, part_quote, longest_alone, longest_words, longest_lettered}
use Rattle.pattern_writer.proofs.PiecesLemmas.{Stands}
use Rattle.pattern_writer.proofs.WrittenLemmas.{Fits, Written, IsOne, token, as_tree}

no_letter : (after : List ℕ) → Stops after → ¬ HasAt 0 IsWordStart after
no_letter [] h x = x
no_letter (c ∷ after) h x = h.part (inl (inl x))

first_is : (c d : ℕ) (after : List ℕ) → slice_get (c ∷ after) 0 ≡ Some d → c ≡ d
first_is c d after e = cc

no_dot : (after : List ℕ) → Ends after → slice_get after 0 ≡ Some 46 → ⊥
no_dot [] h e = cc
no_dot (c ∷ after) h e = h.1 (first_is c 46 after e)

no_equal : (after : List ℕ) → Stops after → slice_get after 0 ≡ Some 61 → ⊥
no_equal [] h e = cc
no_equal (c ∷ after) h e = h.equal (first_is c 61 after e)

no_greater : (after : List ℕ) → Stops after → slice_get after 0 ≡ Some 62 → ⊥
no_greater [] h e = cc
no_greater (c ∷ after) h e = h.greater (first_is c 62 after e)

usable : (k : TokenKind) (text after : List ℕ) → text ≢ codes "MATCHES" → Stops after → (k ≡ kind.Number → Ends after) → IsUsable k text after
usable k text after free stops ends = record { ends = λ r. no_letter after stops r.letter; used = used }
  where
    used : (word : LeftWord) → ¬ IsUnsupported word k text after
    used Matches h = free h
    used Fraction h = no_dot after (ends h.0) h.1
    used DoubleEqual h = no_equal after stops h.1
    used LessGreater h = no_greater after stops h.1

-- kinds that anything may follow
pub record IsFree (k : TokenKind) : Type 0 where
  pub number : k ≢ kind.Number
  pub equal : k ≢ kind.Equal
  pub less : k ≢ kind.Less

usable_free : (k : TokenKind) (text after : List ℕ) → IsFree k → text ≢ codes "MATCHES" → IsUsable k text after
usable_free k text after f free = record { ends = λ r. f.number r.number; used = used }
  where
    used : (word : LeftWord) → ¬ IsUnsupported word k text after
    used Matches h = free h
    used Fraction h = f.number h.0
    used DoubleEqual h = f.equal h.0
    used LessGreater h = f.less h.0

-- a text without quotes
pub record IsPlainText (text : List ℕ) : Type 0 where
  pub some : 0 < length text
  pub plain : All (λ b. b ≢ 39) text
  pub ascii : get_or text 0 0 < 128
  pub free : text ≢ codes "MATCHES"

pub fits_plain : (k : TokenKind) (text after : List ℕ) → IsToken k text → HasValue k text → IsPlainText text → Stops after → (k ≡ kind.Number → Ends after) → Fits k text after
fits_plain k text after is value p stops ends = record {
  first = record { spelled = refl; token = is; longest = longest_plain text after p.some p.plain stops };
  usable = usable k text after p.free stops ends;
  value = value;
  some = p.some;
  ascii = p.ascii;
}

not_matches : (text : List ℕ) → get_or text 0 0 ≢ 77 → text ≢ codes "MATCHES"
not_matches text h e = h (ap (λ (x : List ℕ). get_or x 0 0) e)

abbrev pub no_quotes : List ℕ → Bool
no_quotes [] = true
no_quotes (b ∷ bs) = not (b == 39) && no_quotes bs

abbrev pub plain_test : List ℕ → Bool
plain_test [] = false
plain_test (b ∷ bs) = (nat_lt b 128 && not (b == 77)) && no_quotes (b ∷ bs)

differ : (b c : ℕ) → not (b == c) ≡ true → b ≢ c
differ b c h e = let g : not (c == c) ≡ true = rw e at h in grind (arith, nat_tests)

below : (b c : ℕ) → nat_lt b c ≡ true → b < c
below b c h = grind (arith, nat_tests)

pub all_plain : (text : List ℕ) → no_quotes text ≡ true → All (λ b. b ≢ 39) text
all_plain [] e = λ k d b. absurd (omega arith)
all_plain (c ∷ text) e = All-cons (λ b. b ≢ 39) c text (differ c 39 (and_parts (not (c == 39)) (no_quotes text) e).0) (all_plain text (and_parts (not (c == 39)) (no_quotes text) e).1)

pub plain_literal : (text : List ℕ) → plain_test text ≡ true → IsPlainText text
plain_literal [] e = absurd (cc)
plain_literal (b ∷ bs) e =
    let f = and_parts (nat_lt b 128 && not (b == 77)) (no_quotes (b ∷ bs)) e in
    let g = and_parts (nat_lt b 128) (not (b == 77)) f.0 in
    record {
      some = omega arith;
      plain = all_plain (b ∷ bs) f.1;
      ascii = below b 128 g.0;
      free = not_matches (b ∷ bs) (differ b 77 g.1);
    }

-- marks and keywords before a stop
pub literal : (class : TokenClass) (k : TokenKind) (text : List ℕ) → is_in class k ≡ true → IsToken k text → HasValue k text → plain_test text ≡ true → k ≢ kind.Number → Written (IsOne class) (λ (whole : List ℕ) (t : Token). Stands whole t k text) Stops text
literal class k text among is value p n = token class k Stops text among (λ after h. fits_plain k text after is value (plain_literal text p) h (λ e. absurd (n e)))

-- whatever follows
abbrev pub Anything : List ℕ → Type 0
Anything after = Unit {0}

-- the marks that any token may follow
pub mark : (class : TokenClass) (k : TokenKind) (m : ℕ) → is_in class k ≡ true → IsToken k (m ∷ []) → HasValue k (m ∷ []) → IsAlone m → IsFree k → m < 77 ⊎ (77 < m × (m < 128)) → Written (IsOne class) (λ (whole : List ℕ) (t : Token). Stands whole t k (m ∷ [])) Anything (m ∷ [])
mark class k m among is value alone free low = token class k Anything (m ∷ []) among (λ after h. record {
  first = record { spelled = refl; token = is; longest = longest_alone m after alone };
  usable = usable_free k (m ∷ []) after free (not_matches (m ∷ []) (λ e. grind arith));
  value = value;
  some = omega arith;
  ascii = grind arith;
})

start_ascii : (c : ℕ) → IsWordStart c → c < 128
start_ascii c h = grind arith

pub plain_name : (text : List ℕ) → HasAt 0 IsWordStart text → All IsHyphenWordPart text → text ≢ codes "MATCHES" → IsPlainText text
plain_name [] h all free = absurd h
plain_name (c ∷ text) h all free = record { some = omega arith; plain = λ k d b. part_quote _ (all k d b); ascii = start_ascii c h; free = free }

-- the type of an object
pub root : (text : List ℕ) → IsWord text ⊎ IsHyphenWord text → text ≢ codes "MATCHES" → Written (IsOne Root) (λ (whole : List ℕ) (t : Token). At IsItself whole t text) Stops text
root text h free = case h
  where
    itself : (k : TokenKind) → Written (IsOne Root) (λ (whole : List ℕ) (t : Token). Stands whole t k text) Stops text → Written (IsOne Root) (λ (whole : List ℕ) (t : Token). At IsItself whole t text) Stops text
    itself k w = as_tree (IsOne Root) (λ (whole : List ℕ) (t : Token). At IsItself whole t text) (λ whole ts t i s. (t, i, record { cut = s.cut; is = sym s.text })) w

    case : IsWord text ⊎ IsHyphenWord text → Written (IsOne Root) (λ (whole : List ℕ) (t : Token). At IsItself whole t text) Stops text
    case (inl w) = itself kind.Word (token Root kind.Word Stops text refl (λ after e. fits_plain kind.Word text after w tt (plain_name text w.starts (λ k d b. inl (w.parts k d b)) free) e (λ x. absurd (cc))))
    case (inr w) = itself kind.HyphenWord (token Root kind.HyphenWord Stops text refl (λ after e. fits_plain kind.HyphenWord text after w tt (plain_name text w.starts w.parts free) e (λ x. absurd (cc))))

-- words in quotes
pub words : (class : TokenClass) (w : List ℕ) → is_in class kind.String ≡ true → Written (IsOne class) (λ (whole : List ℕ) (t : Token). Stands whole t kind.String (string_text w)) Anything (string_text w)
words class w among = token class kind.String Anything (string_text w) among (λ after h. record {
  first = record { spelled = refl; token = (w, refl); longest = longest_words w after };
  usable = usable_free kind.String (string_text w) after (record { number = λ e. cc; equal = λ e. cc; less = λ e. cc }) (not_matches (string_text w) (λ e. omega arith));
  value = (w, refl);
  some = omega arith;
  ascii = omega arith;
})

-- what stands in quotes after a letter
pub lettered : (class : TokenClass) (k : TokenKind) (l : ℕ) (inside : List ℕ) → is_in class k ≡ true → IsToken k (quoted (l ∷ []) inside) → HasValue k (quoted (l ∷ []) inside) → IsFree k → 77 < l → l < 128 → All (λ c. c ≢ 39) inside
    → Written (IsOne class) (λ (whole : List ℕ) (t : Token). Stands whole t k (quoted (l ∷ []) inside)) Anything (quoted (l ∷ []) inside)
lettered class k l inside among is value free low high u = token class k Anything (quoted (l ∷ []) inside) among (λ after h. record {
  first = record { spelled = refl; token = is; longest = longest_lettered l inside after (λ e. omega arith) u };
  usable = usable_free k (quoted (l ∷ []) inside) after free (not_matches (quoted (l ∷ []) inside) (λ e. omega arith));
  value = value;
  some = omega arith;
  ascii = high;
})

-- a number
pub number : (class : TokenClass) (z : ℤ) (text : List ℕ) → is_in class kind.Number ≡ true → IsIntegerText text z → IsNumeralShape text → Written (IsOne class) (λ (whole : List ℕ) (t : Token). Stands whole t kind.Number text) Ends text
number class z text among is shape = token class kind.Number Ends text among (λ after e.
    fits_plain kind.Number text after is.number (z, is) (record { some = shape.some; plain = shape.plain; ascii = shape.ascii; free = not_matches text shape.first }) (ends_stops after e) (λ x. e))
