-- Tokens that end by themselves: brackets, dots and colons, words in quotes, and what stands in quotes
-- after a letter.
use Rattle.std.proofs.Common.{◌≡◌, ◌≢◌, ◌⊎◌, inl, inr, ℕ, suc, ◌≤◌, Bool, true, not, ◌&&◌, ◌||◌, ◌==◌, List, [], ◌∷◌, ◌++◌, length, get_or, refl, sym, ◌∙◌, subst, arith, append_assoc}
use Rattle.std.specs.Prelude.{All, nat_le, flat_map}
use Rattle.std.specs.Str.Parse.{IsNumeral, AllDigits}
use Rattle.std.proofs.lemmas.Bool.Decides.{nat_tests}
use Rattle.std.proofs.lemmas.Str.Parse.{digit_at}
use Rattle.pattern_lexer.specs.declared.token.TokenKind.{TokenKind}
use Rattle.pattern_lexer.specs.declared.token.TokenKind.TheVariants.{Word, HyphenWord, Number, String, Hex, Binary, Timestamp}
use Rattle.pattern_lexer.specs.Word.{IsWordStart, IsHyphenWordPart, HasAt}
use Rattle.pattern_lexer.specs.Values.{IsNumberText, quoted, escaped, string_text}
use Rattle.pattern_lexer.specs.Table.{IsToken}
use Rattle.pattern_writer.proofs.LongestLemmas.{IsSigned, signed, rests}

-- the marks that any token may follow: `(`, `.`, `:` and `[`
abbrev pub IsAlone : ℕ → Type 0
IsAlone b = (b ≡ 40) ⊎ ((b ≡ 46) ⊎ ((b ≡ 58) ⊎ (b ≡ 91)))

-- how a token begins, as far as it tells tokens apart: with no quote as its first or second byte, with
-- one as its first, or with one after a letter
pub data Opens : List ℕ → Type 0 where
  nothing : Opens []
  mark : (b : ℕ) → b ≢ 39 → Opens (b ∷ [])
  letters : (b : ℕ) (r : List ℕ) → b ≢ 39 → ¬ IsAlone b → get_or r 0 0 ≢ 39 → Opens (b ∷ r)
  words : (w : List ℕ) → Opens (string_text w)
  lettered : (l : ℕ) (inside : List ℕ) → (l ≡ 104) ⊎ ((l ≡ 98) ⊎ (l ≡ 116)) → All (λ c. c ≢ 39) inside → Opens (quoted (l ∷ []) inside)

-- letters, `!`, `<` and `>`
abbrev begins_literal : ℕ → Bool
begins_literal b = (nat_le 60 b && nat_le b 90) || ((nat_le 97 b && nat_le b 122) || (b == 33))

abbrev opens_test : List ℕ → Bool
opens_test [] = true
opens_test (b ∷ []) = not (b == 39)
opens_test (b ∷ c ∷ r) = begins_literal b && not (c == 39)

opens_literal : (literal : List ℕ) → opens_test literal ≡ true → Opens literal
opens_literal [] h = nothing
opens_literal (b ∷ []) h = mark b (λ e. grind (arith, nat_tests))
opens_literal (b ∷ c ∷ r) h = letters b (c ∷ r) (λ e. grind (arith, nat_tests)) (λ a. grind (arith, nat_tests)) (λ e. grind (arith, nat_tests))

opens_as : (literal text : List ℕ) → opens_test literal ≡ true → text ≡ literal → Opens text
opens_as literal text h e = subst Opens (sym e) (opens_literal literal h)

pub part_quote : (c : ℕ) → IsHyphenWordPart c → c ≢ 39
part_quote c h e = grind arith

second_quote : (text : List ℕ) → All IsHyphenWordPart text → get_or text 0 0 ≢ 39
second_quote [] h e = omega arith
second_quote (c ∷ text) h e = part_quote c (h 0 0 (omega arith)) e

opens_word : (text : List ℕ) → HasAt 0 IsWordStart text → All IsHyphenWordPart text → Opens text
opens_word [] h all = absurd h
opens_word (c ∷ text) h all = letters c text (λ e. grind arith) (λ a. grind arith) (second_quote text (λ k d b. all (suc k) d (omega arith)))

digits_quote : (digits : List ℕ) → AllDigits 10 digits → get_or digits 0 0 ≢ 39
digits_quote [] h e = omega arith
digits_quote (c ∷ digits) h e = let d = digit_at (c ∷ digits) 0 h (omega arith) in omega (arith, d.0)

opens_digits : (digits : List ℕ) → IsNumeral 10 digits → Opens digits
opens_digits [] h = nothing
opens_digits (c ∷ digits) h = let d = digit_at (c ∷ digits) 0 h.1 (omega arith) in letters c digits (λ e. omega (arith, d.0)) (λ a. grind (arith, d.0, d.1)) (digits_quote digits h.1.1)

opens_signed : (c : ℕ) (digits : List ℕ) → (c ≡ 43) ⊎ (c ≡ 45) → IsNumeral 10 digits → Opens (c ∷ digits)
opens_signed c digits s h = letters c digits (λ f. grind arith) (λ a. grind arith) (digits_quote digits h.1)

opens_number : (text : List ℕ) → IsNumberText text → Opens text
opens_number text h = case (signed text h)
  where
    case : IsNumeral 10 text ⊎ IsSigned text → Opens text
    case (inl d) = opens_digits text d
    case (inr s) = subst Opens (sym s.2) (opens_signed s.0 s.1 s.3 s.4)

pub opens : (kind : TokenKind) (text : List ℕ) → IsToken kind text → Opens text
opens Word text h = opens_word text h.starts (λ k d b. inl (h.parts k d b))
opens HyphenWord text h = opens_word text h.starts h.parts
opens Number text h = opens_number text h
opens String text h = subst Opens (sym h.1) (words h.0)
opens Hex text h = subst Opens (sym h.1.spelled) (lettered 104 h.0 (inl refl) h.1.unquoted)
opens Binary text h = subst Opens (sym h.1.spelled) (lettered 98 h.0 (inr (inl refl)) h.1.unquoted)
opens Timestamp text h = subst Opens (sym h.1.spelled) (lettered 116 h.0 (inr (inr refl)) h.1.unquoted)
opens _ text h = opens_as _ text refl h

-- a mark ends by itself
alone_front : (m : ℕ) (after whole more : List ℕ) → IsAlone m → m ∷ after ≡ whole ++ more → Opens whole → length whole ≤ 1
alone_front m after whole more a e nothing = omega arith
alone_front m after whole more a e (mark b q) = omega arith
alone_front m after whole more a e (letters b r q n s) = let f : m ≡ b = cc in absurd (n (subst IsAlone f a))
alone_front m after whole more a e (words w) = let f : m ≡ 39 = cc in absurd (grind arith)
alone_front m after whole more a e (lettered l inside h u) = let f : m ≡ l = cc in absurd (grind arith)

pub longest_alone : (m : ℕ) (after : List ℕ) → IsAlone m → (other : TokenKind) (whole more : List ℕ) → (m ∷ []) ++ after ≡ whole ++ more → IsToken other whole → length whole ≤ length (m ∷ [])
longest_alone m after a other whole more e h = alone_front m after whole more a e (opens other whole h)

-- what is written for words tells them from what follows
closed : (u v a b : List ℕ) → (u ++ 39 ∷ []) ++ a ≡ (v ++ 39 ∷ []) ++ b → u ++ 39 ∷ a ≡ v ++ 39 ∷ b
closed u v a b e = sym (append_assoc u (39 ∷ []) a) ∙ e ∙ append_assoc v (39 ∷ []) b

end_differs : (d : ℕ) (a rest : List ℕ) → 39 ∷ a ≡ escaped d ++ rest → ⊥
end_differs d a rest e = grind (arith, nat_tests)

same_step : (c d : ℕ) (x y : List ℕ) → escaped c ++ x ≡ escaped d ++ y → (c ≡ d) × (x ≡ y)
same_step c d x y e = grind (arith, nat_tests)

pub same_words : (v w a b : List ℕ) → flat_map escaped v ++ 39 ∷ a ≡ flat_map escaped w ++ 39 ∷ b → v ≡ w
same_words [] [] a b e = refl
same_words [] (d ∷ w) a b e = absurd (end_differs d a _ (e ∙ append_assoc (escaped d) (flat_map escaped w) (39 ∷ b)))
same_words (c ∷ v) [] a b e = absurd (end_differs c b _ (sym e ∙ append_assoc (escaped c) (flat_map escaped v) (39 ∷ a)))
same_words (c ∷ v) (d ∷ w) a b e =
    let f = same_step c d _ _ (sym (append_assoc (escaped c) (flat_map escaped v) (39 ∷ a)) ∙ e ∙ append_assoc (escaped d) (flat_map escaped w) (39 ∷ b)) in
    let g : v ≡ w = same_words v w a b f.1 in
    let h = f.0 in
    cc

same_inside : (v w a b : List ℕ) → All (λ c. c ≢ 39) v → All (λ c. c ≢ 39) w → v ++ 39 ∷ a ≡ w ++ 39 ∷ b → v ≡ w
same_inside [] [] a b h k e = refl
same_inside [] (c ∷ w) a b h k e = absurd (k 0 0 (omega arith) (cc))
same_inside (c ∷ v) [] a b h k e = absurd (h 0 0 (omega arith) (cc))
same_inside (c ∷ v) (d ∷ w) a b h k e =
    let f : c ≡ d = cc in
    let g : v ≡ w = same_inside v w a b (λ i x l. h (suc i) x (omega arith)) (λ i x l. k (suc i) x (omega arith)) (cc) in
    cc

words_front : (w after whole more : List ℕ) → string_text w ++ after ≡ whole ++ more → Opens whole → length whole ≤ length (string_text w)
words_front w after whole more e nothing = omega arith
words_front w after whole more e (mark b q) = absurd (q (cc))
words_front w after whole more e (letters b r q n s) = absurd (q (cc))
words_front w after whole more e (words v) =
    let f = closed (flat_map escaped w) (flat_map escaped v) after more (rests 39 39 _ _ e) in
    let g : w ≡ v = same_words w v after more f in
    subst (λ (x : List ℕ). length (string_text x) ≤ length (string_text w)) g (omega arith)
words_front w after whole more e (lettered l inside h u) = let f : l ≡ 39 = cc in absurd (grind arith)

pub longest_words : (w after : List ℕ) (other : TokenKind) (whole more : List ℕ) → string_text w ++ after ≡ whole ++ more → IsToken other whole → length whole ≤ length (string_text w)
longest_words w after other whole more e h = words_front w after whole more e (opens other whole h)

lettered_front : (l : ℕ) (inside after whole more : List ℕ) → l ≢ 39 → All (λ c. c ≢ 39) inside → quoted (l ∷ []) inside ++ after ≡ whole ++ more → Opens whole → length whole ≤ length (quoted (l ∷ []) inside)
lettered_front l inside after whole more q u e nothing = omega arith
lettered_front l inside after whole more q u e (mark b p) = omega arith
lettered_front l inside after whole more q u e (letters b [] p n s) = omega arith
lettered_front l inside after whole more q u e (letters b (c ∷ r) p n s) = absurd (s (cc))
lettered_front l inside after whole more q u e (words v) = absurd (q (cc))
lettered_front l inside after whole more q u e (lettered m other h v) =
    let f = closed inside other after more (rests 39 39 _ _ (rests l m _ _ e)) in
    let g : inside ≡ other = same_inside inside other after more u v f in
    subst (λ (x : List ℕ). length (quoted (m ∷ []) x) ≤ length (quoted (l ∷ []) inside)) g (omega arith)

pub longest_lettered : (l : ℕ) (inside after : List ℕ) → l ≢ 39 → All (λ c. c ≢ 39) inside → (other : TokenKind) (whole more : List ℕ) → quoted (l ∷ []) inside ++ after ≡ whole ++ more → IsToken other whole → length whole ≤ length (quoted (l ∷ []) inside)
longest_lettered l inside after q u other whole more e h = lettered_front l inside after whole more q u e (opens other whole h)
