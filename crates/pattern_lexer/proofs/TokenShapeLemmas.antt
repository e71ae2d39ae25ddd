-- Five shapes of tokens, and the bytes that begin each.
use Rattle.std.proofs.Common.{◌≡◌, ℕ, inl, Bool, true, false, ◌&&◌, ◌||◌, ◌==◌, nat_le, List, [], ◌∷◌, All, IsSome, refl, ap, arith}
use Rattle.std.proofs.lemmas.Bool.Decides.{nat_tests}
use Rattle.std.proofs.lemmas.List.Elements.{All-nil, All-cons}
use Rattle.pattern_lexer.specs.declared.token.TokenKind.{TokenKind}
use Rattle.pattern_lexer.specs.declared.token.TokenKind.TheVariants.{SquareOpen, SquareClose, RoundOpen, RoundClose, Dot, Colon, Comma, Star, Equal, Differ, Less, LessEqual, Greater, GreaterEqual, And, Or, Not, FollowedBy, Within, Seconds, Repeats, Times, Start, Stop, Among, Like, Subset, Superset, Exists, TrueWord, FalseWord, Word, HyphenWord, Number, String, Hex, Binary, Timestamp}
use Rattle.pattern_lexer.specs.Word.{IsWordStart, IsWordPart, IsHyphenWordPart}
use Rattle.pattern_lexer.specs.Values.{IsNumberText, IsStringText, IsPrefixedText}
use Rattle.pattern_lexer.specs.Table.{IsToken}
use Rattle.pattern_lexer.specs.inner.Steps.{IsNameOrKeyword, letter_kind, single_kind, double_kind}

-- a token is a punctuation mark, a name, a text in quotes after a letter, a number or a text in quotes
pub data Shape : List ℕ → Type 0 where
  of_single : {text : List ℕ} (c : ℕ) → IsSome (single_kind c) → text ≡ c ∷ [] → Shape text
  of_double : {text : List ℕ} (c : ℕ) → IsSome (double_kind c) → text ≡ c ∷ 61 ∷ [] → Shape text
  of_name : {text : List ℕ} → IsNameOrKeyword text → Shape text
  of_letter : {text : List ℕ} (letter : ℕ) (inside : List ℕ) → IsSome (letter_kind letter) → IsPrefixedText (letter ∷ []) text inside → Shape text
  of_number : {text : List ℕ} → IsNumberText text → Shape text
  of_words : {text : List ℕ} (words : List ℕ) → IsStringText text words → Shape text

abbrev pub starts : ℕ → Bool
starts c = (nat_le 65 c && nat_le c 90) || (nat_le 97 c && nat_le c 122) || c == 95

abbrev follows : ℕ → Bool
follows c = starts c || (nat_le 48 c && nat_le c 57) || c == 45

abbrev all_follow : List ℕ → Bool
all_follow [] = true
all_follow (c ∷ text) = follows c && all_follow text

abbrev name_test : List ℕ → Bool
name_test [] = false
name_test (c ∷ text) = starts c && all_follow text

pub start_by : (c : ℕ) → starts c ≡ true → IsWordStart c
start_by c e = grind (arith, nat_tests)

part_by : (c : ℕ) → follows c ≡ true → IsHyphenWordPart c
part_by c e = grind (arith, nat_tests)

both : (a b : Bool) → (a && b) ≡ true → (a ≡ true) × (b ≡ true)
both true true e = (refl, refl)
both true false e = absurd (cc)
both false b e = absurd (cc)

parts_by : (text : List ℕ) → all_follow text ≡ true → All IsHyphenWordPart text
parts_by [] e = All-nil IsHyphenWordPart
parts_by (c ∷ text) e = let h = both (follows c) (all_follow text) e in All-cons IsHyphenWordPart c text (part_by c h.0) (parts_by text h.1)

name_by : (text : List ℕ) → name_test text ≡ true → IsNameOrKeyword text
name_by [] e = absurd (cc)
name_by (c ∷ text) e =
    let h = both (starts c) (all_follow text) e in
    let s = start_by c h.0 in
    record { starts = s; parts = All-cons IsHyphenWordPart c text (inl (inl s)) (parts_by text h.1) }

word_parts : (text : List ℕ) → All IsWordPart text → All IsHyphenWordPart text
word_parts text all = λ k d l. inl (all k d l)

pub shape : (kind : TokenKind) (text : List ℕ) → IsToken kind text → Shape text
shape SquareOpen text h = of_single 91 refl h
shape SquareClose text h = of_single 93 refl h
shape RoundOpen text h = of_single 40 refl h
shape RoundClose text h = of_single 41 refl h
shape Dot text h = of_single 46 refl h
shape Colon text h = of_single 58 refl h
shape Comma text h = of_single 44 refl h
shape Star text h = of_single 42 refl h
shape Equal text h = of_single 61 refl h
shape Differ text h = of_double 33 refl h
shape Less text h = of_single 60 refl h
shape LessEqual text h = of_double 60 refl h
shape Greater text h = of_single 62 refl h
shape GreaterEqual text h = of_double 62 refl h
shape And text h = of_name (name_by text (ap name_test h))
shape Or text h = of_name (name_by text (ap name_test h))
shape Not text h = of_name (name_by text (ap name_test h))
shape FollowedBy text h = of_name (name_by text (ap name_test h))
shape Within text h = of_name (name_by text (ap name_test h))
shape Seconds text h = of_name (name_by text (ap name_test h))
shape Repeats text h = of_name (name_by text (ap name_test h))
shape Times text h = of_name (name_by text (ap name_test h))
shape Start text h = of_name (name_by text (ap name_test h))
shape Stop text h = of_name (name_by text (ap name_test h))
shape Among text h = of_name (name_by text (ap name_test h))
shape Like text h = of_name (name_by text (ap name_test h))
shape Subset text h = of_name (name_by text (ap name_test h))
shape Superset text h = of_name (name_by text (ap name_test h))
shape Exists text h = of_name (name_by text (ap name_test h))
shape TrueWord text h = of_name (name_by text (ap name_test h))
shape FalseWord text h = of_name (name_by text (ap name_test h))
shape Word text h = of_name (record { starts = h.starts; parts = word_parts text h.parts })
shape HyphenWord text h = of_name (record { starts = h.starts; parts = h.parts })
shape Number text h = of_number h
shape String text h = of_words h.0 h.1
shape Hex text h = of_letter 104 h.0 refl h.1
shape Binary text h = of_letter 98 h.0 refl h.1
shape Timestamp text h = of_letter 116 h.0 refl h.1
