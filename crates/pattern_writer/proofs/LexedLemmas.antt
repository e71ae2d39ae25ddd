-- The tokens of a text are tokens of the table, and none is the word MATCHES.
use Rattle.std.proofs.Common.{◌≡◌, ◌≢◌, ◌⊎◌, inl, inr, ℕ, ◌+◌, ◌-◌, ◌≤◌, true, List, [], ◌∷◌, ◌++◌, length, drop, take, sym, ap, ◌∙◌, subst, append_assoc}
use Rattle.std.specs.Prelude.{codes}
use Rattle.pattern_lexer.specs.declared.token.Token.{Token}
use Rattle.pattern_lexer.specs.declared.token.TokenKind.{TokenKind}
use Rattle.pattern_lexer.specs.declared.token.TokenKind.TheVariants as kind
use Rattle.pattern_lexer.specs.declared.refusal.LeftWord.TheVariants.{Matches}
use Rattle.pattern_lexer.specs.Word.{IsWord, IsHyphenWord}
use Rattle.pattern_lexer.specs.Table.{IsToken}
use Rattle.pattern_lexer.specs.Spans.{token_text_at}
use Rattle.pattern_lexer.specs.Reading.{AreTokens}
use Rattle.pattern_grammar.specs.TokenClass.{is_in}
use Rattle.pattern_grammar.specs.declared.class.TokenClass.TheVariants.{Root}
use Rattle.pattern_writer.proofs.CuttingLemmas.{further_drop}

pub record Lexed (whole : List ℕ) (t : Token) : Type 0 where
  pub is : IsToken t.kind (token_text_at whole t)
  pub free : token_text_at whole t ≢ codes "MATCHES"

abbrev pub AllLexed : List ℕ → List Token → Type 0
AllLexed whole [] = Unit {0}
AllLexed whole (t ∷ ts) = Lexed whole t × AllLexed whole ts

pub lexed_left : (whole : List ℕ) (a b : List Token) → AllLexed whole (a ++ b) → AllLexed whole a
lexed_left whole [] b h = tt
lexed_left whole (t ∷ a) b h = (h.0, lexed_left whole a b h.1)

pub lexed_right : (whole : List ℕ) (a b : List Token) → AllLexed whole (a ++ b) → AllLexed whole b
lexed_right whole [] b h = h
lexed_right whole (t ∷ a) b h = lexed_right whole a b h.1

pub all_lexed : (whole : List ℕ) (at : ℕ) (left : List ℕ) (ts : List Token) (rest : List ℕ) → at ≤ length whole → drop at whole ≡ left → AreTokens at left ts rest → AllLexed whole ts
all_lexed whole at left [] rest b e h = tt
all_lexed whole at left (t ∷ ts) rest b e h =
    let n = h.1 in
    let d = further_drop whole at n.blanks (n.text ++ h.0) b (e ∙ n.spelled ∙ append_assoc n.blanks n.text h.0) in
    let k = further_drop whole (at + length n.blanks) n.text h.0 d.0 d.1 in
    let f : t.from ≡ at + length n.blanks = n.from in
    let g : t.to ≡ at + length n.blanks + length n.text = n.to ∙ ap (λ (i : ℕ). i + length n.text) f in
    let spelled : token_text_at whole t ≡ n.text = ap (λ (i : ℕ). take (t.to - i) (drop i whole)) f ∙ ap (λ (i : ℕ). take (i - (at + length n.blanks)) (drop (at + length n.blanks) whole)) g ∙ k.2 in (
      record {
        is = subst (λ (x : List ℕ). IsToken t.kind x) (sym spelled) n.first.token;
        free = λ x. n.usable.used Matches (sym spelled ∙ x);
      },
      all_lexed whole t.to h.0 ts rest (subst (λ (i : ℕ). i ≤ length whole) (sym g) k.0) (subst (λ (i : ℕ). drop i whole ≡ h.0) (sym g) k.1) h.2,
    )

pub root_word : (k : TokenKind) (text : List ℕ) → is_in Root k ≡ true → IsToken k text → IsWord text ⊎ IsHyphenWord text
root_word kind.Word text e h = inl h
root_word kind.HyphenWord text e h = inr h
root_word _ text e h = absurd (cc)
