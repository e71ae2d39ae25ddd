-- Each token of a text lies in it between characters, and has a value.
use Rattle.std.proofs.Common.{◌≡◌, ℕ, ◌+◌, ◌-◌, ◌<◌, ◌≤◌, ◌==◌, Bool, true, false, cond, List, [], ◌∷◌, ◌++◌, length, get_or, take, drop, refl, sym, ap, ◌∙◌, subst, arith, append_assoc, length-append, length-drop}
use Rattle.std.specs.Prelude.{All}
use Rattle.std.specs.Str.{IsCharBoundary}
use Rattle.std.specs.Str.Parse.{IsNumeral}
use Rattle.std.proofs.lemmas.Bool.Decides.{nat_tests}
use Rattle.std.proofs.lemmas.List.{get_or-drop, drop-drop}
use Rattle.std.proofs.lemmas.List.Elements.{All-head}
use Rattle.std.proofs.lemmas.Str.Parse.{digit_at}
use Rattle.std.proofs.Math.Seq.{drop-append_seam, take-append_seam}
use Rattle.pattern_lexer.specs.declared.token.Token.{Token}
use Rattle.pattern_lexer.specs.declared.token.TokenKind.{TokenKind}
use Rattle.pattern_lexer.specs.declared.token.TokenKind.TheVariants as kind
use Rattle.pattern_lexer.specs.Word.{IsWordStart, HasAt}
use Rattle.pattern_lexer.specs.Values.{IsNumberText, HasValue}
use Rattle.pattern_lexer.specs.Table.{IsToken}
use Rattle.pattern_lexer.specs.Spans.{IsCut, token_text_at}
use Rattle.pattern_lexer.specs.Reading.{IsBlank, AreTokens, TokensOf}

pub record HasWorth (whole : List ℕ) (t : Token) : Type 0 where
  pub cut : IsCut whole t
  pub value : HasValue t.kind (token_text_at whole t)

abbrev pub AllWorth : List ℕ → List Token → Type 0
AllWorth whole [] = Unit {0}
AllWorth whole (t ∷ ts) = HasWorth whole t × AllWorth whole ts

pub worth_left : (whole : List ℕ) (a b : List Token) → AllWorth whole (a ++ b) → AllWorth whole a
worth_left whole [] b h = tt
worth_left whole (t ∷ a) b h = (h.0, worth_left whole a b h.1)

pub worth_right : (whole : List ℕ) (a b : List Token) → AllWorth whole (a ++ b) → AllWorth whole b
worth_right whole [] b h = h
worth_right whole (t ∷ a) b h = worth_right whole a b h.1

-- the first byte of a token is ASCII, and so is a blank
abbrev BeginsAscii : List ℕ → Type 0
BeginsAscii [] = ⊥
BeginsAscii (c ∷ text) = c < 128

ascii_word : (text : List ℕ) → HasAt 0 IsWordStart text → BeginsAscii text
ascii_word [] h = absurd h
ascii_word (c ∷ text) h = grind arith

ascii_sign : (c : ℕ) (digits : List ℕ) (minus plus : Bool) → (minus ≡ true → c < 128) → (plus ≡ true → c < 128)
    → IsNumeral 10 (cond minus digits (drop (cond plus 1 0) (c ∷ digits))) → c < 128
ascii_sign c digits true plus f g h = f refl
ascii_sign c digits false true f g h = g refl
ascii_sign c digits false false f g h = let d = digit_at (c ∷ digits) 0 h.1 (omega arith) in omega (arith, d.1)

sign_below : (c sign : ℕ) → sign < 128 → (c == sign) ≡ true → c < 128
sign_below c sign h e = grind (arith, nat_tests)

ascii_number : (text : List ℕ) → IsNumberText text → BeginsAscii text
ascii_number [] h = absurd (omega (arith, h.0))
ascii_number (c ∷ digits) h = ascii_sign c digits (c == 45) (c == 43) (sign_below c 45 (omega arith)) (sign_below c 43 (omega arith)) h

ascii : (k : TokenKind) (text : List ℕ) → IsToken k text → BeginsAscii text
ascii kind.Word text h = ascii_word text h.starts
ascii kind.HyphenWord text h = ascii_word text h.starts
ascii kind.Number text h = ascii_number text h
ascii kind.String text h = subst BeginsAscii (sym h.1) (omega arith)
ascii kind.Hex text h = subst BeginsAscii (sym h.1.spelled) (omega arith)
ascii kind.Binary text h = subst BeginsAscii (sym h.1.spelled) (omega arith)
ascii kind.Timestamp text h = subst BeginsAscii (sym h.1.spelled) (omega arith)
ascii _ text h = subst BeginsAscii (sym h) (omega arith)

low_text : (text rest : List ℕ) → BeginsAscii text → get_or (text ++ rest) 0 0 < 128
low_text [] rest h = absurd h
low_text (c ∷ text) rest h = h

blank_below : (c : ℕ) → IsBlank c → c < 128
blank_below c h = grind arith

low_blanks : (blanks rest : List ℕ) → All IsBlank blanks → get_or rest 0 0 < 128 → get_or (blanks ++ rest) 0 0 < 128
low_blanks [] rest all h = h
low_blanks (c ∷ blanks) rest all h = blank_below c (All-head IsBlank c blanks all)

low_end : (blanks : List ℕ) → All IsBlank blanks → get_or blanks 0 0 < 128
low_end [] all = omega arith
low_end (c ∷ blanks) all = blank_below c (All-head IsBlank c blanks all)

boundary : (whole : List ℕ) (at : ℕ) (left : List ℕ) → at ≤ length whole → drop at whole ≡ left → get_or left 0 0 < 128
    → IsCharBoundary whole at
boundary whole at left b e h =
    let first = ap (λ (x : List ℕ). get_or x 0 0) (sym e) in
    let here : get_or left 0 0 ≡ get_or whole at 0 = first ∙ get_or-drop at whole 0 0 ∙ ap (λ (i : ℕ). get_or whole i 0) (omega arith) in
    let low : get_or whole at 0 < 128 = subst (λ (x : ℕ). x < 128) here h in
    (b, λ i k. absurd (omega arith))

-- what follows a part of what is left of a text
further : (whole : List ℕ) (at : ℕ) (part rest : List ℕ) → at ≤ length whole → drop at whole ≡ part ++ rest
    → (at + length part ≤ length whole) × (drop (at + length part) whole ≡ rest) × (take (at + length part - at) (drop at whole) ≡ part)
further whole at part rest b e =
    let n = ap length e in
    let more : at + length part ≤ length whole = omega (arith, n, length-drop at whole, length-append part rest) in (
      more,
      sym (drop-drop (length part) at whole) ∙ ap (λ (x : List ℕ). drop (length part) x) e ∙ drop-append_seam part rest,
      ap (λ (i : ℕ). take i (drop at whole)) (omega arith) ∙ ap (λ (x : List ℕ). take (length part) x) e ∙ take-append_seam part rest,
    )

all_worth : (whole : List ℕ) (at : ℕ) (left : List ℕ) (ts : List Token) (rest : List ℕ) → at ≤ length whole → drop at whole ≡ left
    → AreTokens at left ts rest → All IsBlank rest → AllWorth whole ts × (get_or left 0 0 < 128)
all_worth whole at left [] rest b e h blank = (tt, subst (λ (x : List ℕ). get_or x 0 0 < 128) (sym h) (low_end rest blank))
all_worth whole at left (t ∷ ts) rest b e h blank =
    let n = h.1 in
    let parts : left ≡ n.blanks ++ (n.text ++ h.0) = n.spelled ∙ append_assoc n.blanks n.text h.0 in
    let d = further whole at n.blanks (n.text ++ h.0) b (e ∙ parts) in
    let k = further whole (at + length n.blanks) n.text h.0 d.0 d.1 in
    let f : t.from ≡ at + length n.blanks = n.from in
    let g : t.to ≡ at + length n.blanks + length n.text = n.to ∙ ap (λ (i : ℕ). i + length n.text) f in
    let begins = ap (λ (i : ℕ). take (t.to - i) (drop i whole)) f in
    let ends = ap (λ (i : ℕ). take (i - (at + length n.blanks)) (drop (at + length n.blanks) whole)) g in
    let spelled : token_text_at whole t ≡ n.text = begins ∙ ends ∙ k.2 in
    let in_whole = subst (λ (i : ℕ). i ≤ length whole) (sym g) k.0 in
    let more = all_worth whole t.to h.0 ts rest in_whole (subst (λ (i : ℕ). drop i whole ≡ h.0) (sym g) k.1) h.2 blank in
    let first = low_text n.text h.0 (ascii t.kind n.text n.first.token) in
    let cut : IsCut whole t = record {
      ordered = omega (arith, n.to);
      from = subst (λ (i : ℕ). IsCharBoundary whole i) (sym f) (boundary whole (at + length n.blanks) (n.text ++ h.0) d.0 d.1 first);
      to = subst (λ (i : ℕ). IsCharBoundary whole i) (sym g) (boundary whole (at + length n.blanks + length n.text) h.0 k.0 k.1 more.1);
    } in (
      (record { cut = cut; value = subst (λ (x : List ℕ). HasValue t.kind x) (sym spelled) n.value }, more.0),
      subst (λ (x : List ℕ). get_or x 0 0 < 128) (sym parts) (low_blanks n.blanks (n.text ++ h.0) n.blank first),
    )

pub tokens_worth : (text : List ℕ) (ts : List Token) → TokensOf text ts → AllWorth text ts
tokens_worth text ts h = (all_worth text 0 text ts h.rest (omega arith) refl h.stand h.blank).0
