-- Pieces that fit are the tokens of their text.
use Rattle.std.proofs.Common.{◌≡◌, inl, ℕ, ◌+◌, ◌-◌, ◌<◌, ◌≤◌, List, [], ◌∷◌, ◌++◌, length, get_or, take, drop, refl, sym, ap, ◌∙◌, subst, arith, append-nil, length-append, length-drop}
use Rattle.std.specs.Prelude.{All}
use Rattle.std.specs.Str.{IsCharBoundary}
use Rattle.std.proofs.lemmas.List.Elements.{All-cons, All-nil}
use Rattle.std.proofs.lemmas.List.{get_or-drop, drop-drop}
use Rattle.std.proofs.Math.Seq.{drop-append_seam, take-append_seam}
use Rattle.pattern_lexer.specs.declared.token.Token.{Token}
use Rattle.pattern_lexer.specs.Reading.{IsBlank, AreTokens}
use Rattle.pattern_writer.proofs.PiecesLemmas.{Piece, space, piece, printed, Match}
use Rattle.pattern_writer.proofs.WrittenLemmas.{Fits, AllFit}

-- the tokens of pieces from a place on
abbrev pub tokens_at : ℕ → List Piece → List Token
tokens_at at [] = []
tokens_at at (space ∷ ps) = tokens_at (at + 1) ps
tokens_at at (piece kind text ∷ ps) = record { kind = kind; from = at; to = at + length text } ∷ tokens_at (at + length text) ps

-- tokens, and blanks after them
pub record Cut (at : ℕ) (left : List ℕ) (ts : List Token) : Type 0 where
  pub rest : List ℕ
  pub stand : AreTokens at left ts rest
  pub blank : All IsBlank rest

behind_space : (at : ℕ) (left : List ℕ) (ts : List Token) → Cut (at + 1) left ts → Cut at (32 ∷ left) ts
behind_space at left [] c = record { rest = 32 ∷ left; stand = refl; blank = All-cons IsBlank 32 left (inl refl) (subst (All IsBlank) (sym c.stand) c.blank) }
behind_space at left (t ∷ ts) c =
    let n = c.stand.1 in
    record {
      rest = c.rest;
      stand = (
        c.stand.0,
        record {
          blanks = 32 ∷ n.blanks;
          text = n.text;
          blank = All-cons IsBlank 32 n.blanks (inl refl) n.blank;
          spelled = ap (λ (x : List ℕ). 32 ∷ x) n.spelled;
          first = n.first;
          usable = n.usable;
          value = n.value;
          from = let e = n.from in omega arith;
          to = n.to;
        },
        c.stand.2,
      );
      blank = c.blank;
    }

pub cut_pieces : (at : ℕ) (ps : List Piece) → AllFit ps [] → Cut at (printed ps) (tokens_at at ps)
cut_pieces at [] h = record { rest = []; stand = refl; blank = All-nil IsBlank }
cut_pieces at (space ∷ ps) h = behind_space at (printed ps) (tokens_at (at + 1) ps) (cut_pieces (at + 1) ps h)
cut_pieces at (piece kind text ∷ ps) h =
    let c = cut_pieces (at + length text) ps h.1 in
    let after : printed ps ++ [] ≡ printed ps = append-nil (printed ps) in
    let f : Fits kind text (printed ps) = subst (λ (x : List ℕ). Fits kind text x) after h.0 in
    record {
      rest = c.rest;
      stand = (
        printed ps,
        record {
          blanks = [];
          text = text;
          blank = All-nil IsBlank;
          spelled = refl;
          first = f.first;
          usable = f.usable;
          value = f.value;
          from = omega arith;
          to = refl;
        },
        c.stand,
      );
      blank = c.blank;
    }

-- the first byte of what is left is ASCII
ascii_left : (ps : List Piece) → AllFit ps [] → get_or (printed ps) 0 0 < 128
ascii_left [] h = omega arith
ascii_left (space ∷ ps) h = omega arith
ascii_left (piece kind [] ∷ ps) h = absurd (omega (arith, h.0.some))
ascii_left (piece kind (c ∷ text) ∷ ps) h = h.0.ascii

boundary : (whole : List ℕ) (at : ℕ) (ps : List Piece) → at ≤ length whole → drop at whole ≡ printed ps → AllFit ps [] → IsCharBoundary whole at
boundary whole at ps b e h =
    let here : get_or (printed ps) 0 0 ≡ get_or whole at 0 = ap (λ (x : List ℕ). get_or x 0 0) (sym e) ∙ get_or-drop at whole 0 0 ∙ ap (λ (i : ℕ). get_or whole i 0) (omega arith) in
    let low : get_or whole at 0 < 128 = subst (λ (x : ℕ). x < 128) here (ascii_left ps h) in
    (b, λ i k. absurd (omega arith))

pub further_drop : (whole : List ℕ) (at : ℕ) (text rest : List ℕ) → at ≤ length whole → drop at whole ≡ text ++ rest → (at + length text ≤ length whole) × (drop (at + length text) whole ≡ rest) × (take (at + length text - at) (drop at whole) ≡ text)
further_drop whole at text rest b e =
    let n = ap length e in
    let more : at + length text ≤ length whole = omega (arith, n, length-drop at whole, length-append text rest) in (
      more,
      sym (drop-drop (length text) at whole) ∙ ap (λ (x : List ℕ). drop (length text) x) e ∙ drop-append_seam text rest,
      ap (λ (i : ℕ). take i (drop at whole)) (omega arith) ∙ ap (λ (x : List ℕ). take (length text) x) e ∙ take-append_seam text rest,
    )

pub represent : (whole : List ℕ) (at : ℕ) (ps : List Piece) → at ≤ length whole → drop at whole ≡ printed ps → AllFit ps [] → Match whole ps (tokens_at at ps)
represent whole at [] b e h = refl
represent whole at (space ∷ ps) b e h = let d = further_drop whole at (32 ∷ []) (printed ps) b e in represent whole (at + 1) ps d.0 d.1 h
represent whole at (piece kind text ∷ ps) b e h =
    let d = further_drop whole at text (printed ps) b e in (
      record {
        kind = refl;
        cut = record { ordered = omega arith; from = boundary whole at (piece kind text ∷ ps) b e h; to = boundary whole (at + length text) ps d.0 d.1 h.1 };
        text = d.2;
      },
      represent whole (at + length text) ps d.0 d.1 h.1,
    )
