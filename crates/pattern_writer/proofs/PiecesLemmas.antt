-- A text as pieces, tokens and the spaces between them, and the tokens that represent pieces.
use Rattle.std.proofs.Common.{◌≡◌, ℕ, List, [], ◌∷◌, ◌++◌, refl, sym, ap, ◌∙◌, append_assoc}
use Rattle.pattern_lexer.specs.declared.token.Token.{Token}
use Rattle.pattern_lexer.specs.declared.token.TokenKind.{TokenKind}
use Rattle.pattern_lexer.specs.Spans.{IsCut, token_text_at}

pub data Piece : Type 0 where
  space : Piece
  piece : TokenKind → List ℕ → Piece

-- what the pieces spell
abbrev pub printed : List Piece → List ℕ
printed [] = []
printed (space ∷ ps) = 32 ∷ printed ps
printed (piece kind text ∷ ps) = text ++ printed ps

pub printed-append : (ps qs : List Piece) → printed (ps ++ qs) ≡ printed ps ++ printed qs
printed-append [] qs = refl
printed-append (space ∷ ps) qs = ap (λ (x : List ℕ). 32 ∷ x) (printed-append ps qs)
printed-append (piece kind text ∷ ps) qs = ap (λ (x : List ℕ). text ++ x) (printed-append ps qs) ∙ sym (append_assoc text (printed ps) (printed qs))

-- the token lies in the whole text, and has this kind and this text
pub record Stands (whole : List ℕ) (token : Token) (wanted : TokenKind) (spelling : List ℕ) : Type 0 where
  pub kind : token.kind ≡ wanted
  pub cut : IsCut whole token
  pub text : token_text_at whole token ≡ spelling

-- a token for each piece that is no space
abbrev pub Match : List ℕ → List Piece → List Token → Type 0
Match whole [] ts = ts ≡ []
Match whole (space ∷ ps) ts = Match whole ps ts
Match whole (piece kind text ∷ ps) [] = ⊥
Match whole (piece kind text ∷ ps) (t ∷ ts) = Stands whole t kind text × Match whole ps ts

-- tokens of two lists of pieces
pub data Split (whole : List ℕ) (ps qs : List Piece) : List Token → Type 0 where
  split : (left right : List Token) → Match whole ps left → Match whole qs right → Split whole ps qs (left ++ right)

more : (whole : List ℕ) (ps qs : List Piece) (kind : TokenKind) (text : List ℕ) (t : Token) (ts : List Token) → Stands whole t kind text → Split whole ps qs ts → Split whole (piece kind text ∷ ps) qs (t ∷ ts)
more whole ps qs kind text t ts s (split left right h k) = split (t ∷ left) right (s, h) k

skip : (whole : List ℕ) (ps qs : List Piece) (ts : List Token) → Split whole ps qs ts → Split whole (space ∷ ps) qs ts
skip whole ps qs ts (split left right h k) = split left right h k

pub split_tokens : (whole : List ℕ) (ps qs : List Piece) (ts : List Token) → Match whole (ps ++ qs) ts → Split whole ps qs ts
split_tokens whole [] qs ts h = split [] ts refl h
split_tokens whole (space ∷ ps) qs ts h = skip whole ps qs ts (split_tokens whole ps qs ts h)
split_tokens whole (piece kind text ∷ ps) qs [] h = absurd h
split_tokens whole (piece kind text ∷ ps) qs (t ∷ ts) h = more whole ps qs kind text t ts h.0 (split_tokens whole ps qs ts h.1)
