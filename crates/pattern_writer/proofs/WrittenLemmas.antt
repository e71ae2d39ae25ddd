-- What is written and reads back: a text as pieces that can't be cut otherwise, whose tokens spell a
-- tree that means what was written.
use Rattle.std.proofs.Common.{◌≡◌, ℕ, ◌<◌, true, List, [], ◌∷◌, ◌++◌, length, get_or, sym, ap, ◌∙◌, subst, append_assoc, append-nil}
use Rattle.pattern_lexer.specs.declared.token.Token.{Token}
use Rattle.pattern_lexer.specs.declared.token.TokenKind.{TokenKind}
use Rattle.pattern_lexer.specs.Values.{HasValue}
use Rattle.pattern_lexer.specs.Reading.{IsFirst, IsUsable}
use Rattle.pattern_grammar.specs.declared.class.TokenClass.{TokenClass}
use Rattle.pattern_grammar.specs.TokenClass.{is_in, IsA}
use Rattle.pattern_writer.proofs.PiecesLemmas.{Piece, space, piece, printed, printed-append, Stands, Match, Split, split, split_tokens}

-- the token is cut so before what follows, and has a value
pub record Fits (kind : TokenKind) (text after : List ℕ) : Type 0 where
  pub first : IsFirst (text ++ after) kind text after
  pub usable : IsUsable kind text after
  pub value : HasValue kind text
  pub some : 0 < length text
  pub ascii : get_or text 0 0 < 128

abbrev pub AllFit : List Piece → List ℕ → Type 0
AllFit [] after = Unit {0}
AllFit (space ∷ ps) after = AllFit ps after
AllFit (piece kind text ∷ ps) after = Fits kind text (printed ps ++ after) × AllFit ps after

pub both_fit : (ps qs : List Piece) (after : List ℕ) → AllFit ps (printed qs ++ after) → AllFit qs after → AllFit (ps ++ qs) after
both_fit [] qs after h k = k
both_fit (space ∷ ps) qs after h k = both_fit ps qs after h k
both_fit (piece kind text ∷ ps) qs after h k =
    let e : printed ps ++ (printed qs ++ after) ≡ printed (ps ++ qs) ++ after = sym (append_assoc (printed ps) (printed qs) after) ∙ ap (λ (x : List ℕ). x ++ after) (sym (printed-append ps qs)) in
    (subst (λ (x : List ℕ). Fits kind text x) e h.0, both_fit ps qs after h.1 k)

-- the text is written in pieces; whatever follows that ends them, they are cut so; tokens for them
-- spell a tree with this meaning
pub record Written {T : Type 0} (IsSpelled : List Token → T → Type 0) (Means : List ℕ → T → Type 0) (Ends : List ℕ → Type 0) (text : List ℕ) : Type 0 where
  pub pieces : List Piece
  pub spelled : printed pieces ≡ text
  pub fit : (after : List ℕ) → Ends after → AllFit pieces after
  pub read : (whole : List ℕ) (ts : List Token) → Match whole pieces ts → (tree : T) × IsSpelled ts tree × Means whole tree

-- one token of a class
pub data IsOne (class : TokenClass) : List Token → Token → Type 0 where
  is_one : (t : Token) → IsA class t → IsOne class (t ∷ []) t

-- two parts one after the other
pub data IsPair {S T : Type 0} (IsS : List Token → S → Type 0) (IsT : List Token → T → Type 0) : List Token → S × T → Type 0 where
  is_pair : {a b : List Token} {s : S} {t : T} → IsS a s → IsT b t → IsPair IsS IsT (a ++ b) (s, t)

abbrev pub MeanPair : {S T : Type 0} (MeansS : List ℕ → S → Type 0) (MeansT : List ℕ → T → Type 0) → List ℕ → S × T → Type 0
MeanPair MeansS MeansT whole x = MeansS whole x.0 × MeansT whole x.1

read_pair : {S T : Type 0} (IsS : List Token → S → Type 0) (IsT : List Token → T → Type 0) (MeansS : List ℕ → S → Type 0) (MeansT : List ℕ → T → Type 0) (whole : List ℕ) (ps qs : List Piece)
    → ((ts : List Token) → Match whole ps ts → (tree : S) × IsS ts tree × MeansS whole tree) → ((ts : List Token) → Match whole qs ts → (tree : T) × IsT ts tree × MeansT whole tree)
    → (ts : List Token) → Split whole ps qs ts → (tree : S × T) × IsPair IsS IsT ts tree × MeanPair MeansS MeansT whole tree
read_pair IsS IsT MeansS MeansT whole ps qs f g ts (split left right h k) =
    let a = f left h in let b = g right k in ((a.0, b.0), is_pair a.1 b.1, (a.2, b.2))

-- one part after another
pub pair : {S T : Type 0} (IsS : List Token → S → Type 0) (IsT : List Token → T → Type 0) (MeansS : List ℕ → S → Type 0) (MeansT : List ℕ → T → Type 0) (EndsS EndsT : List ℕ → Type 0) (a b : List ℕ)
    → ((after : List ℕ) → EndsT after → EndsS (b ++ after)) → Written IsS MeansS EndsS a → Written IsT MeansT EndsT b → Written (IsPair IsS IsT) (MeanPair MeansS MeansT) EndsT (a ++ b)
pair IsS IsT MeansS MeansT EndsS EndsT a b goes v w = record {
  pieces = v.pieces ++ w.pieces;
  spelled = printed-append v.pieces w.pieces ∙ ap (λ (x : List ℕ). x ++ printed w.pieces) v.spelled ∙ ap (λ (x : List ℕ). a ++ x) w.spelled;
  fit = λ after e. both_fit v.pieces w.pieces after (v.fit (printed w.pieces ++ after) (subst (λ (x : List ℕ). EndsS (x ++ after)) (sym w.spelled) (goes after e))) (w.fit after e);
  read = λ whole ts h. read_pair IsS IsT MeansS MeansT whole v.pieces w.pieces (v.read whole) (w.read whole) ts (split_tokens whole v.pieces w.pieces ts h);
}

-- a space before it
pub spaced : {T : Type 0} {IsT : List Token → T → Type 0} {Means : List ℕ → T → Type 0} {Ends : List ℕ → Type 0} {text : List ℕ} → Written IsT Means Ends text → Written IsT Means Ends (32 ∷ text)
spaced w = record {
  pieces = space ∷ w.pieces;
  spelled = ap (λ (x : List ℕ). 32 ∷ x) w.spelled;
  fit = λ after e. w.fit after e;
  read = λ whole ts h. w.read whole ts h;
}

-- another tree of the same tokens
pub as_tree : {S T : Type 0} {IsS : List Token → S → Type 0} {MeansS : List ℕ → S → Type 0} {Ends : List ℕ → Type 0} {text : List ℕ} (IsT : List Token → T → Type 0) (MeansT : List ℕ → T → Type 0)
    → ((whole : List ℕ) (ts : List Token) (s : S) → IsS ts s → MeansS whole s → (t : T) × IsT ts t × MeansT whole t) → Written IsS MeansS Ends text → Written IsT MeansT Ends text
as_tree IsT MeansT f w = record {
  pieces = w.pieces;
  spelled = w.spelled;
  fit = w.fit;
  read = λ whole ts h. let x = w.read whole ts h in f whole ts x.0 x.1 x.2;
}

-- one token
pub token : (class : TokenClass) (kind : TokenKind) (Ends : List ℕ → Type 0) (text : List ℕ) → is_in class kind ≡ true → ((after : List ℕ) → Ends after → Fits kind text after)
    → Written (IsOne class) (λ (whole : List ℕ) (t : Token). Stands whole t kind text) Ends text
token class kind Ends text is fits = record {
  pieces = piece kind text ∷ [];
  spelled = append-nil text;
  fit = λ after e. (fits after e, tt);
  read = λ whole ts h. one whole ts h;
}
  where
    one : (whole : List ℕ) (ts : List Token) → Match whole (piece kind text ∷ []) ts → (t : Token) × IsOne class ts t × Stands whole t kind text
    one whole [] h = absurd h
    one whole (t ∷ ts) h = (t, subst (λ (us : List Token). IsOne class (t ∷ us) t) (sym h.1) (is_one t (ap (is_in class) h.0.kind ∙ is)), h.0)

-- the text in another form
pub as_text : {T : Type 0} {IsT : List Token → T → Type 0} {Means : List ℕ → T → Type 0} {Ends : List ℕ → Type 0} {a b : List ℕ} → a ≡ b → Written IsT Means Ends a → Written IsT Means Ends b
as_text e w = record { pieces = w.pieces; spelled = w.spelled ∙ e; fit = w.fit; read = w.read }

-- where less may follow
pub before : {T : Type 0} {IsT : List Token → T → Type 0} {Means : List ℕ → T → Type 0} {EndsS : List ℕ → Type 0} (EndsT : List ℕ → Type 0) {text : List ℕ} → ((after : List ℕ) → EndsT after → EndsS after) → Written IsT Means EndsS text → Written IsT Means EndsT text
before EndsT f w = record { pieces = w.pieces; spelled = w.spelled; fit = λ after e. w.fit after (f after e); read = w.read }
