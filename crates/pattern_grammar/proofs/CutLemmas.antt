-- A list of tokens that is cut in two ways.
use Rattle.std.proofs.Common.{◌≡◌, List, [], ◌∷◌, ◌++◌, ◌⊎◌, inl, inr, refl, sym}
use Rattle.pattern_lexer.specs.declared.token.Token.{Token}

-- the first cut, into x and y, is after the second, into ts and more, or on it
pub record Longer (x y ts more : List Token) : Type 0 where
  pub between : List Token
  pub longer : x ≡ ts ++ between
  pub left : more ≡ between ++ y

-- one of the cuts is after the other
pub cut : (x y ts more : List Token) → x ++ y ≡ ts ++ more → Longer x y ts more ⊎ Longer ts more x y
cut [] y ts more e = inr (record { between = ts; longer = refl; left = e })
cut (a ∷ x) y [] more e = inl (record { between = a ∷ x; longer = refl; left = sym e })
cut (a ∷ x) y (t ∷ ts) more e =
    let h : a ≡ t = cc in
    let g : x ++ y ≡ ts ++ more = cc in
    elim (cut x y ts more g) [ inl i ↦ inl (record { between = i.between; longer = (let k = i.longer in cc); left = i.left }) | inr b ↦ inr (record { between = b.between; longer = (let k = b.longer in cc); left = b.left }) ]
