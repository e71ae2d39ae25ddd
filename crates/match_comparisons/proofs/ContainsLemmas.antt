-- What a list holds that grows at its end, and what its first elements are.
use Rattle.std.proofs.Common.{arith, ◌≡◌, ◌↔◌, ◌⊎◌, inl, inr, ℕ, zero, suc, ◌<◌, ◌≤◌, ◌+◌, List, [], ◌∷◌, ◌++◌, length, take, drop, get_or, refl, sym, ap, subst, ◌∙◌, lit<}
use Rattle.std.specs.Prelude.{Contains}
use Rattle.std.proofs.lemmas.List.{take_more, take_all}
use Rattle.std.proofs.Math.Seq.{drop-cons}
use Rattle.std.proofs.Math.ListN.{drop_of_length-le}
use Rattle.std.proofs.lemmas.List.Elements.{Contains-append_left, Contains-append_right, Contains-append_cases}

only_item : {A : Type 0} (x y : A) (k : ℕ) → k < 1 → get_or (x ∷ []) k y ≡ y → y ≡ x
only_item x y zero below is = sym is
only_item x y (suc k) below is = absurd (omega arith)

pub none_in : {A : Type 0} (y : A) → ¬ Contains [] y
none_in y has = absurd (omega (arith, has.1))

pub item_in : {A : Type 0} (x : A) → Contains (x ∷ []) x
item_in x = (0, lit< tt, refl)

pub item_is : {A : Type 0} (x y : A) → Contains (x ∷ []) y → y ≡ x
item_is x y has = only_item x y has.0 has.1 has.2

-- what is in a list with one more at its end
pub in_more : {A : Type 0} (xs : List A) (x y : A) → Contains (xs ++ x ∷ []) y ↔ (Contains xs y ⊎ (y ≡ x))
in_more xs x y = (
  λ has. elim (Contains-append_cases xs (x ∷ []) y has) [
    | inl before ↦ inl before
    | inr now ↦ inr (item_is x y now)
  ],
  λ some. elim some [
    | inl before ↦ Contains-append_left xs (x ∷ []) y before
    | inr now ↦ Contains-append_right xs (x ∷ []) y (subst (Contains (x ∷ [])) (sym now) (item_in x))
  ],
)

-- what is in two lists, one after the other
pub in_both : {A : Type 0} (xs ys : List A) (y : A) → Contains (xs ++ ys) y ↔ (Contains xs y ⊎ Contains ys y)
in_both xs ys y = (
  λ has. Contains-append_cases xs ys y has,
  λ some. elim some [
    | inl left ↦ Contains-append_left xs ys y left
    | inr right ↦ Contains-append_right xs ys y right
  ],
)

module _ {A : Type 0} (xs : List A) (i : ℕ) where
  -- the first elements, and one more
  pub take_next : (x : A) → i < length xs → x ≡ get_or xs i x → take (i + 1) xs ≡ take i xs ++ x ∷ []
  take_next x below is = take_more xs i x below ∙ subst (λ (y : A). take i xs ++ get_or xs i x ∷ [] ≡ take i xs ++ y ∷ []) (sym is) refl

  pub take_whole : length xs ≤ i → take i xs ≡ xs
  take_whole end = take_all i xs end

  -- the elements that come, and those after the next one
  pub drop_next : (x : A) → i < length xs → x ≡ get_or xs i x → drop i xs ≡ x ∷ drop (i + 1) xs
  drop_next x below is =
      let next : suc i ≡ i + 1 = omega arith in
      drop-cons xs i x below ∙ ap (λ (y : A). y ∷ drop (suc i) xs) (sym is) ∙ ap (λ (n : ℕ). x ∷ drop n xs) next

  pub drop_whole : length xs ≤ i → drop i xs ≡ []
  drop_whole end = drop_of_length-le xs end
