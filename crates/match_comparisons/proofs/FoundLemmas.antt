-- A walk along a list that stops at the first element of which a fact holds.
use Rattle.std.proofs.Common.{arith, ◌≡◌, ℕ, ◌+◌, ◌<◌, ◌≤◌, List, length, get_or, Some, slice_get, refl, sym, subst, ◌∙◌}
use Rattle.std.specs.Prelude.{Contains}
use Rattle.std.proofs.lemmas.Option.{slice_get_read, same_Some}
use borrow.Author.Count.{below_more}

-- the fact holds of none of the first elements
abbrev pub NoneBefore : {A : Type 0} → (A → Type 0) → List A → ℕ → Type 0
NoneBefore {A} P xs i = (k : ℕ) → k < i → (y : A) → slice_get xs k ≡ Some y → ¬ P y

module _ {A : Type 0} (P : A → Type 0) (xs : List A) where
  pub none_next : (i : ℕ) (x : A) → i < length xs → x ≡ get_or xs i x → NoneBefore P xs i → ¬ P x → NoneBefore P xs (i + 1)
  none_next i x below is none other =
      let there = slice_get_read xs (length xs) i x refl below is in
      below_more (λ (k : ℕ). (y : A) → slice_get xs k ≡ Some y → ¬ P y) i none
      (λ y also holds. other (subst P (sym (same_Some x y (sym there ∙ also))) holds))

  pub none_at_all : (i : ℕ) → length xs ≤ i → NoneBefore P xs i → ¬ ((y : A) × Contains xs y × P y)
  none_at_all i end none = λ found.
      let at = found.1 in
      let below : at.0 < i = omega (arith, at.1) in
      none at.0 below found.0 (slice_get_read xs (length xs) at.0 found.0 refl at.1 (sym at.2)) found.2

  pub some_here : (i : ℕ) (x : A) → i < length xs → x ≡ get_or xs i x → P x → (y : A) × Contains xs y × P y
  some_here i x below is holds = (x, (i, below, sym is), holds)
