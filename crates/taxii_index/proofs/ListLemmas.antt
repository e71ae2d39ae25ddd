-- What stands in a list: at its front, after a filter and after a map, and among lent ones.
use Rattle.std.proofs.Common.{◌≡◌, ◌⊎◌, ℕ, zero, suc, ◌<◌, List, [], ◌∷◌, length, Bool, true, false, cond, inl, inr, get_or, refl, sym, ap, ◌∙◌, subst, arith, map, filter, Bor}
use Rattle.std.specs.List.{Contains}
use Rattle.std.proofs.lemmas.Bool.{false≢true}
use Rattle.std.proofs.lemmas.List.{length-map, get_or-map}

pub nothing : {X : Type 0} (x : X) → Contains [] x → ⊥
nothing x here = omega arith

pub first : {X : Type 0} (x : X) (xs : List X) → Contains (x ∷ xs) x
first x xs = (0, omega arith, refl)

pub later : {X : Type 0} (x y : X) (xs : List X) → Contains xs y → Contains (x ∷ xs) y
later x y xs here = (suc here.0, omega arith, here.2)

position_cases : {X : Type 0} (x y : X) (xs : List X) (k : ℕ) → k < length (x ∷ xs) → get_or (x ∷ xs) k y ≡ y → (x ≡ y) ⊎ Contains xs y
position_cases x y xs zero within is = inl is
position_cases x y xs (suc k) within is = inr (k, omega arith, is)

pub cons_cases : {X : Type 0} (x y : X) (xs : List X) → Contains (x ∷ xs) y → (x ≡ y) ⊎ Contains xs y
cons_cases x y xs here = position_cases x y xs here.0 here.1 here.2

pub same_element : {X : Type 0} (x y : X) (xs : List X) → x ≡ y → Contains xs x → Contains xs y
same_element x y xs same here = subst (Contains xs) same here

-- ---- after a filter

kept_rest : {X : Type 0} (stays : Bool) (x y : X) (xs : List X) → Contains xs y → Contains (cond stays (x ∷ xs) xs) y
kept_rest true x y xs here = later x y xs here
kept_rest false x y xs here = here

kept_first : {X : Type 0} (stays : Bool) (x y : X) (xs : List X) → x ≡ y → stays ≡ true → Contains (cond stays (x ∷ xs) xs) y
kept_first true x y xs same holds = same_element x y (x ∷ xs) same (first x xs)
kept_first false x y xs same holds = absurd (false≢true holds)

kept_cases : {X : Type 0} (stays : Bool) (x y : X) (xs : List X) → Contains (cond stays (x ∷ xs) xs) y → ((x ≡ y) × (stays ≡ true)) ⊎ Contains xs y
kept_cases true x y xs here = elim (cons_cases x y xs here) [ inl same ↦ inl (same, refl) | inr rest ↦ inr rest ]
kept_cases false x y xs here = inr here

pub Contains-filter : {X : Type 0} (test : X → Bool) (xs : List X) (y : X) → Contains xs y → test y ≡ true → Contains (filter test xs) y
Contains-filter test [] y here holds = absurd (nothing y here)
Contains-filter test (x ∷ xs) y here holds = elim (cons_cases x y xs here) [
  | inl same ↦ kept_first (test x) x y (filter test xs) same (ap test same ∙ holds)
  | inr rest ↦ kept_rest (test x) x y (filter test xs) (Contains-filter test xs y rest holds)
]

pub Contains-from_filter : {X : Type 0} (test : X → Bool) (xs : List X) (y : X) → Contains (filter test xs) y → Contains xs y × (test y ≡ true)
Contains-from_filter test [] y here = absurd (nothing y here)
Contains-from_filter test (x ∷ xs) y here = elim (kept_cases (test x) x y (filter test xs) here) [
  | inl same ↦ (same_element x y (x ∷ xs) same.0 (first x xs), ap test (sym same.0) ∙ same.1)
  | inr rest ↦ let found = Contains-from_filter test xs y rest in (later x y xs found.0, found.1)
]

-- ---- after a map

pub Contains-map : {X Y : Type 0} (f : X → Y) (xs : List X) (x : X) → Contains xs x → Contains (map f xs) (f x)
Contains-map f [] x here = absurd (nothing x here)
Contains-map f (first_x ∷ xs) x here = elim (cons_cases first_x x xs here) [
  | inl same ↦ same_element (f first_x) (f x) (map f (first_x ∷ xs)) (ap f same) (first (f first_x) (map f xs))
  | inr rest ↦ later (f first_x) (f x) (map f xs) (Contains-map f xs x rest)
]

pub Contains-from_map : {X Y : Type 0} (f : X → Y) (xs : List X) (y : Y) → Contains (map f xs) y → (x : X) × Contains xs x × (f x ≡ y)
Contains-from_map f [] y here = absurd (nothing y here)
Contains-from_map f (x ∷ xs) y here = elim (cons_cases (f x) y (map f xs) here) [
  | inl same ↦ (x, first x xs, same)
  | inr rest ↦ let found = Contains-from_map f xs y rest in (found.0, later x found.0 xs found.1, found.2)
]

cond-map : {X Y : Type 0} (f : X → Y) (stays : Bool) (x : X) (xs : List X) → cond stays (f x ∷ map f xs) (map f xs) ≡ map f (cond stays (x ∷ xs) xs)
cond-map f true x xs = refl
cond-map f false x xs = refl

pub filter-map : {X Y : Type 0} (test : Y → Bool) (f : X → Y) (xs : List X) → filter test (map f xs) ≡ map f (filter (λ x. test (f x)) xs)
filter-map test f [] = refl
filter-map test f (x ∷ xs) =
    ap (λ rest. cond (test (f x)) (f x ∷ rest) rest) (filter-map test f xs) ∙ cond-map f (test (f x)) x (filter (λ x. test (f x)) xs)

-- ---- among lent ones

pub lent_at : {X : Type 0} (lent : List (Bor X)) (i : ℕ) (one : Bor X) → i < length lent → one ≡ get_or lent i one
    → (i < length (map (λ one. one.now) lent)) × (one.now ≡ get_or (map (λ one. one.now) lent) i one.now)
lent_at lent i one within is = (
  omega (arith, within, length-map lent (λ (one : Bor _). one.now)),
  ap (λ (one : Bor _). one.now) is ∙ sym (get_or-map (λ (one : Bor _). one.now) lent i one one.now within),
)
