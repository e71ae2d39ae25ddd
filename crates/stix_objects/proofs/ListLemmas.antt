-- Lists of texts, as the code and as the definitions see them.
use Rattle.std.proofs.Common.{◌≡◌, ℕ, ◌+◌, ◌<◌, ◌≤◌, List, [], ◌∷◌, length, drop, get_or, map, Bool, true, false, ◌||◌, Option, Some, None, option_map, is_some, subst, refl, sym, ap}
use Rattle.std.proofs.lemmas.List.{drop_more, drop_all}
use Rattle.std.specs.List.{list_any}

pub any_map : {X : Type 0} (p : List ℕ → Bool) (f : X → List ℕ) (xs : List X) → list_any (λ x. p (f x)) xs ≡ list_any p (map f xs)
any_map p f [] = refl
any_map p f (x ∷ xs) = ap (λ later. p (f x) || later) (any_map p f xs)

-- what holds of a list from a place on holds of its first item there and those after it
pub open_at : {X : Type 0} (P : List X → Type 0) (xs : List X) (i : ℕ) (d : X) → i < length xs → P (drop i xs) → P (get_or xs i d ∷ drop (i + 1) xs)
open_at P xs i d within h = subst P (drop_more xs i d within) h

pub close_at : {X : Type 0} (P : List X → Type 0) (xs : List X) (i : ℕ) (d : X) → i < length xs → P (get_or xs i d ∷ drop (i + 1) xs) → P (drop i xs)
close_at P xs i d within h = subst P (sym (drop_more xs i d within)) h

-- what holds of no items holds from the end on
pub close_end : {X : Type 0} (P : List X → Type 0) (xs : List X) (i : ℕ) → length xs ≤ i → P [] → P (drop i xs)
close_end P xs i past h = subst P (sym (drop_all i xs past)) h

pub absent_of : {A B : Type 0} (f : A → B) (found : Option A) (o : Option B) → option_map f found ≡ o → is_some found ≡ false → o ≡ None
absent_of f None o is none = sym is
absent_of f (Some a) o is none = absurd (cc)

pub there_of : {A B : Type 0} (f : A → B) (found : Option A) (o : Option B) → option_map f found ≡ o → is_some found ≡ true → is_some o ≡ true
there_of f None o is some = absurd (cc)
there_of f (Some a) o is some = ap is_some (sym is)

pub open_item : {X : Type 0} (P : List X → Type 0) (xs : List X) (i : ℕ) (item : X) → i < length xs → item ≡ get_or xs i item → P (drop i xs) → P (item ∷ drop (i + 1) xs)
open_item {X} P xs i item within is h = subst (λ (x : X). P (x ∷ drop (i + 1) xs)) (sym is) (open_at P xs i item within h)

pub close_item : {X : Type 0} (P : List X → Type 0) (xs : List X) (i : ℕ) (item : X) → i < length xs → item ≡ get_or xs i item → P (item ∷ drop (i + 1) xs) → P (drop i xs)
close_item {X} P xs i item within is h = close_at P xs i item within (subst (λ (x : X). P (x ∷ drop (i + 1) xs)) is h)

pub none_is_there : {B : Type 0} (o : Option B) → o ≡ None → is_some o ≡ true → ⊥
none_is_there None is there = absurd (cc)
none_is_there (Some b) is there = absurd (cc)

pub any_of_map : {X Y : Type 0} (p : Y → Bool) (f : X → Y) (xs : List X) → list_any (λ x. p (f x)) xs ≡ list_any p (map f xs)
any_of_map p f [] = refl
any_of_map p f (x ∷ xs) = ap (λ later. p (f x) || later) (any_of_map p f xs)
