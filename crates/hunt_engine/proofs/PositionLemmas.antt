-- What stands at a position of a list: after a seam, after a write, and in a list of one number.
use Rattle.std.proofs.Common.{◌≡◌, ℕ, zero, suc, ◌+◌, ◌<◌, List, [], ◌∷◌, ◌++◌, length, set, get_or, refl, sym, ◌∙◌, ap, subst, arith, inl, inr, append_assoc}
use Rattle.std.specs.Prelude.{◌⊎◌, Bool, true, false, nat_eq, nat_lt, Some, All, Contains, map, slice_get}
use Rattle.std.specs.Option.{option_map}
use Rattle.std.proofs.lemmas.List.Elements.{All-get_or}
use Rattle.std.proofs.lemmas.Bool.{eqb-true, eq-eqb, ltb-true}
use Rattle.std.proofs.lemmas.Option.{slice_get-map, slice_get-get_or, slice_get_within, slice_get_read, get_or_from_slice_get}
use Rattle.hunt_engine.specs.inner.Table.{repeated}

-- an item of two lists is one of the first or of the second
pub seam : {A : Type 0} (xs ys : List A) (k : ℕ) (x : A) → slice_get (xs ++ ys) k ≡ Some x →
    ((k < length xs) × (slice_get xs k ≡ Some x)) ⊎ ((j : ℕ) × (k ≡ length xs + j) × (slice_get ys j ≡ Some x))
seam [] ys k x h = inr (k, (let e : k ≡ 0 + k = omega arith in e), h)
seam (y ∷ xs) ys zero x h = inl (omega arith, h)
seam (y ∷ xs) ys (suc k) x h = up (seam xs ys k x h) where
  up : ((k < length xs) × (slice_get xs k ≡ Some x)) ⊎ ((j : ℕ) × (k ≡ length xs + j) × (slice_get ys j ≡ Some x)) →
      ((suc k < suc (length xs)) × (slice_get xs k ≡ Some x)) ⊎ ((j : ℕ) × (suc k ≡ suc (length xs) + j) × (slice_get ys j ≡ Some x))
  up (inl h) = let below = h.0 in inl (omega (arith, below), h.1)
  up (inr h) = let e = h.1 in inr (h.0, omega (arith, e), h.2)

pub get_left : {A : Type 0} (xs ys : List A) (k : ℕ) (x : A) → slice_get xs k ≡ Some x → slice_get (xs ++ ys) k ≡ Some x
get_left [] ys k x h = absurd (cc)
get_left (y ∷ xs) ys zero x h = h
get_left (y ∷ xs) ys (suc k) x h = get_left xs ys k x h

pub get_right : {A : Type 0} (xs ys : List A) (j : ℕ) (x : A) → slice_get ys j ≡ Some x → slice_get (xs ++ ys) (length xs + j) ≡ Some x
get_right [] ys j x h = let e : j ≡ 0 + j = omega arith in sym (ap (slice_get ys) e) ∙ h
get_right (y ∷ xs) ys j x h = let e : suc (length xs) + j ≡ suc (length xs + j) = omega arith in ap (slice_get (y ∷ xs ++ ys)) e ∙ get_right xs ys j x h

-- one item
pub get_one : {A : Type 0} (x y : A) (j : ℕ) → slice_get (x ∷ []) j ≡ Some y → (j ≡ 0) × (y ≡ x)
get_one x y zero h = (refl, cc)
get_one x y (suc j) h = absurd (cc)

-- so many of one number
pub get_repeated : (n c j m : ℕ) → slice_get (repeated n c) j ≡ Some m → (j < c) × (m ≡ n)
get_repeated n zero j m h = absurd (cc)
get_repeated n (suc c) zero m h = (omega arith, cc)
get_repeated n (suc c) (suc j) m h = let rest = get_repeated n c j m h in let below = rest.0 in (omega (arith, below), rest.1)

pub repeated_get : (n c j : ℕ) → j < c → slice_get (repeated n c) j ≡ Some n
repeated_get n zero j h = absurd (omega arith)
repeated_get n (suc c) zero h = refl
repeated_get n (suc c) (suc j) h = repeated_get n c j (omega arith)

pub length_repeated : (n c : ℕ) → length (repeated n c) ≡ c
length_repeated n zero = refl
length_repeated n (suc c) = ap suc (length_repeated n c)

pub repeated_more : (n c : ℕ) → repeated n c ++ n ∷ [] ≡ repeated n (suc c)
repeated_more n zero = refl
repeated_more n (suc c) = ap (λ l. n ∷ l) (repeated_more n c)

-- after a write
pub get_set : {A : Type 0} (xs : List A) (i : ℕ) (x : A) → i < length xs → slice_get (set xs i x) i ≡ Some x
get_set [] i x h = absurd (omega arith)
get_set (y ∷ xs) zero x h = refl
get_set (y ∷ xs) (suc i) x h = get_set xs i x (omega arith)

pub get_set_other : {A : Type 0} (xs : List A) (i k : ℕ) (x : A) → (i ≡ k → ⊥) → slice_get (set xs i x) k ≡ slice_get xs k
get_set_other [] i k x h = refl
get_set_other (y ∷ xs) zero zero x h = absurd (h refl)
get_set_other (y ∷ xs) zero (suc k) x h = refl
get_set_other (y ∷ xs) (suc i) zero x h = refl
get_set_other (y ∷ xs) (suc i) (suc k) x h = get_set_other xs i k x (λ e. h (ap suc e))

-- what a list contains stands in it
pub got : (xs : List ℕ) (n : ℕ) → Contains xs n → (k : ℕ) × (slice_get xs k ≡ Some n)
got xs n (k, inside, is) = (k, slice_get_read xs (length xs) k n refl inside (sym is))

-- and what stands in it is contained
pub represents : (xs : List ℕ) (k n : ℕ) → slice_get xs k ≡ Some n → Contains xs n
represents xs k n at = (k, slice_get_within xs k n at, get_or_from_slice_get xs k n n at)

pub there : {A : Type 0} (xs : List A) (k : ℕ) → k < length xs → (x : A) × (slice_get xs k ≡ Some x)
there [] k h = absurd (omega arith)
there (x ∷ xs) zero h = (x, refl)
there (x ∷ xs) (suc k) h = there xs k (omega arith)

-- two positions are one or not
pub same_or_other : (a b : ℕ) → (a ≡ b) ⊎ (a ≡ b → ⊥)
same_or_other a b = by (nat_eq a b) refl where
  by : (t : Bool) → nat_eq a b ≡ t → (a ≡ b) ⊎ (a ≡ b → ⊥)
  by true e = inl (eqb-true a b e)
  by false e = inr (λ k. let yes_it_is : nat_eq a b ≡ true = eq-eqb a b k in let no : true ≡ false = sym yes_it_is ∙ e in cc)

-- one owner more
pub owner_more : (xs ys zs : List ℕ) (n c : ℕ) → ys ≡ xs ++ repeated n c → zs ≡ ys ++ n ∷ [] → zs ≡ xs ++ repeated n (c + 1)
owner_more xs ys zs n c e f =
    let suc_is : suc c ≡ c + 1 = omega arith in
    f ∙ ap (λ l. l ++ n ∷ []) e ∙ append_assoc xs (repeated n c) (n ∷ []) ∙ ap (λ l. xs ++ l) (repeated_more n c) ∙ ap (λ k. xs ++ repeated n k) suc_is

-- an item that is read, in a list that is mapped
pub get_map : {A B : Type 0} (xs : List A) (f : A → B) (i : ℕ) (x : A) → i < length xs → x ≡ get_or xs i x → slice_get (map f xs) i ≡ Some (f x)
get_map xs f i x h is = slice_get-map f xs i ∙ ap (option_map f) (slice_get_read xs (length xs) i x refl h is)

pub get_map_twice : {A B C : Type 0} (xs : List A) (f : A → B) (g : B → C) (i : ℕ) (x : A) → i < length xs → x ≡ get_or xs i x → slice_get (map g (map f xs)) i ≡ Some (g (f x))
get_map_twice xs f g i x h is = slice_get-map g (map f xs) i ∙ ap (option_map g) (get_map xs f i x h is)

pub get_read : {A : Type 0} (xs : List A) (i : ℕ) (x : A) → i < length xs → x ≡ get_or xs i x → slice_get xs i ≡ Some x
get_read xs i x h is = slice_get_read xs (length xs) i x refl h is

pub get_number : (xs : List ℕ) (i : ℕ) → i < length xs → slice_get xs i ≡ Some (get_or xs i 0)
get_number xs i h = slice_get-get_or xs i 0 h

pub all_at : {A : Type 0} (P : A → Type 0) (xs : List A) (i : ℕ) (x : A) → All P xs → slice_get xs i ≡ Some x → P x
all_at P xs i x all at = subst P (get_or_from_slice_get xs i x x at) (All-get_or P xs i x (slice_get_within xs i x at) all)

-- the same of an item that a look-up found
pub get_looked : {A B C : Type 0} (xs items : List A) (f : A → B) (g : B → C) (i : ℕ) (x : A) → xs ≡ items → true ≡ nat_lt i (length xs) → x ≡ get_or xs i x
    → slice_get (map g (map f items)) i ≡ Some (g (f x))
get_looked {A} xs items f g i x e test is =
    get_map_twice items f g i x (subst (λ (l : List A). i < length l) e (ltb-true i (length xs) (sym test))) (is ∙ ap (λ (l : List A). get_or l i x) e)
