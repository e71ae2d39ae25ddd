-- Names among names, as a test: what stands in a list, and what a list that is looked through gives.
use Rattle.std.proofs.lemmas.Bool.{false≢true}
use Rattle.std.proofs.Common.{◌≡◌, ◌<◌, ℕ, zero, suc, Bool, true, false, not, ◌&&◌, ◌||◌, cond, List, [], ◌∷◌, ◌++◌, map, length, Some, Contains, get_or, find, bytes_eq, refl, sym, ap, ◌∙◌, subst, arith}
use Rattle.std.specs.List.{list_any, list_all}
use Rattle.std.proofs.lemmas.Slice.Eq.{bytes_eq-Decides}

abbrev pub Text : Type 0
Text = List ℕ

-- the name stands among the names
abbrev pub has : Text → List Text → Bool
has name names = list_any (λ other. bytes_eq other name) names

-- no name stands twice
abbrev pub are_distinct : List Text → Bool
are_distinct [] = true
are_distinct (x ∷ xs) = not (has x xs) && are_distinct xs

pub same_text : (a b : Text) → bytes_eq a b ≡ true → a ≡ b
same_text a b h = (bytes_eq-Decides a b).0 h

pub eq_self : (a : Text) → bytes_eq a a ≡ true
eq_self a = (bytes_eq-Decides a a).1 refl

pub differ : {A : Type 0} (a b : Text) → bytes_eq a b ≡ false → a ≡ b → A
differ a b h e = absurd (false≢true (sym h ∙ (bytes_eq-Decides a b).1 e))

pub or_false : (b : Bool) → (b || false) ≡ b
or_false true = refl
or_false false = refl

pub and_false : (b : Bool) → (b && false) ≡ false
and_false true = refl
and_false false = refl

pub and_left : (a b : Bool) → (a && b) ≡ true → a ≡ true
and_left true b h = refl
and_left false b h = h

pub and_right : (a b : Bool) → (a && b) ≡ true → b ≡ true
and_right true b h = h
and_right false b h = absurd (false≢true h)

pub or_right : (a b : Bool) → b ≡ true → (a || b) ≡ true
or_right true b h = refl
or_right false b h = h

pub not_true : (a : Bool) → not a ≡ true → a ≡ false
not_true true h = sym h
not_true false h = refl

-- what passes for all passes for one that stands there
pub all_has : (p : Text → Bool) (names : List Text) (name : Text) → list_all p names ≡ true → has name names ≡ true → p name ≡ true
all_has p [] name all h = absurd (false≢true h)
all_has p (x ∷ xs) name all h = go (bytes_eq x name) refl h (all_has p xs name (and_right (p x) (list_all p xs) all))
  where
    go : (t : Bool) → bytes_eq x name ≡ t → (t || has name xs) ≡ true → (has name xs ≡ true → p name ≡ true) → p name ≡ true
    go true t h rec = subst (λ (y : Text). p y ≡ true) (same_text x name t) (and_left (p x) (list_all p xs) all)
    go false t h rec = rec h

pub has_from : (names : List Text) (name : Text) → Contains names name → has name names ≡ true
has_from [] name c = absurd (omega (arith, c.1))
has_from (x ∷ xs) name c = go c.0 c.1 c.2 (has_from xs name)
  where
    go : (k : ℕ) → k < length (x ∷ xs) → get_or (x ∷ xs) k name ≡ name → (Contains xs name → has name xs ≡ true) → has name (x ∷ xs) ≡ true
    go zero l e rec = ap (λ (b : Bool). b || has name xs) ((bytes_eq-Decides x name).1 e)
    go (suc k) l e rec = or_right (bytes_eq x name) (has name xs) (rec (k, omega arith, e))

pub has_to : (names : List Text) (name : Text) → has name names ≡ true → Contains names name
has_to [] name h = absurd (false≢true h)
has_to (x ∷ xs) name h = go (bytes_eq x name) refl h (has_to xs name)
  where
    go : (t : Bool) → bytes_eq x name ≡ t → (t || has name xs) ≡ true → (has name xs ≡ true → Contains xs name) → Contains (x ∷ xs) name
    go true t h rec = (0, omega arith, same_text x name t)
    go false t h rec = let c = rec h in (suc c.0, omega (arith, c.1), c.2)

module _ {A : Type 0} (p : A → Bool) (f : Text → A) where
  -- the first that a name makes, where the test knows the name
  pub found_in : (name : Text) → ((x : Text) → p (f x) ≡ bytes_eq x name) → (names : List Text) (rest : List A) → has name names ≡ true
      → find p (map f names ++ rest) ≡ Some (f name)
  found_in name tells [] rest h = absurd (false≢true h)
  found_in name tells (x ∷ xs) rest h = go (bytes_eq x name) refl h (found_in name tells xs rest)
    where
      go : (t : Bool) → bytes_eq x name ≡ t → (t || has name xs) ≡ true → (has name xs ≡ true → find p (map f xs ++ rest) ≡ Some (f name))
          → cond (p (f x)) (Some (f x)) (find p (map f xs ++ rest)) ≡ Some (f name)
      go true t h rec = ap (λ (b : Bool). cond b (Some (f x)) (find p (map f xs ++ rest))) (tells x ∙ t) ∙ ap (λ (y : Text). Some (f y)) (same_text x name t)
      go false t h rec = ap (λ (b : Bool). cond b (Some (f x)) (find p (map f xs ++ rest))) (tells x ∙ t) ∙ rec h

  pub passed_in : (name : Text) → ((x : Text) → p (f x) ≡ bytes_eq x name) → (names : List Text) (rest : List A) → has name names ≡ false
      → find p (map f names ++ rest) ≡ find p rest
  passed_in name tells [] rest h = refl
  passed_in name tells (x ∷ xs) rest h = go (bytes_eq x name) refl h (passed_in name tells xs rest)
    where
      go : (t : Bool) → bytes_eq x name ≡ t → (t || has name xs) ≡ false → (has name xs ≡ false → find p (map f xs ++ rest) ≡ find p rest)
          → cond (p (f x)) (Some (f x)) (find p (map f xs ++ rest)) ≡ find p rest
      go true t h rec = absurd (false≢true (sym h))
      go false t h rec = ap (λ (b : Bool). cond b (Some (f x)) (find p (map f xs ++ rest))) (tells x ∙ t) ∙ rec h

  pub passed_all : ((x : Text) → p (f x) ≡ false) → (names : List Text) (rest : List A) → find p (map f names ++ rest) ≡ find p rest
  passed_all none [] rest = refl
  passed_all none (x ∷ xs) rest = ap (λ (b : Bool). cond b (Some (f x)) (find p (map f xs ++ rest))) (none x) ∙ passed_all none xs rest
