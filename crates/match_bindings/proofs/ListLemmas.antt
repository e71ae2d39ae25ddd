-- Lists mapped and filtered, part by part.
use Rattle.std.proofs.Common.{◌≡◌, List, [], ◌∷◌, ◌++◌, refl, sym, ◌∙◌, ap, append_assoc}
use Rattle.std.specs.Prelude.{Bool, true, false, map, filter, cond}

pub map_append : {A B : Type 0} (f : A → B) (xs ys : List A) → map f (xs ++ ys) ≡ map f xs ++ map f ys
map_append f [] ys = refl
map_append f (x ∷ xs) ys = ap (λ zs. f x ∷ zs) (map_append f xs ys)

cond_map : {A B : Type 0} (f : A → B) (b : Bool) (x : A) (xs : List A) → cond b (f x ∷ map f xs) (map f xs) ≡ map f (cond b (x ∷ xs) xs)
cond_map f true x xs = refl
cond_map f false x xs = refl

pub filter_map : {A B : Type 0} (f : A → B) (p : B → Bool) (xs : List A) → filter p (map f xs) ≡ map f (filter (λ x. p (f x)) xs)
filter_map f p [] = refl
filter_map f p (x ∷ xs) =
    ap (λ zs. cond (p (f x)) (f x ∷ zs) zs) (filter_map f p xs) ∙ cond_map f (p (f x)) x (filter (λ x. p (f x)) xs)

pub map_map : {A B C : Type 0} (f : A → B) (g : B → C) (xs : List A) → map g (map f xs) ≡ map (λ x. g (f x)) xs
map_map f g [] = refl
map_map f g (x ∷ xs) = ap (λ zs. g (f x) ∷ zs) (map_map f g xs)

pub map_agree : {A B : Type 0} (f g : A → B) → ((x : A) → f x ≡ g x) → (xs : List A) → map f xs ≡ map g xs
map_agree f g h [] = refl
map_agree f g h (x ∷ xs) = let one : f x ≡ g x = h x in let rest : map f xs ≡ map g xs = map_agree f g h xs in cc

-- what was added in two steps
pub added_twice : {A : Type 0} (old mid new a b all : List A) → mid ≡ old ++ a → new ≡ mid ++ b → all ≡ a ++ b → new ≡ old ++ all
added_twice old mid new a b all first second whole = second ∙ ap (λ z. z ++ b) first ∙ append_assoc old a b ∙ ap (λ z. old ++ z) (sym whole)
