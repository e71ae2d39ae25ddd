-- What is in a list, in a list of what a function makes of its items, and under an answer that may be an error.
use Rattle.std.proofs.Common.{arith, ◌≡◌, ℕ, zero, suc, ◌<◌, List, [], ◌∷◌, length, map, get_or, slice_get, Some, Result, Ok, Err, IfOk, refl, sym, ap}
use Rattle.std.specs.Prelude.{Contains, OnOk}
use Rattle.std.proofs.lemmas.Option.{same_Some, none-some}

pub ok_follows : {A E : Type 0} {P Q : A → Type 0} (r : Result A E) → ((x : A) → P x → Q x) → IfOk r P → IfOk r Q
ok_follows (Ok x) follows h = follows x h
ok_follows (Err e) follows h = tt

pub on_follows : {A E : Type 0} {P Q : Type 0} (r : Result A E) → (P → Q) → OnOk r P → OnOk r Q
on_follows (Ok x) follows h = follows h
on_follows (Err e) follows h = tt

pub at_map : {A B : Type 0} (f : A → B) (xs : List A) (i : ℕ) (x : A) → i < length xs → x ≡ get_or xs i x → slice_get (map f xs) i ≡ Some (f x)
at_map f [] i x below is = absurd (omega (arith, below))
at_map f (y ∷ xs) zero x below is = ap (λ (z : _). Some (f z)) (sym is)
at_map f (y ∷ xs) (suc i) x below is = at_map f xs i x (omega (arith, below)) is

map_here : {A B : Type 0} (f : A → B) (first : A) (xs : List A) (x : A) (k : ℕ) → k < length (first ∷ xs) → get_or (first ∷ xs) k x ≡ x → Contains (map f (first ∷ xs)) (f x)
map_here f first xs x zero below is = (0, omega arith, ap f is)
map_here f first [] x (suc k) below is = absurd (omega (arith, below))
map_here f first (second ∷ xs) x (suc k) below is =
    let rest = map_here f second xs x k (omega (arith, below)) is in
    (suc rest.0, omega (arith, rest.1), rest.2)

pub in_map : {A B : Type 0} (f : A → B) (xs : List A) (x : A) → Contains xs x → Contains (map f xs) (f x)
in_map f [] x has = absurd (omega (arith, has.1))
in_map f (first ∷ xs) x has = map_here f first xs x has.0 has.1 has.2

map_from : {A B : Type 0} (f : A → B) (first : A) (xs : List A) (y : B) (k : ℕ) → k < length (map f (first ∷ xs)) → get_or (map f (first ∷ xs)) k y ≡ y
    → (x : A) × Contains (first ∷ xs) x × (f x ≡ y)
map_from f first xs y zero below is = (first, (0, omega arith, refl), is)
map_from f first [] y (suc k) below is = absurd (omega (arith, below))
map_from f first (second ∷ xs) y (suc k) below is =
    let rest = map_from f second xs y k (omega (arith, below)) is in
    (rest.0, (suc rest.1.0, omega (arith, rest.1.1), rest.1.2), rest.2)

pub from_map : {A B : Type 0} (f : A → B) (xs : List A) (y : B) → Contains (map f xs) y → (x : A) × Contains xs x × (f x ≡ y)
from_map f [] y has = absurd (omega (arith, has.1))
from_map f (first ∷ xs) y has = map_from f first xs y has.0 has.1 has.2

pub item_of_map : {A B : Type 0} (f : A → B) (xs : List A) (i : ℕ) (y : B) → slice_get (map f xs) i ≡ Some y → (x : A) × (slice_get xs i ≡ Some x) × (f x ≡ y)
item_of_map f [] i y there = absurd (none-some y there)
item_of_map f (x ∷ xs) zero y there = (x, refl, same_Some (f x) y there)
item_of_map f (x ∷ xs) (suc i) y there = item_of_map f xs i y there
