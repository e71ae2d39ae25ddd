-- The items of the first part of a list, by their places.
use Rattle.std.proofs.Common.{arith, ◌≡◌, ℕ, zero, suc, ◌<◌, List, [], ◌∷◌, take, slice_get, Some}

pub taken : {X : Type 0} (k n : ℕ) (xs : List X) (x : X) → slice_get (take k xs) n ≡ Some x → slice_get xs n ≡ Some x
taken zero n xs x is = absurd cc
taken (suc k) n [] x is = is
taken (suc k) zero (y ∷ ys) x is = is
taken (suc k) (suc n) (y ∷ ys) x is = taken k n ys x is

pub taken_before : {X : Type 0} (k n : ℕ) (xs : List X) (x : X) → slice_get (take k xs) n ≡ Some x → n < k
taken_before zero n xs x is = absurd cc
taken_before (suc k) n [] x is = absurd cc
taken_before (suc k) zero (y ∷ ys) x is = omega arith
taken_before (suc k) (suc n) (y ∷ ys) x is = omega (arith, taken_before k n ys x is)

pub in_taken : {X : Type 0} (k n : ℕ) (xs : List X) (x : X) → n < k → slice_get xs n ≡ Some x → slice_get (take k xs) n ≡ Some x
in_taken zero n xs x less is = absurd (omega arith)
in_taken (suc k) n [] x less is = is
in_taken (suc k) zero (y ∷ ys) x less is = is
in_taken (suc k) (suc n) (y ∷ ys) x less is = in_taken k n ys x (omega arith) is
