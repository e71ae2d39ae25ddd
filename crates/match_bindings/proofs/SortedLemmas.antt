-- A list in another order.
use Rattle.std.proofs.Common.{◌≡◌, ◌+◌, ◌<◌, List, [], ◌∷◌, length, get_or, refl, sym, ◌∙◌, ap, arith}
use Rattle.std.specs.Prelude.{Bool, map}
use Rattle.std.specs.List.{sum_by}
use Rattle.std.specs.List.Sorted.{IsPermutation, IsSortedBy}
use Rattle.std.proofs.lemmas.List.{get_or-map, length-map}
use Rattle.std.proofs.lemmas.List.Sorted.{sum_by-IsPermutation}
use Rattle.std.proofs.lemmas.List.Sums.{sum_by-cons}
use Rattle.match_bindings.specs.BindTree.{BindTree}
use Rattle.match_bindings.specs.Once.{count, bit, is_same_tree}

count_is_sum : (x : BindTree) (xs : List BindTree) → count x xs ≡ sum_by (λ y. bit (is_same_tree x y)) xs
count_is_sum x [] = refl
count_is_sum x (y ∷ xs) = ap (λ n. bit (is_same_tree x y) + n) (count_is_sum x xs) ∙ sym (sum_by-cons (λ y. bit (is_same_tree x y)) y xs)

-- a list in another order has the is_same_tree counts
pub count_permuted : (x : BindTree) (xs ys : List BindTree) → IsPermutation xs ys → count x ys ≡ count x xs
count_permuted x xs ys h = count_is_sum x ys ∙ sum_by-IsPermutation (λ y. bit (is_same_tree x y)) xs ys h ∙ sym (count_is_sum x xs)

-- what is sorted by a test is sorted by the is_same_tree test of what f gives
pub sorted_map : {X Y : Type 0} (f : X → Y) (lt : X → X → Bool) (lt' : Y → Y → Bool) → ((a b : X) → lt' (f a) (f b) ≡ lt a b) →
    (xs : List X) → IsSortedBy lt xs → IsSortedBy lt' (map f xs)
sorted_map f lt lt' h [] up k d low high = absurd (omega arith)
sorted_map f lt lt' h (x ∷ xs) up k d low high =
    let len : length (map f (x ∷ xs)) ≡ length (x ∷ xs) = length-map (x ∷ xs) f in
    let here : k < length (x ∷ xs) = omega (arith, len, high) in
    let next : k + 1 < length (x ∷ xs) = omega (arith, len, high) in
    ap (λ z. lt' z (get_or (map f (x ∷ xs)) k d)) (get_or-map f (x ∷ xs) (k + 1) x d next)
    ∙ ap (λ z. lt' (f (get_or (x ∷ xs) (k + 1) x)) z) (get_or-map f (x ∷ xs) k x d here)
    ∙ h (get_or (x ∷ xs) (k + 1) x) (get_or (x ∷ xs) k x)
    ∙ up k x low next
