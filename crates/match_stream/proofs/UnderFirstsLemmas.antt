-- Things put under so many Firsts at once.
use Rattle.std.proofs.Common.{◌≡◌, ℕ, zero, suc, ◌+◌, List, [], ◌∷◌, ◌++◌, refl, sym, ◌∙◌, ap, arith, append_assoc}
use Rattle.std.specs.Prelude.{map}
use Rattle.match_bindings.specs.BindTree.{BindTree, First, Second, firsts}
use Rattle.match_pruning.specs.PartialMatchTree.{PartialMatchTree}
use Rattle.match_pruning.specs.inner.Steps.{held_with}

pub under_none : (xs : List PartialMatchTree) → map (held_with (firsts 0)) xs ≡ xs
under_none [] = refl
under_none (x ∷ xs) = ap (λ z. x ∷ z) (under_none xs)

firsts_first : (n : ℕ) (x : BindTree) → firsts (n + 1) x ≡ firsts n (First x)
firsts_first n x = (let e : n + 1 ≡ suc n = omega arith in ap (λ k. firsts k x) e) ∙ inside n where
  inside : (m : ℕ) → firsts (suc m) x ≡ firsts m (First x)
  inside zero = refl
  inside (suc m) = ap First (inside m)

under_more : (n : ℕ) (xs : List PartialMatchTree) → map (held_with (firsts (n + 1))) xs ≡ map (held_with (firsts n)) (map (held_with First) xs)
under_more n [] = refl
under_more n (x ∷ xs) =
    ap (λ tree. (let partial_match : PartialMatchTree = record { tree = tree; earliest = x.earliest; latest = x.latest } in partial_match) ∷ map (held_with (firsts (n + 1))) xs) (firsts_first n x.tree)
    ∙ ap (λ z. held_with (firsts n) (held_with First x) ∷ z) (under_more n xs)

map_append : (f : PartialMatchTree → PartialMatchTree) (xs ys : List PartialMatchTree) → map f (xs ++ ys) ≡ map f xs ++ map f ys
map_append f [] ys = refl
map_append f (x ∷ xs) ys = ap (λ z. f x ∷ z) (map_append f xs ys)

-- the things of both sides of an OR that is the left side of n more
pub choice_under : (n : ℕ) (xs ys : List PartialMatchTree) →
    map (held_with (firsts (n + 1))) xs ++ map (held_with (firsts n)) (map (held_with Second) ys)
    ≡ map (held_with (firsts n)) (map (held_with First) xs ++ map (held_with Second) ys)
choice_under n xs ys =
    ap (λ z. z ++ map (held_with (firsts n)) (map (held_with Second) ys)) (under_more n xs)
    ∙ sym (map_append (held_with (firsts n)) (map (held_with First) xs) (map (held_with Second) ys))

-- the same after left others
pub choice_added : (n : ℕ) (old mid new xs ys : List PartialMatchTree) → mid ≡ old ++ map (held_with (firsts (n + 1))) xs →
    new ≡ mid ++ map (held_with (firsts n)) (map (held_with Second) ys) → new ≡ old ++ map (held_with (firsts n)) (map (held_with First) xs ++ map (held_with Second) ys)
choice_added n old mid new xs ys first second =
    second
    ∙ ap (λ z. z ++ map (held_with (firsts n)) (map (held_with Second) ys)) first
    ∙ append_assoc old (map (held_with (firsts (n + 1))) xs) (map (held_with (firsts n)) (map (held_with Second) ys))
    ∙ ap (λ z. old ++ z) (choice_under n xs ys)
