-- The numbers of what is held, as a list and as a test.
use Rattle.std.proofs.Common.{◌≡◌, ℕ, zero, suc, ◌≤◌, ◌<◌, List, [], ◌∷◌, ◌++◌, length, refl, sym, ◌∙◌, ap, arith, append_assoc, append-nil, take, ◌⊎◌, inl, inr}
use Rattle.std.specs.Prelude.{Bool, true, false, ◌||◌, nat_eq, map, slice_index_or, ◌↔◌}
use Rattle.std.specs.List.{flat_map, Contains}
use Rattle.std.specs.Rc.{rc_value}
use Rattle.std.proofs.lemmas.Bool.{or_cases, or_left, or_right, eqb-true, eq-eqb}
use Rattle.std.proofs.lemmas.List.{take_all}
use Rattle.std.proofs.lemmas.List.Concat.{flat_map-append}
use Rattle.match_bindings.specs.declared.bind.Bind.{Bind}
use Rattle.match_bindings.specs.declared.bind.Bind.TheVariants.{First as OfFirst, rolls-First, Second as OfSecond, rolls-Second}
use Rattle.match_bindings.specs.declared.bind.Bind.TheOpen as shape
use Rattle.match_bindings.specs.declared.bind.Bind.TheFolds.{fold-roll-Bind}
use Rattle.match_bindings.specs.BindTree.{BindTree, One, Pair, First, Second, Empty, Single, More, firsts, more_of, many_of, tree_level, tree_of, has}
use Rattle.match_pruning.specs.PartialMatchTree.{PartialMatchTree}
use Rattle.match_pruning.specs.RowNumbers.{any_has, is_kept}
use Rattle.match_pruning.specs.inner.Steps.{no_levels, levels_above, all_levels}
use Rattle.match_pruning.specs.inner.Numbers.{numbers, store_numbers, all_numbers}

-- ---- lists

more_numbers : (m : BindTree) (xs : List BindTree) → numbers (more_of m xs) ≡ numbers m ++ flat_map numbers xs
more_numbers m [] = sym (append-nil (numbers m))
more_numbers m (x ∷ xs) = more_numbers (More m x) xs ∙ append_assoc (numbers m) (numbers x) (flat_map numbers xs)

many_numbers : (xs : List BindTree) → numbers (many_of xs) ≡ flat_map numbers xs
many_numbers [] = refl
many_numbers (x ∷ xs) = more_numbers (Single x) xs

pub push_all : (old out : List ℕ) (binds : List Bind) (i : ℕ) →
    length binds ≤ i → out ≡ old ++ flat_map numbers (map tree_of (take i binds)) → out ≡ old ++ numbers (many_of (map tree_of binds))
push_all old out binds i h e =
    e ∙ ap (λ z. old ++ flat_map numbers (map tree_of z)) (take_all i binds h) ∙ ap (λ z. old ++ z) (sym (many_numbers (map tree_of binds)))

pub numbers_firsts : (n : ℕ) (x : BindTree) → numbers (firsts n x) ≡ numbers x
numbers_firsts zero x = refl
numbers_firsts (suc n) x = numbers_firsts n x

-- the tree of a Second
tree_second : (part : _) → tree_of (OfSecond part) ≡ Second (tree_of (rc_value part))
tree_second part = ap tree_of (sym (rolls-Second part)) ∙ fold-roll-Bind BindTree tree_level (shape.Second part)

-- a First or a Second has the numbers of its part
pub numbers_of_part : (bind : Bind) (part : _) → ((n : ℕ) × (bind ≡ OfFirst n part)) ⊎ (bind ≡ OfSecond part) → numbers (tree_of bind) ≡ numbers (tree_of (rc_value part))
numbers_of_part bind part (inl is) =
    ap (λ b. numbers (tree_of b)) (is.1 ∙ sym (rolls-First is.0 part))
    ∙ ap numbers (fold-roll-Bind BindTree tree_level (shape.First is.0 part))
    ∙ numbers_firsts is.0 (tree_of (rc_value part))
numbers_of_part bind part (inr is) = ap (λ b. numbers (tree_of b)) is ∙ ap numbers (tree_second part)

pub numbers_append : (xs ys : List (List PartialMatchTree)) → all_numbers (xs ++ ys) ≡ all_numbers xs ++ all_numbers ys
numbers_append xs ys = flat_map-append store_numbers xs ys

none_numbers : (k : ℕ) → all_numbers (no_levels k) ≡ []
none_numbers zero = refl
none_numbers (suc k) = none_numbers k

pub numbers_levels : (n : ℕ) (made : List (List PartialMatchTree)) → all_numbers (all_levels n made) ≡ all_numbers made
numbers_levels n made =
    numbers_append made (no_levels (levels_above n made)) ∙ ap (λ z. all_numbers made ++ z) (none_numbers (levels_above n made)) ∙ append-nil (all_numbers made)

-- ---- tests

abbrev among : ℕ → List ℕ → Bool
among n [] = false
among n (x ∷ xs) = nat_eq n x || among n xs

or_none : (b : Bool) → (b || false) ≡ b
or_none true = refl
or_none false = refl

or_or : (p q r : Bool) → (p || (q || r)) ≡ ((p || q) || r)
or_or true q r = refl
or_or false q r = refl

among_append : (n : ℕ) (xs ys : List ℕ) → among n (xs ++ ys) ≡ (among n xs || among n ys)
among_append n [] ys = refl
among_append n (x ∷ xs) ys = ap (λ b. nat_eq n x || b) (among_append n xs ys) ∙ or_or (nat_eq n x) (among n xs) (among n ys)

among_numbers : (n : ℕ) (x : BindTree) → among n (numbers x) ≡ has n x
among_numbers n (One m) = or_none (nat_eq n m)
among_numbers n (Pair a b) = among_append n (numbers a) (numbers b) ∙ (let e = among_numbers n a in let f = among_numbers n b in rw (e, f) refl)
among_numbers n (First a) = among_numbers n a
among_numbers n (Second a) = among_numbers n a
among_numbers n Empty = refl
among_numbers n (Single a) = among_numbers n a
among_numbers n (More m a) = among_append n (numbers m) (numbers a) ∙ (let e = among_numbers n m in let f = among_numbers n a in rw (e, f) refl)

among_store : (n : ℕ) (held : List PartialMatchTree) → among n (store_numbers held) ≡ any_has n held
among_store n [] = refl
among_store n (h ∷ held) =
    among_append n (numbers h.tree) (store_numbers held) ∙ (let e = among_numbers n h.tree in let f = among_store n held in rw (e, f) refl)

among_all : (n : ℕ) (contents : List (List PartialMatchTree)) → among n (all_numbers contents) ≡ is_kept n contents
among_all n [] = refl
among_all n (held ∷ contents) =
    among_append n (store_numbers held) (all_numbers contents) ∙ (let e = among_store n held in let f = among_all n contents in rw (e, f) refl)

contains_among : (n : ℕ) (xs : List ℕ) (k : ℕ) → k < length xs → slice_index_or xs k n ≡ n → among n xs ≡ true
contains_among n [] k h e = absurd (omega arith)
contains_among n (x ∷ xs) zero h e = or_left (nat_eq n x) (among n xs) (eq-eqb n x (sym e))
contains_among n (x ∷ xs) (suc k) h e = or_right (nat_eq n x) (among n xs) (contains_among n xs k (omega arith) e)

among_contains : (n : ℕ) (xs : List ℕ) → among n xs ≡ true → Contains xs n
among_contains n [] h = absurd (cc)
among_contains n (x ∷ xs) h = elim (or_cases (nat_eq n x) (among n xs) h) [
  | inl e ↦ (zero, omega arith, sym (eqb-true n x e))
  | inr e ↦ (let rest = among_contains n xs e in (suc rest.0, omega (arith, rest.1), rest.2))
]

-- the numbers of a tree are those that it has
pub contains_numbers : (n : ℕ) (x : BindTree) → Contains (numbers x) n ↔ (has n x ≡ true)
contains_numbers n x = (
  λ h. sym (among_numbers n x) ∙ contains_among n (numbers x) h.0 h.1 h.2,
  λ h. among_contains n (numbers x) (among_numbers n x ∙ h),
)

-- what is among the numbers is kept
pub contains_kept : (n : ℕ) (contents : List (List PartialMatchTree)) → Contains (all_numbers contents) n ↔ (is_kept n contents ≡ true)
contains_kept n contents = (
  λ h. sym (among_all n contents) ∙ contains_among n (all_numbers contents) h.0 h.1 h.2,
  λ h. among_contains n (all_numbers contents) (among_all n contents ∙ h),
)
