-- What is true of a chain, by its parts.
use Rattle.std.proofs.Common.{◌≡◌, ℕ, ◌≤◌, List, [], ◌∷◌, ◌++◌, length, take, refl, sym, ◌∙◌, ap, arith, append_assoc, append-nil}
use Rattle.std.specs.Prelude.{Bool, true, false, ◌&&◌, ◌||◌, max, map}
use Rattle.std.specs.List.{flat_map}
use Rattle.std.proofs.lemmas.List.{take_all}
use Rattle.match_bindings.specs.declared.bind.Bind.{Bind}
use Rattle.match_bindings.specs.BindTree.{tree_of, BindTree, Empty, Single, More, has, disjoint, greatest, more_of, many_of, add_part}
use Rattle.match_bindings.proofs.PartsLemmas.{any_has, all_apart, greatest_from}
use Rattle.match_bindings.specs.inner.Kinds.{is_one, is_pair, is_chain, chain_of}
use Rattle.match_bindings.specs.Flat.{flat}
use Rattle.match_bindings.specs.Line.{entries_text}

or_or : (p q r : Bool) → ((p || q) || r) ≡ (p || (q || r))
or_or true q r = refl
or_or false q r = refl

or_none : (p : Bool) → p ≡ (p || false)
or_none true = refl
or_none false = refl

and_and : (p q r : Bool) → ((p && q) && r) ≡ (p && (q && r))
and_and true q r = refl
and_and false q r = refl

and_none : (p : Bool) → p ≡ (p && true)
and_none true = refl
and_none false = refl

more_has : (n : ℕ) (m : BindTree) (xs : List BindTree) → has n (more_of m xs) ≡ (has n m || any_has n xs)
more_has n m [] = or_none (has n m)
more_has n m (x ∷ xs) = more_has n (More m x) xs ∙ or_or (has n m) (has n x) (any_has n xs)

pub many_has : (n : ℕ) (xs : List BindTree) → has n (many_of xs) ≡ any_has n xs
many_has n [] = refl
many_has n (x ∷ xs) = more_has n (Single x) xs

more_disjoint : (m b : BindTree) (xs : List BindTree) → disjoint (more_of m xs) b ≡ (disjoint m b && all_apart xs b)
more_disjoint m b [] = and_none (disjoint m b)
more_disjoint m b (x ∷ xs) = more_disjoint (More m x) b xs ∙ and_and (disjoint m b) (disjoint x b) (all_apart xs b)

pub many_disjoint : (b : BindTree) (xs : List BindTree) → disjoint (many_of xs) b ≡ all_apart xs b
many_disjoint b [] = refl
many_disjoint b (x ∷ xs) = more_disjoint (Single x) b xs

more_greatest : (m : BindTree) (xs : List BindTree) → greatest (more_of m xs) ≡ greatest_from (greatest m) xs
more_greatest m [] = refl
more_greatest m (x ∷ xs) = more_greatest (More m x) xs

pub many_greatest : (xs : List BindTree) → greatest (many_of xs) ≡ greatest_from 0 xs
many_greatest [] = refl
many_greatest (x ∷ xs) =
    let e : max 0 (greatest x) ≡ greatest x = omega arith in
    more_greatest (Single x) xs ∙ ap (λ n. greatest_from n xs) (sym e)

more_flats : (m : BindTree) (xs : List BindTree) → flat (more_of m xs) ≡ flat m ++ flat_map flat xs
more_flats m [] = sym (append-nil (flat m))
more_flats m (x ∷ xs) = more_flats (More m x) xs ∙ append_assoc (flat m) (flat x) (flat_map flat xs)

pub many_flats : (xs : List BindTree) → flat (many_of xs) ≡ flat_map flat xs
many_flats [] = refl
many_flats (x ∷ xs) = more_flats (Single x) xs

more_entries : (m : BindTree) (xs : List BindTree) → entries_text (more_of m xs) ≡ entries_text m ++ flat_map entries_text xs
more_entries m [] = sym (append-nil (entries_text m))
more_entries m (x ∷ xs) = more_entries (More m x) xs ∙ append_assoc (entries_text m) (entries_text x) (flat_map entries_text xs)

pub many_entries : (xs : List BindTree) → entries_text (many_of xs) ≡ flat_map entries_text xs
many_entries [] = refl
many_entries (x ∷ xs) = more_entries (Single x) xs

-- a loop that adds what f gives of each bind has added what it gives of their chain
pub push_all : (f : BindTree → List ℕ) → ((xs : List BindTree) → f (many_of xs) ≡ flat_map f xs) → (old out : List ℕ) (binds : List Bind) (i : ℕ) →
    length binds ≤ i → out ≡ old ++ flat_map f (map tree_of (take i binds)) → out ≡ old ++ f (many_of (map tree_of binds))
push_all f many old out binds i h e =
    e ∙ ap (λ z. old ++ flat_map f (map tree_of z)) (take_all i binds h) ∙ ap (λ z. old ++ z) (sym (many (map tree_of binds)))

-- what is so of each chain is so of the chain of any parts
of_more : (P : BindTree → Type 0) → ((m a : BindTree) → P (More m a)) → (m : BindTree) (xs : List BindTree) → P m → P (more_of m xs)
of_more P more m [] h = h
of_more P more m (x ∷ xs) h = of_more P more (More m x) xs (more m x)

pub of_many : (P : BindTree → Type 0) → P Empty → ((a : BindTree) → P (Single a)) → ((m a : BindTree) → P (More m a)) → (xs : List BindTree) → P (many_of xs)
of_many P empty single more [] = empty
of_many P empty single more (x ∷ xs) = of_more P more (Single x) xs (single x)

pub one_many : (xs : List BindTree) → is_one (many_of xs) ≡ false
one_many xs = of_many (λ x. is_one x ≡ false) refl (λ a. refl) (λ m a. refl) xs

pub pair_many : (xs : List BindTree) → is_pair (many_of xs) ≡ false
pair_many xs = of_many (λ x. is_pair x ≡ false) refl (λ a. refl) (λ m a. refl) xs

pub many_chain : (xs : List BindTree) → many_of xs ≡ chain_of (many_of xs)
many_chain xs = of_many (λ x. x ≡ chain_of x) refl (λ a. refl) (λ m a. refl) xs

pub no_chain : (x : BindTree) → is_chain x ≡ false → Empty ≡ chain_of x
no_chain Empty h = refl
no_chain (Single a) h = absurd (cc)
no_chain (More m a) h = absurd (cc)
no_chain x h = refl

-- one more part at the end
more_last : (m x : BindTree) (xs : List BindTree) → more_of m (xs ++ x ∷ []) ≡ More (more_of m xs) x
more_last m x [] = refl
more_last m x (y ∷ xs) = more_last (More m y) x xs

pub many_last : (x y : BindTree) (xs : List BindTree) → many_of (x ∷ (xs ++ y ∷ [])) ≡ More (many_of (x ∷ xs)) y
many_last x y xs = more_last (Single x) y xs

add_more : (m a : BindTree) (xs : List BindTree) → ((b : BindTree) → add_part m b ≡ More m b) → add_part (more_of m xs) a ≡ More (more_of m xs) a
add_more m a [] h = h a
add_more m a (x ∷ xs) h = add_more (More m x) a xs (λ b. refl)

-- the chain of some parts with one more
pub many_add : (xs : List BindTree) (a : BindTree) → many_of (xs ++ a ∷ []) ≡ add_part (many_of xs) a
many_add [] a = refl
many_add (x ∷ xs) a = many_last x a xs ∙ sym (add_more (Single x) a xs (λ b. refl))

pub add_chain : (x a : BindTree) → add_part (chain_of x) a ≡ add_part x a
add_chain (Single b) a = refl
add_chain (More m b) a = refl
add_chain x a = refl
