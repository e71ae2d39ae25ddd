-- Laws on how often a tree stands in a list.
use Rattle.std.proofs.Common.{◌≡◌, ℕ, ◌+◌, ◌*◌, List, [], ◌∷◌, ◌++◌, refl, sym, ◌∙◌, ap, arith}
use Rattle.std.specs.Prelude.{Bool, true, false, ◌&&◌, map, filter, cond}
use Rattle.std.proofs.lemmas.Bool.{and_parts, and_from, eqb-true, eq-eqb}
use Rattle.match_bindings.specs.BindTree.{BindTree, One, Pair, First, Second, Empty, Single, More}
use Rattle.match_bindings.specs.Once.{bit, is_same_tree, count}
use Rattle.match_bindings.proofs.PairsLemmas.{pairs}

pub same_is : (x y : BindTree) → is_same_tree x y ≡ true → x ≡ y
same_is (One m) (One n) h = ap One (eqb-true m n h)
same_is (Pair a b) (Pair c d) h =
    let parts = and_parts (is_same_tree a c) (is_same_tree b d) h in
    let left : a ≡ c = same_is a c parts.0 in
    let right : b ≡ d = same_is b d parts.1 in
    cc
same_is (First a) (First b) h = ap First (same_is a b h)
same_is (Second a) (Second b) h = ap Second (same_is a b h)
same_is Empty Empty h = refl
same_is (Single a) (Single b) h = ap Single (same_is a b h)
same_is (More a b) (More c d) h =
    let parts = and_parts (is_same_tree a c) (is_same_tree b d) h in
    let left : a ≡ c = same_is a c parts.0 in
    let right : b ≡ d = same_is b d parts.1 in
    cc
same_is x y h = absurd (cc)

pub same_self : (x : BindTree) → is_same_tree x x ≡ true
same_self (One n) = eq-eqb n n refl
same_self (Pair a b) = and_from _ _ (same_self a) (same_self b)
same_self (First a) = same_self a
same_self (Second a) = same_self a
same_self Empty = refl
same_self (Single a) = same_self a
same_self (More a b) = and_from _ _ (same_self a) (same_self b)

pub bit_and : (p q : Bool) → bit (p && q) ≡ bit p * bit q
bit_and true true = refl
bit_and true false = refl
bit_and false true = refl
bit_and false false = refl

pub count_append : (x : BindTree) (xs ys : List BindTree) → count x (xs ++ ys) ≡ count x xs + count x ys
count_append x [] ys = omega arith
count_append x (y ∷ xs) ys = omega (arith, count_append x xs ys)

-- one element of a filter, by whether it is the tree
filter_one : (x y : BindTree) (f : BindTree → Bool) (n m : ℕ) (s t : Bool) → is_same_tree x y ≡ s → f y ≡ t → n ≡ bit (f x) * m →
    cond t (bit s + n) n ≡ bit (f x) * (bit s + m)
filter_one x y f n m true true e h k =
    let one : x ≡ y = same_is x y e in
    let fx : f x ≡ true = ap f one ∙ h in
    rw (k, fx) (omega arith)
filter_one x y f n m true false e h k =
    let one : x ≡ y = same_is x y e in
    let fx : f x ≡ false = ap f one ∙ h in
    rw (k, fx) (omega arith)
filter_one x y f n m false true e h k = omega arith
filter_one x y f n m false false e h k = omega arith

count_cond : (x y : BindTree) (zs : List BindTree) (t : Bool) → count x (cond t (y ∷ zs) zs) ≡ cond t (bit (is_same_tree x y) + count x zs) (count x zs)
count_cond x y zs true = refl
count_cond x y zs false = refl

pub count_filter : (x : BindTree) (f : BindTree → Bool) (xs : List BindTree) → count x (filter f xs) ≡ bit (f x) * count x xs
count_filter x f [] = omega arith
count_filter x f (y ∷ xs) =
    count_cond x y (filter f xs) (f y)
    ∙ filter_one x y f (count x (filter f xs)) (count x xs) (is_same_tree x y) (f y) refl refl (count_filter x f xs)

-- a way to make a tree of two, which tells both
pub record Joins (mk : BindTree → BindTree → BindTree) : Type 0 where
  pub tells : (a b c d : BindTree) → is_same_tree (mk a b) (mk c d) ≡ (is_same_tree a c && is_same_tree b d)

count_mapped : (mk : BindTree → BindTree → BindTree) → Joins mk → (a b x : BindTree) (ys : List BindTree) → count (mk a b) (map (mk x) ys) ≡ bit (is_same_tree a x) * count b ys
count_mapped mk j a b x [] = omega arith
count_mapped mk j a b x (y ∷ ys) =
    let tells = j.tells a b x y in
    let one = bit_and (is_same_tree a x) (is_same_tree b y) in
    let rest = count_mapped mk j a b x ys in
    rw (tells, one, rest) (omega arith)

-- the is_same_tree, of those that may be joined
row_bits : (a x : BindTree) (ok : BindTree → Bool) (s : Bool) (m : ℕ) → is_same_tree a x ≡ s → bit s * (bit (ok x) * m) ≡ bit (ok a) * (bit s * m)
row_bits a x ok true m h = let one : a ≡ x = same_is a x h in let e : ok x ≡ ok a = ap ok (sym one) in rw e (omega arith)
row_bits a x ok false m h = omega arith

pub count_pairs : (mk : BindTree → BindTree → BindTree) → Joins mk → (ok : BindTree → BindTree → Bool) (a b : BindTree) (xs ys : List BindTree) →
    count (mk a b) (pairs mk ok xs ys) ≡ bit (ok a b) * (count a xs * count b ys)
count_pairs mk j ok a b [] ys = omega arith
count_pairs mk j ok a b (x ∷ xs) ys =
    count_append (mk a b) (map (mk x) (filter (ok x) ys)) (pairs mk ok xs ys)
    ∙ (let one = count_mapped mk j a b x (filter (ok x) ys) in
    let kept = count_filter b (ok x) ys in
    let swap = row_bits a x (λ z. ok z b) (is_same_tree a x) (count b ys) refl in
    let rest = count_pairs mk j ok a b xs ys in
    rw (one, kept, swap, rest) (omega arith))

-- other trees aren't among the joined
count_other : (mk : BindTree → BindTree → BindTree) (z : BindTree) → ((c d : BindTree) → is_same_tree z (mk c d) ≡ false) → (x : BindTree) (ys : List BindTree) → count z (map (mk x) ys) ≡ 0
count_other mk z h x [] = refl
count_other mk z h x (y ∷ ys) = let no = h x y in rw no (omega (arith, count_other mk z h x ys))

pub count_others : (mk : BindTree → BindTree → BindTree) (ok : BindTree → BindTree → Bool) (z : BindTree) → ((c d : BindTree) → is_same_tree z (mk c d) ≡ false) → (xs ys : List BindTree) → count z (pairs mk ok xs ys) ≡ 0
count_others mk ok z h [] ys = refl
count_others mk ok z h (x ∷ xs) ys =
    omega (arith, count_append z (map (mk x) (filter (ok x) ys)) (pairs mk ok xs ys), count_other mk z h x (filter (ok x) ys), count_others mk ok z h xs ys)

-- under one constructor
pub count_under : (mk : BindTree → BindTree) → ((a b : BindTree) → is_same_tree (mk a) (mk b) ≡ is_same_tree a b) → (a : BindTree) (xs : List BindTree) → count (mk a) (map mk xs) ≡ count a xs
count_under mk h a [] = refl
count_under mk h a (x ∷ xs) = let one = h a x in let rest = count_under mk h a xs in rw (one, rest) refl

pub count_not_under : (mk : BindTree → BindTree) (z : BindTree) → ((b : BindTree) → is_same_tree z (mk b) ≡ false) → (xs : List BindTree) → count z (map mk xs) ≡ 0
count_not_under mk z h [] = refl
count_not_under mk z h (x ∷ xs) = let no = h x in rw no (omega (arith, count_not_under mk z h xs))
