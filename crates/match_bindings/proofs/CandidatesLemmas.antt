-- What is candidates for a pattern is its bindings that fit the bounds, each once.
use Rattle.std.proofs.Common.{◌≡◌, ℕ, zero, suc, ◌+◌, ◌*◌, ◌≤◌, ◌<◌, List, [], ◌∷◌, ◌++◌, refl, sym, ◌∙◌, ap, arith}
use Rattle.std.specs.Prelude.{Bool, true, false, ◌&&◌, nat_eq, map, filter, cond}
use Rattle.std.proofs.lemmas.Bool.{eqb-true, eqb-false, ne_eqb}
use Rattle.match_bindings.specs.declared.bounds.Bounds.{Bounds}
use Rattle.match_bindings.specs.declared.join.Join.{Join}
use Rattle.match_bindings.specs.declared.join.Join.TheVariants as join
use Rattle.match_bindings.specs.NumberedPattern.{NumberedPattern, Leaf, Both, Then, Either, Within, Between, Repeats}
use Rattle.match_bindings.specs.BindTree.{BindTree, One, Pair, First, Second, Empty, Single, More, disjoint}
use Rattle.match_bindings.specs.Log.{Observed}
use Rattle.match_bindings.specs.Test.{is_binding, are_repeats}
use Rattle.match_bindings.specs.Once.{bit, is_same_tree, count, Exactly}
use Rattle.match_bindings.proofs.PairsLemmas.{pairs}
use Rattle.match_bindings.specs.Bounds.{within, between}
use Rattle.match_bindings.specs.inner.Candidates.{span_of, joined_span, span_fits, lies_within, lies_between, SpannedTree, spanned_binding, spanned_with, joined_bindings, admits, may_join_spans, joined_spanned, span_join_row, span_joins, one_if, ones, repeats_of, candidates}
use Rattle.match_bindings.proofs.ListLemmas.{map_append, map_map, map_agree, filter_map}
use Rattle.match_bindings.proofs.OnceLemmas.{Joins, count_append, count_pairs, count_others, count_under, count_not_under}
use Rattle.match_bindings.proofs.BoundsLemmas.{fits_parts, fits_within, fits_between}

pub exactly_same : (f g : BindTree → Bool) (xs : List BindTree) → ((x : BindTree) → f x ≡ g x) → Exactly f xs → Exactly g xs
exactly_same f g xs h e x = e x ∙ ap bit (h x)

-- the spanned_trees are those trees that pass and fit, each once, with their spans
abbrev pub AreAll : Observed → Bounds → (BindTree → Bool) → List SpannedTree → Type 0
AreAll o w f spanned_trees = (xs : List BindTree) × (spanned_trees ≡ map (spanned_binding o) xs) × Exactly (λ x. f x && span_fits w (span_of o x)) xs

-- ---- leaves

-- whether an observation is candidates at a leaf
abbrev here : Observed → Bounds → ℕ → ℕ → Bool
here o w k i = o.holds k i && span_fits w (span_of o (One i))

abbrev one_trees : Observed → Bounds → ℕ → ℕ → List BindTree
one_trees o w k zero = []
one_trees o w k (suc n) = one_trees o w k n ++ cond (here o w k (suc n)) (One (suc n) ∷ []) []

map_cond : {A B : Type 0} (f : A → B) (b : Bool) (x : A) → cond b (f x ∷ []) [] ≡ map f (cond b (x ∷ []) [])
map_cond f true x = refl
map_cond f false x = refl

ones_are : (o : Observed) (w : Bounds) (k n : ℕ) → ones o w k n ≡ map (spanned_binding o) (one_trees o w k n)
ones_are o w k zero = refl
ones_are o w k (suc n) =
    ap (λ z. z ++ one_if (o.holds k (suc n)) w (spanned_binding o (One (suc n)))) (ones_are o w k n)
    ∙ ap (λ z. map (spanned_binding o) (one_trees o w k n) ++ z) (map_cond (spanned_binding o) (here o w k (suc n)) (One (suc n)))
    ∙ sym (map_append (spanned_binding o) (one_trees o w k n) (cond (here o w k (suc n)) (One (suc n) ∷ []) []))

count_cond : (x y : BindTree) (b : Bool) → count x (cond b (y ∷ []) []) ≡ bit (b && is_same_tree x y)
count_cond x y true = omega arith
count_cond x y false = refl

count_more : (o : Observed) (w : Bounds) (k n : ℕ) (x : BindTree) →
    count x (one_trees o w k (suc n)) ≡ count x (one_trees o w k n) + bit (here o w k (suc n) && is_same_tree x (One (suc n)))
count_more o w k n x =
    count_append x (one_trees o w k n) (cond (here o w k (suc n)) (One (suc n) ∷ []) [])
    ∙ ap (λ m. count x (one_trees o w k n) + m) (count_cond x (One (suc n)) (here o w k (suc n)))

and_no : (b : Bool) → (b && false) ≡ false
and_no true = refl
and_no false = refl

and_yes : (b : Bool) → (b && true) ≡ b
and_yes true = refl
and_yes false = refl

-- a tree of another kind isn't there
no_others : (o : Observed) (w : Bounds) (k n : ℕ) (x : BindTree) → ((i : ℕ) → is_same_tree x (One i) ≡ false) → count x (one_trees o w k n) ≡ 0
no_others o w k zero x h = refl
no_others o w k (suc n) x h =
    count_more o w k n x ∙ (let isnt = h (suc n) in let none = and_no (here o w k (suc n)) in rw (isnt, none) (omega (arith, no_others o w k n x h)))

above : (o : Observed) (w : Bounds) (k n i : ℕ) → n < i → count (One i) (one_trees o w k n) ≡ 0
above o w k zero i h = refl
above o w k (suc n) i h =
    count_more o w k n (One i)
    ∙ (let other : nat_eq i (suc n) ≡ false = ne_eqb i (suc n) (λ e. omega arith) in
    let none = and_no (here o w k (suc n)) in
    let rest : count (One i) (one_trees o w k n) ≡ 0 = above o w k n i (omega arith) in
    rw (other, none) (omega (arith, rest)))

inside : (o : Observed) (w : Bounds) (k n i : ℕ) → 0 < i → i ≤ n → count (One i) (one_trees o w k n) ≡ bit (here o w k i)
inside o w k zero i a b = absurd (omega arith)
inside o w k (suc n) i a b = count_more o w k n (One i) ∙ by_test (λ b. inside o w k n i a b) (nat_eq i (suc n)) refl where
  by_test : (i ≤ n → count (One i) (one_trees o w k n) ≡ bit (here o w k i)) → (t : Bool) → nat_eq i (suc n) ≡ t →
      count (One i) (one_trees o w k n) + bit (here o w k (suc n) && nat_eq i (suc n)) ≡ bit (here o w k i)
  by_test ih true e =
      let one : i ≡ suc n = eqb-true i (suc n) e in
      let rest : count (One i) (one_trees o w k n) ≡ 0 = above o w k n i (omega arith) in
      let back : here o w k (suc n) ≡ here o w k i = ap (here o w k) (sym one) in
      let all = and_yes (here o w k i) in
      rw (e, rest, back, all) (omega arith)
  by_test ih false e =
      let other : i ≡ suc n → ⊥ = eqb-false i (suc n) e in
      let rest : count (One i) (one_trees o w k n) ≡ bit (here o w k i) = ih (omega (arith, other)) in
      let none = and_no (here o w k (suc n)) in
      rw (e, none, rest) (omega arith)

-- leaves spanned_binding only for observations 1 to n
pub record Rows (o : Observed) (n : ℕ) : Type 0 where
  pub from : (k i : ℕ) → o.holds k i ≡ true → 0 < i
  pub upto : (k i : ℕ) → o.holds k i ≡ true → i ≤ n

one_listed : (o : Observed) (w : Bounds) (k n : ℕ) → Rows o n → (i : ℕ) → count (One i) (one_trees o w k n) ≡ bit (here o w k i)
one_listed o w k n rows i = by_test (o.holds k i) refl where
  outside : o.holds k i ≡ false → (m : ℕ) → count (One i) (one_trees o w k m) ≡ 0
  outside h zero = refl
  outside h (suc m) = count_more o w k m (One i) ∙ at (nat_eq i (suc m)) refl (outside h m) where
    at : (t : Bool) → nat_eq i (suc m) ≡ t → count (One i) (one_trees o w k m) ≡ 0 →
        count (One i) (one_trees o w k m) + bit (here o w k (suc m) && nat_eq i (suc m)) ≡ 0
    at true e ih =
        let one : suc m ≡ i = sym (eqb-true i (suc m) e) in
        let none : o.holds k (suc m) ≡ false = ap (o.holds k) one ∙ h in
        rw (none, ih) (omega arith)
    at false e ih = let none = and_no (here o w k (suc m)) in rw (e, none, ih) (omega arith)

  by_test : (t : Bool) → o.holds k i ≡ t → count (One i) (one_trees o w k n) ≡ bit (here o w k i)
  by_test true h = inside o w k n i (rows.from k i h) (rows.upto k i h)
  by_test false h = rw (h, outside h n) refl

leaf_found : (o : Observed) (n : ℕ) → Rows o n → (w : Bounds) (k : ℕ) → Exactly (λ x. is_binding o (Leaf k) x && span_fits w (span_of o x)) (one_trees o w k n)
leaf_found o n rows w k (One i) = one_listed o w k n rows i
leaf_found o n rows w k (Pair a b) = no_others o w k n (Pair a b) (λ i. refl)
leaf_found o n rows w k (First a) = no_others o w k n (First a) (λ i. refl)
leaf_found o n rows w k (Second a) = no_others o w k n (Second a) (λ i. refl)
leaf_found o n rows w k Empty = no_others o w k n Empty (λ i. refl)
leaf_found o n rows w k (Single a) = no_others o w k n (Single a) (λ i. refl)
leaf_found o n rows w k (More m a) = no_others o w k n (More m a) (λ i. refl)

-- ---- span_joins

-- each of the trees is joined as mk span_joins it
abbrev AreMade : Join → (BindTree → BindTree → BindTree) → List BindTree → Type 0
AreMade j mk [] = Unit {0}
AreMade j mk (x ∷ xs) = ((b : BindTree) → joined_bindings j x b ≡ mk x b) × AreMade j mk xs

record Makes (o : Observed) (mk : BindTree → BindTree → BindTree) : Type 0 where
  makes : (a b : BindTree) → joined_span (span_of o a) (span_of o b) ≡ span_of o (mk a b)

row_is : (o : Observed) (j : Join) (w : Bounds) (mk : BindTree → BindTree → BindTree) → Makes o mk → (x : BindTree) → ((b : BindTree) → joined_bindings j x b ≡ mk x b) → (ys : List BindTree) →
    span_join_row j w (spanned_binding o x) (map (spanned_binding o) ys) ≡ map (spanned_binding o) (map (mk x) (filter (λ y. may_join_spans j w (spanned_binding o x) (spanned_binding o y)) ys))
row_is o j w mk k x made ys =
    ap (map (joined_spanned j (spanned_binding o x))) (filter_map (spanned_binding o) (may_join_spans j w (spanned_binding o x)) ys)
    ∙ map_map (spanned_binding o) (joined_spanned j (spanned_binding o x)) (filter (λ y. may_join_spans j w (spanned_binding o x) (spanned_binding o y)) ys)
    ∙ map_agree (λ y. joined_spanned j (spanned_binding o x) (spanned_binding o y)) (λ y. spanned_binding o (mk x y)) each (filter (λ y. may_join_spans j w (spanned_binding o x) (spanned_binding o y)) ys)
    ∙ sym (map_map (mk x) (spanned_binding o) (filter (λ y. may_join_spans j w (spanned_binding o x) (spanned_binding o y)) ys)) where
      each : (y : BindTree) → joined_spanned j (spanned_binding o x) (spanned_binding o y) ≡ spanned_binding o (mk x y)
      each y = let t = made y in let s = k.makes x y in λ i. record { tree = t i; span = s i }

joins_are : (o : Observed) (j : Join) (w : Bounds) (mk : BindTree → BindTree → BindTree) → Makes o mk → (xs ys : List BindTree) → AreMade j mk xs →
    span_joins j w (map (spanned_binding o) xs) (map (spanned_binding o) ys) ≡ map (spanned_binding o) (pairs mk (λ a b. may_join_spans j w (spanned_binding o a) (spanned_binding o b)) xs ys)
joins_are o j w mk k [] ys made = refl
joins_are o j w mk k (x ∷ xs) ys made =
    ap (λ z. z ++ span_joins j w (map (spanned_binding o) xs) (map (spanned_binding o) ys)) (row_is o j w mk k x made.0 ys)
    ∙ ap (λ z. map (spanned_binding o) (map (mk x) (filter (λ y. may_join_spans j w (spanned_binding o x) (spanned_binding o y)) ys)) ++ z) (joins_are o j w mk k xs ys made.1)
    ∙ sym (map_append (spanned_binding o) (map (mk x) (filter (λ y. may_join_spans j w (spanned_binding o x) (spanned_binding o y)) ys)) (pairs mk (λ a b. may_join_spans j w (spanned_binding o a) (spanned_binding o b)) xs ys))

fit_bits : (f g a d x y t : Bool) → (t ≡ true → (x ≡ true) × (y ≡ true)) →
    bit ((a && t) && d) * (bit (f && x) * bit (g && y)) ≡ bit (((f && g) && (a && d)) && t)
fit_bits f g a d x y false h =
    let one = and_no a in let two = and_no ((f && g) && (a && d)) in rw (one, two) (omega arith)
fit_bits f g a d x y true h =
    let e = (h refl).0 in let e' = (h refl).1 in
    let one = and_yes f in let two = and_yes g in let three = and_yes a in let four = and_yes ((f && g) && (a && d)) in
    rw (e, e', one, two, three, four) (bits f g a d) where
      bits : (f g a d : Bool) → bit (a && d) * (bit f * bit g) ≡ bit ((f && g) && (a && d))
      bits true true true true = refl
      bits true true true false = refl
      bits true true false d = refl
      bits true false a d = omega arith
      bits false g a d = omega arith

-- a pair stands there once where both sides do and it span_fits
pair_found : (o : Observed) (j : Join) (w : Bounds) (mk : BindTree → BindTree → BindTree) → Joins mk → (f g : BindTree → Bool) (xs ys : List BindTree) →
    Exactly (λ x. f x && span_fits w (span_of o x)) xs → Exactly (λ y. g y && span_fits w (span_of o y)) ys → (a b : BindTree) →
    count (mk a b) (pairs mk (λ a b. may_join_spans j w (spanned_binding o a) (spanned_binding o b)) xs ys)
    ≡ bit (((f a && g b) && (admits j (span_of o a) (span_of o b) && disjoint a b)) && span_fits w (joined_span (span_of o a) (span_of o b)))
pair_found o j w mk tells f g xs ys hx hy a b =
    count_pairs mk tells (λ a b. may_join_spans j w (spanned_binding o a) (spanned_binding o b)) a b xs ys
    ∙ (let e = hx a in let e' = hy b in rw (e, e') refl)
    ∙ fit_bits (f a) (g b) (admits j (span_of o a) (span_of o b)) (disjoint a b) (span_fits w (span_of o a)) (span_fits w (span_of o b))
    (span_fits w (joined_span (span_of o a) (span_of o b))) (λ h. fits_parts w (span_of o a) (span_of o b) h)

all_made : (j : Join) (mk : BindTree → BindTree → BindTree) → ((a b : BindTree) → joined_bindings j a b ≡ mk a b) → (xs : List BindTree) → AreMade j mk xs
all_made j mk h [] = tt
all_made j mk h (x ∷ xs) = (h x, all_made j mk h xs)

pub pair_joins : Joins Pair
pair_joins = record { tells = λ a b c d. refl }

pub more_joins : Joins More
more_joins = record { tells = λ a b c d. refl }

no_pairs : (o : Observed) (j : Join) (w : Bounds) (xs ys : List BindTree) (x : BindTree) → ((a b : BindTree) → is_same_tree x (Pair a b) ≡ false) →
    count x (pairs Pair (λ a b. may_join_spans j w (spanned_binding o a) (spanned_binding o b)) xs ys) ≡ 0
no_pairs o j w xs ys x h = count_others Pair (λ a b. may_join_spans j w (spanned_binding o a) (spanned_binding o b)) x h xs ys

both_found : (o : Observed) (w : Bounds) (p q : NumberedPattern) (xs ys : List BindTree) →
    Exactly (λ x. is_binding o p x && span_fits w (span_of o x)) xs → Exactly (λ y. is_binding o q y && span_fits w (span_of o y)) ys →
    Exactly (λ x. is_binding o (Both p q) x && span_fits w (span_of o x)) (pairs Pair (λ a b. may_join_spans join.Both w (spanned_binding o a) (spanned_binding o b)) xs ys)
both_found o w p q xs ys hx hy (Pair a b) = pair_found o join.Both w Pair pair_joins (is_binding o p) (is_binding o q) xs ys hx hy a b
both_found o w p q xs ys hx hy (One i) = no_pairs o join.Both w xs ys (One i) (λ a b. refl)
both_found o w p q xs ys hx hy (First a) = no_pairs o join.Both w xs ys (First a) (λ a b. refl)
both_found o w p q xs ys hx hy (Second a) = no_pairs o join.Both w xs ys (Second a) (λ a b. refl)
both_found o w p q xs ys hx hy Empty = no_pairs o join.Both w xs ys Empty (λ a b. refl)
both_found o w p q xs ys hx hy (Single a) = no_pairs o join.Both w xs ys (Single a) (λ a b. refl)
both_found o w p q xs ys hx hy (More m a) = no_pairs o join.Both w xs ys (More m a) (λ a b. refl)

then_found : (o : Observed) (w : Bounds) (p q : NumberedPattern) (xs ys : List BindTree) →
    Exactly (λ x. is_binding o p x && span_fits w (span_of o x)) xs → Exactly (λ y. is_binding o q y && span_fits w (span_of o y)) ys →
    Exactly (λ x. is_binding o (Then p q) x && span_fits w (span_of o x)) (pairs Pair (λ a b. may_join_spans join.Then w (spanned_binding o a) (spanned_binding o b)) xs ys)
then_found o w p q xs ys hx hy (Pair a b) = pair_found o join.Then w Pair pair_joins (is_binding o p) (is_binding o q) xs ys hx hy a b
then_found o w p q xs ys hx hy (One i) = no_pairs o join.Then w xs ys (One i) (λ a b. refl)
then_found o w p q xs ys hx hy (First a) = no_pairs o join.Then w xs ys (First a) (λ a b. refl)
then_found o w p q xs ys hx hy (Second a) = no_pairs o join.Then w xs ys (Second a) (λ a b. refl)
then_found o w p q xs ys hx hy Empty = no_pairs o join.Then w xs ys Empty (λ a b. refl)
then_found o w p q xs ys hx hy (Single a) = no_pairs o join.Then w xs ys (Single a) (λ a b. refl)
then_found o w p q xs ys hx hy (More m a) = no_pairs o join.Then w xs ys (More m a) (λ a b. refl)

joined_found : (o : Observed) (j : Join) (w : Bounds) (us vs : List SpannedTree) (xs ys : List BindTree) → ((a b : BindTree) → joined_bindings j a b ≡ Pair a b) →
    us ≡ map (spanned_binding o) xs → vs ≡ map (spanned_binding o) ys → span_joins j w us vs ≡ map (spanned_binding o) (pairs Pair (λ a b. may_join_spans j w (spanned_binding o a) (spanned_binding o b)) xs ys)
joined_found o j w us vs xs ys made e e' =
    ap (λ z. span_joins j w z vs) e ∙ ap (λ z. span_joins j w (map (spanned_binding o) xs) z) e'
    ∙ joins_are o j w Pair (record { makes = λ a b. refl }) xs ys (all_made j Pair made xs)

-- ---- the sides of an OR

either_found : (o : Observed) (w : Bounds) (p q : NumberedPattern) (xs ys : List BindTree) →
    Exactly (λ x. is_binding o p x && span_fits w (span_of o x)) xs → Exactly (λ y. is_binding o q y && span_fits w (span_of o y)) ys →
    Exactly (λ x. is_binding o (Either p q) x && span_fits w (span_of o x)) (map First xs ++ map Second ys)
either_found o w p q xs ys hx hy x = count_append x (map First xs) (map Second ys) ∙ each x where
  none : (x : BindTree) → ((b : BindTree) → is_same_tree x (First b) ≡ false) → ((b : BindTree) → is_same_tree x (Second b) ≡ false) → count x (map First xs) + count x (map Second ys) ≡ 0
  none x h k = omega (arith, count_not_under First x h xs, count_not_under Second x k ys)

  each : (x : BindTree) → count x (map First xs) + count x (map Second ys) ≡ bit (is_binding o (Either p q) x && span_fits w (span_of o x))
  each (First a) = omega (arith, count_under First (λ a b. refl) a xs, hx a, count_not_under Second (First a) (λ b. refl) ys)
  each (Second a) = omega (arith, count_under Second (λ a b. refl) a ys, hy a, count_not_under First (Second a) (λ b. refl) xs)
  each (One i) = none (One i) (λ b. refl) (λ b. refl)
  each (Pair a b) = none (Pair a b) (λ b. refl) (λ b. refl)
  each Empty = none Empty (λ b. refl) (λ b. refl)
  each (Single a) = none (Single a) (λ b. refl) (λ b. refl)
  each (More m a) = none (More m a) (λ b. refl) (λ b. refl)

under_is : (o : Observed) (mk : BindTree → BindTree) → ((x : BindTree) → spanned_with mk (spanned_binding o x) ≡ spanned_binding o (mk x)) → (xs : List BindTree) →
    map (spanned_with mk) (map (spanned_binding o) xs) ≡ map (spanned_binding o) (map mk xs)
under_is o mk h xs = map_map (spanned_binding o) (spanned_with mk) xs ∙ map_agree (λ x. spanned_with mk (spanned_binding o x)) (λ x. spanned_binding o (mk x)) h xs ∙ sym (map_map mk (spanned_binding o) xs)

-- ---- repeats

-- each is a chain
abbrev AreChains : List BindTree → Type 0
AreChains xs = AreMade join.Repeats More xs

chains_append : (xs ys : List BindTree) → AreChains xs → AreChains ys → AreChains (xs ++ ys)
chains_append [] ys hx hy = hy
chains_append (x ∷ xs) ys hx hy = (hx.0, chains_append xs ys hx.1 hy)

more_chains : (m : BindTree) (ys : List BindTree) → AreChains (map (More m) ys)
more_chains m [] = tt
more_chains m (y ∷ ys) = ((λ b. refl), more_chains m ys)

pairs_chains : (ok : BindTree → BindTree → Bool) (xs ys : List BindTree) → AreChains (pairs More ok xs ys)
pairs_chains ok [] ys = tt
pairs_chains ok (x ∷ xs) ys = chains_append (map (More x) (filter (ok x) ys)) (pairs More ok xs ys) (more_chains x (filter (ok x) ys)) (pairs_chains ok xs ys)

single_chains : (xs : List BindTree) → AreChains (map Single xs)
single_chains [] = tt
single_chains (x ∷ xs) = ((λ b. refl), single_chains xs)

abbrev sets_of : Observed → Bounds → List BindTree → ℕ → List BindTree
sets_of o w parts zero = []
sets_of o w parts (suc zero) = map Single parts
sets_of o w parts (suc (suc n)) = pairs More (λ a b. may_join_spans join.Repeats w (spanned_binding o a) (spanned_binding o b)) (sets_of o w parts (suc n)) parts

sets_chains : (o : Observed) (w : Bounds) (parts : List BindTree) (n : ℕ) → AreChains (sets_of o w parts n)
sets_chains o w parts zero = tt
sets_chains o w parts (suc zero) = single_chains parts
sets_chains o w parts (suc (suc n)) = pairs_chains (λ a b. may_join_spans join.Repeats w (spanned_binding o a) (spanned_binding o b)) (sets_of o w parts (suc n)) parts

repeats_are : (o : Observed) (w : Bounds) (parts : List BindTree) (n : ℕ) → repeats_of w (map (spanned_binding o) parts) n ≡ map (spanned_binding o) (sets_of o w parts n)
repeats_are o w parts zero = refl
repeats_are o w parts (suc zero) = under_is o Single (λ x. refl) parts
repeats_are o w parts (suc (suc n)) =
    ap (λ z. span_joins join.Repeats w z (map (spanned_binding o) parts)) (repeats_are o w parts (suc n))
    ∙ joins_are o join.Repeats w More (record { makes = λ a b. refl }) (sets_of o w parts (suc n)) parts (sets_chains o w parts (suc n))

no_more : (o : Observed) (w : Bounds) (xs ys : List BindTree) (x : BindTree) → ((a b : BindTree) → is_same_tree x (More a b) ≡ false) →
    count x (pairs More (λ a b. may_join_spans join.Repeats w (spanned_binding o a) (spanned_binding o b)) xs ys) ≡ 0
no_more o w xs ys x h = count_others More (λ a b. may_join_spans join.Repeats w (spanned_binding o a) (spanned_binding o b)) x h xs ys

sets_found : (o : Observed) (w : Bounds) (f : BindTree → Bool) (parts : List BindTree) → Exactly (λ x. f x && span_fits w (span_of o x)) parts → (n : ℕ) →
    Exactly (λ x. are_repeats f n x && span_fits w (span_of o x)) (sets_of o w parts n)
sets_found o w f parts h zero x = refl
sets_found o w f parts h (suc zero) (Single a) = count_under Single (λ a b. refl) a parts ∙ h a
sets_found o w f parts h (suc zero) (One i) = count_not_under Single (One i) (λ b. refl) parts
sets_found o w f parts h (suc zero) (Pair a b) = count_not_under Single (Pair a b) (λ b. refl) parts
sets_found o w f parts h (suc zero) (First a) = count_not_under Single (First a) (λ b. refl) parts
sets_found o w f parts h (suc zero) (Second a) = count_not_under Single (Second a) (λ b. refl) parts
sets_found o w f parts h (suc zero) Empty = count_not_under Single Empty (λ b. refl) parts
sets_found o w f parts h (suc zero) (More m a) = count_not_under Single (More m a) (λ b. refl) parts
sets_found o w f parts h (suc (suc n)) (More m a) =
    pair_found o join.Repeats w More more_joins (are_repeats f (suc n)) f (sets_of o w parts (suc n)) parts (sets_found o w f parts h (suc n)) h m a
sets_found o w f parts h (suc (suc n)) (One i) = no_more o w (sets_of o w parts (suc n)) parts (One i) (λ a b. refl)
sets_found o w f parts h (suc (suc n)) (Pair a b) = no_more o w (sets_of o w parts (suc n)) parts (Pair a b) (λ a b. refl)
sets_found o w f parts h (suc (suc n)) (First a) = no_more o w (sets_of o w parts (suc n)) parts (First a) (λ a b. refl)
sets_found o w f parts h (suc (suc n)) (Second a) = no_more o w (sets_of o w parts (suc n)) parts (Second a) (λ a b. refl)
sets_found o w f parts h (suc (suc n)) Empty = no_more o w (sets_of o w parts (suc n)) parts Empty (λ a b. refl)
sets_found o w f parts h (suc (suc n)) (Single a) = no_more o w (sets_of o w parts (suc n)) parts (Single a) (λ a b. refl)

-- ---- patterns

and_and : (p q r : Bool) → (p && (q && r)) ≡ ((p && q) && r)
and_and true q r = refl
and_and false q r = refl

pub all_found : (o : Observed) (n : ℕ) → Rows o n → (w : Bounds) (p : NumberedPattern) → AreAll o w (is_binding o p) (candidates o n w p)
all_found o n rows w (Leaf k) = (one_trees o w k n, ones_are o w k n, leaf_found o n rows w k)
all_found o n rows w (Both p q) =
    let left = all_found o n rows w p in let right = all_found o n rows w q in (
      pairs Pair (λ a b. may_join_spans join.Both w (spanned_binding o a) (spanned_binding o b)) left.0 right.0,
      joined_found o join.Both w (candidates o n w p) (candidates o n w q) left.0 right.0 (λ a b. refl) left.1 right.1,
      both_found o w p q left.0 right.0 left.2 right.2,
    )
all_found o n rows w (Then p q) =
    let left = all_found o n rows w p in let right = all_found o n rows w q in (
      pairs Pair (λ a b. may_join_spans join.Then w (spanned_binding o a) (spanned_binding o b)) left.0 right.0,
      joined_found o join.Then w (candidates o n w p) (candidates o n w q) left.0 right.0 (λ a b. refl) left.1 right.1,
      then_found o w p q left.0 right.0 left.2 right.2,
    )
all_found o n rows w (Either p q) =
    let left = all_found o n rows w p in let right = all_found o n rows w q in (
      map First left.0 ++ map Second right.0,
      ap (λ z. map (spanned_with First) z ++ map (spanned_with Second) (candidates o n w q)) left.1
          ∙ ap (λ z. map (spanned_with First) (map (spanned_binding o) left.0) ++ map (spanned_with Second) z) right.1
          ∙ ap (λ z. z ++ map (spanned_with Second) (map (spanned_binding o) right.0)) (under_is o First (λ x. refl) left.0)
          ∙ ap (λ z. map (spanned_binding o) (map First left.0) ++ z) (under_is o Second (λ x. refl) right.0)
          ∙ sym (map_append (spanned_binding o) (map First left.0) (map Second right.0)),
      either_found o w p q left.0 right.0 left.2 right.2,
    )
all_found o n rows w (Within p x) =
    let part = all_found o n rows (within w x) p in (
      part.0,
      part.1,
      exactly_same (λ y. is_binding o p y && span_fits (within w x) (span_of o y)) (λ y. is_binding o (Within p x) y && span_fits w (span_of o y)) part.0
          (λ y. ap (λ z. is_binding o p y && z) (fits_within w x (span_of o y)) ∙ and_and (is_binding o p y) (lies_within x (span_of o y)) (span_fits w (span_of o y))) part.2,
    )
all_found o n rows w (Between p start stop) =
    let part = all_found o n rows (between w start stop) p in (
      part.0,
      part.1,
      exactly_same (λ y. is_binding o p y && span_fits (between w start stop) (span_of o y)) (λ y. is_binding o (Between p start stop) y && span_fits w (span_of o y)) part.0
          (λ y. ap (λ z. is_binding o p y && z) (fits_between w start stop (span_of o y))
          ∙ and_and (is_binding o p y) (lies_between start stop (span_of o y)) (span_fits w (span_of o y))) part.2,
    )
all_found o n rows w (Repeats p j) =
    let part = all_found o n rows w p in (
      sets_of o w part.0 j,
      ap (λ z. repeats_of w z j) part.1 ∙ repeats_are o w part.0 j,
      sets_found o w (is_binding o p) part.0 part.2 j,
    )
