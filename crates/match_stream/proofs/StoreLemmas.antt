-- What a store holds after a row, and the match_joins of things with their times.
use Rattle.std.proofs.Common.{◌≡◌, ℕ, zero, suc, ◌+◌, ◌*◌, ◌<◌, ℤ, ◌≤ℤ◌, List, [], ◌∷◌, ◌++◌, refl, sym, ◌∙◌, ap, arith}
use Rattle.std.specs.Prelude.{Bool, true, false, ◌&&◌, not, map, filter}
use Rattle.std.specs.Int.{int_min, int_max}
use Rattle.match_bindings.specs.BindTree.{BindTree, Single, More, add_part, has}
use Rattle.match_bindings.specs.Log.{Observed}
use Rattle.match_bindings.specs.Span.{earliest, latest}
use Rattle.match_bindings.specs.Test.{are_repeats}
use Rattle.match_bindings.specs.Once.{bit, is_same_tree, count, Exactly}
use Rattle.match_bindings.specs.declared.bounds.Bounds.{Bounds}
use Rattle.match_pruning.specs.declared.window.Window.{Window}
use Rattle.match_pruning.specs.declared.join.Join.{Join}
use Rattle.match_pruning.specs.declared.join.Join.TheVariants as join
use Rattle.match_pruning.specs.PartialMatchTree.{PartialMatchTree, partial_match_of}
use Rattle.match_pruning.specs.inner.Retains.{alive, retains}
use Rattle.match_pruning.specs.inner.Steps.{held_with, joined_tree, joined_matches, may_join, match_join_row, match_joins, kept}
use Rattle.match_bindings.proofs.ListLemmas.{map_append, map_map, map_agree, filter_map}
use Rattle.match_bindings.proofs.PairsLemmas.{pairs}
use Rattle.match_bindings.proofs.OnceLemmas.{same_self, count_append, count_filter}
use Rattle.match_stream.proofs.AliveLemmas.{retains_before}

-- the things are the trees that pass, each once, with their times
abbrev pub AreHeld : Observed → (BindTree → Bool) → List PartialMatchTree → Type 0
AreHeld o f held = (xs : List BindTree) × (held ≡ map (partial_match_of o) xs) × Exactly f xs

pub exactly_same : (f g : BindTree → Bool) (xs : List BindTree) → ((x : BindTree) → f x ≡ g x) → Exactly f xs → Exactly g xs
exactly_same f g xs h e x = e x ∙ ap bit (h x)

pub held_same : (o : Observed) (f g : BindTree → Bool) (held : List PartialMatchTree) → ((x : BindTree) → f x ≡ g x) → AreHeld o f held → AreHeld o g held
held_same o f g held h (xs, is, each) = (xs, is, exactly_same f g xs h each)

-- ---- match_joins

-- each of the trees is joined_matches as mk match_joins it
abbrev pub AreMade : Join → (BindTree → BindTree → BindTree) → List BindTree → Type 0
AreMade j mk [] = Unit {0}
AreMade j mk (x ∷ xs) = ((b : BindTree) → joined_tree j x b ≡ mk x b) × AreMade j mk xs

pub all_made : (j : Join) (mk : BindTree → BindTree → BindTree) → ((a b : BindTree) → joined_tree j a b ≡ mk a b) → (xs : List BindTree) → AreMade j mk xs
all_made j mk h [] = tt
all_made j mk h (x ∷ xs) = (h x, all_made j mk h xs)

-- two trees as one have the earlier and the later of their times
pub record Makes (o : Observed) (mk : BindTree → BindTree → BindTree) : Type 0 where
  pub early : (a b : BindTree) → int_min (earliest o.first a) (earliest o.first b) ≡ earliest o.first (mk a b)
  pub late : (a b : BindTree) → int_max (latest o.last a) (latest o.last b) ≡ latest o.last (mk a b)

row_is : (o : Observed) (j : Join) (mk : BindTree → BindTree → BindTree) → Makes o mk → (x : BindTree) → ((b : BindTree) → joined_tree j x b ≡ mk x b) → (ys : List BindTree) →
    match_join_row j (partial_match_of o x) (map (partial_match_of o) ys) ≡ map (partial_match_of o) (map (mk x) (filter (λ y. may_join j (partial_match_of o x) (partial_match_of o y)) ys))
row_is o j mk k x made ys =
    ap (map (joined_matches j (partial_match_of o x))) (filter_map (partial_match_of o) (may_join j (partial_match_of o x)) ys)
    ∙ map_map (partial_match_of o) (joined_matches j (partial_match_of o x)) (filter (λ y. may_join j (partial_match_of o x) (partial_match_of o y)) ys)
    ∙ map_agree (λ y. joined_matches j (partial_match_of o x) (partial_match_of o y)) (λ y. partial_match_of o (mk x y)) each (filter (λ y. may_join j (partial_match_of o x) (partial_match_of o y)) ys)
    ∙ sym (map_map (mk x) (partial_match_of o) (filter (λ y. may_join j (partial_match_of o x) (partial_match_of o y)) ys)) where
      each : (y : BindTree) → joined_matches j (partial_match_of o x) (partial_match_of o y) ≡ partial_match_of o (mk x y)
      each y = let t = made y in let e = k.early x y in let l = k.late x y in λ i. record { tree = t i; earliest = e i; latest = l i }

pub joins_are : (o : Observed) (j : Join) (mk : BindTree → BindTree → BindTree) → Makes o mk → (xs ys : List BindTree) → AreMade j mk xs →
    match_joins j (map (partial_match_of o) xs) (map (partial_match_of o) ys) ≡ map (partial_match_of o) (pairs mk (λ a b. may_join j (partial_match_of o a) (partial_match_of o b)) xs ys)
joins_are o j mk k [] ys made = refl
joins_are o j mk k (x ∷ xs) ys made =
    ap (λ z. z ++ match_joins j (map (partial_match_of o) xs) (map (partial_match_of o) ys)) (row_is o j mk k x made.0 ys)
    ∙ ap (λ z. map (partial_match_of o) (map (mk x) (filter (λ y. may_join j (partial_match_of o x) (partial_match_of o y)) ys)) ++ z) (joins_are o j mk k xs ys made.1)
    ∙ sym (map_append (partial_match_of o) (map (mk x) (filter (λ y. may_join j (partial_match_of o x) (partial_match_of o y)) ys)) (pairs mk (λ a b. may_join j (partial_match_of o a) (partial_match_of o b)) xs ys))

-- both halves of a join of sides
pub both_joins_are : (o : Observed) (j : Join) (mk : BindTree → BindTree → BindTree) → Makes o mk → ((a b : BindTree) → joined_tree j a b ≡ mk a b) → (us bs cs ds : List BindTree) →
    match_joins j (map (partial_match_of o) us) (map (partial_match_of o) bs) ++ match_joins j (map (partial_match_of o) cs) (map (partial_match_of o) ds)
    ≡ map (partial_match_of o) (pairs mk (λ a b. may_join j (partial_match_of o a) (partial_match_of o b)) us bs ++ pairs mk (λ a b. may_join j (partial_match_of o a) (partial_match_of o b)) cs ds)
both_joins_are o j mk k made us bs cs ds =
    let c = λ (a : BindTree) (b : BindTree). may_join j (partial_match_of o a) (partial_match_of o b) in
    ap (λ z. z ++ match_joins j (map (partial_match_of o) cs) (map (partial_match_of o) ds)) (joins_are o j mk k us bs (all_made j mk made us))
    ∙ ap (λ z. map (partial_match_of o) (pairs mk c us bs) ++ z) (joins_are o j mk k cs ds (all_made j mk made cs))
    ∙ sym (map_append (partial_match_of o) (pairs mk c us bs) (pairs mk c cs ds))

-- things under one constructor
pub under_are : (o : Observed) (mk : BindTree → BindTree) → ((x : BindTree) → held_with mk (partial_match_of o x) ≡ partial_match_of o (mk x)) → (xs : List BindTree) →
    map (held_with mk) (map (partial_match_of o) xs) ≡ map (partial_match_of o) (map mk xs)
under_are o mk h xs = map_map (partial_match_of o) (held_with mk) xs ∙ map_agree (λ x. held_with mk (partial_match_of o x)) (λ x. partial_match_of o (mk x)) h xs ∙ sym (map_map mk (partial_match_of o) xs)

-- sets are chains
chain_more : (f : BindTree → Bool) (j : ℕ) (x : BindTree) → are_repeats f j x ≡ true → (b : BindTree) → add_part x b ≡ More x b
chain_more f j (Single a) h b = refl
chain_more f j (More m a) h b = refl
chain_more f zero x h b = absurd (cc)
chain_more f (suc zero) x h b = absurd (cc)
chain_more f (suc (suc j)) x h b = absurd (cc)

pub bit_positive : (b : Bool) (n : ℕ) → n ≡ bit b → 0 < n → b ≡ true
bit_positive true n e h = refl
bit_positive false n e h = absurd (omega arith)

pub sets_made : (f : BindTree → Bool) (j : ℕ) (xs : List BindTree) → ((x : BindTree) → 0 < count x xs → are_repeats f j x ≡ true) → AreMade join.Repeats More xs
sets_made f j [] h = tt
sets_made f j (x ∷ xs) h =
    let me : is_same_tree x x ≡ true = same_self x in
    (chain_more f j x (h x (rw me (omega arith))), sets_made f j xs (λ y k. h y (omega (arith, k))))

-- ---- stores

old_bits : (at b h ever : Bool) → (at ≡ true → ever ≡ true) → bit at * bit ((b && not h) && ever) ≡ bit ((b && at) && not h)
old_bits false false h ever k = omega arith
old_bits false true h ever k = omega arith
old_bits true false h ever k = omega arith
old_bits true true true ever k = omega arith
old_bits true true false ever k = rw (k refl) refl

new_bits : (at b h al : Bool) → (at ≡ true → al ≡ true) → bit at * bit ((b && al) && h) ≡ bit ((b && at) && h)
new_bits false false h al k = omega arith
new_bits false true h al k = omega arith
new_bits true false h al k = omega arith
new_bits true true h al k = rw (k refl) (omega arith)

pub sum_bits : (b h : Bool) → bit (b && not h) + bit (b && h) ≡ bit b
sum_bits true true = refl
sum_bits true false = refl
sum_bits false h = refl

-- the older part of a store that retains at t
pub kept_law : (o : Observed) (v : Window) (s t : ℤ) (n : ℕ) (b : BindTree → Bool) (held : List PartialMatchTree) → s ≤ℤ t →
    AreHeld o (λ x. (b x && not (has n x)) && retains v (earliest o.first x) s) held →
    AreHeld o (λ x. (b x && retains v (earliest o.first x) t) && not (has n x)) (kept v t held)
kept_law o v s t n b held h (xs, is, each) = (
  filter (λ x. retains v (earliest o.first x) t) xs,
  ap (kept v t) is ∙ filter_map (partial_match_of o) (λ k. retains v k.earliest t) xs,
  λ x. count_filter x (λ x. retains v (earliest o.first x) t) xs
      ∙ ap (λ z. bit (retains v (earliest o.first x) t) * z) (each x)
      ∙ old_bits (retains v (earliest o.first x) t) (b x) (has n x) (retains v (earliest o.first x) s) (retains_before v (earliest o.first x) s t h),
)

-- the new part
pub added_law : (o : Observed) (v : Window) (w : Bounds) (t : ℤ) (n : ℕ) (b : BindTree → Bool) (held : List PartialMatchTree) →
    ((e : ℤ) → retains v e t ≡ true → alive w e t ≡ true) →
    AreHeld o (λ x. (b x && alive w (earliest o.first x) t) && has n x) held →
    AreHeld o (λ x. (b x && retains v (earliest o.first x) t) && has n x) (kept v t held)
added_law o v w t n b held h (xs, is, each) = (
  filter (λ x. retains v (earliest o.first x) t) xs,
  ap (kept v t) is ∙ filter_map (partial_match_of o) (λ k. retains v k.earliest t) xs,
  λ x. count_filter x (λ x. retains v (earliest o.first x) t) xs
      ∙ ap (λ z. bit (retains v (earliest o.first x) t) * z) (each x)
      ∙ new_bits (retains v (earliest o.first x) t) (b x) (has n x) (alive w (earliest o.first x) t) (h (earliest o.first x)),
)

-- the old and the new
pub stored_law : (o : Observed) (n : ℕ) (p : BindTree → Bool) (old new : List PartialMatchTree) →
    AreHeld o (λ x. p x && not (has n x)) old → AreHeld o (λ x. p x && has n x) new → AreHeld o p (old ++ new)
stored_law o n p old new (xs, is, each) (ys, is', each') = (
  xs ++ ys,
  ap (λ z. z ++ new) is ∙ ap (λ z. map (partial_match_of o) xs ++ z) is' ∙ sym (map_append (partial_match_of o) xs ys),
  λ x. count_append x xs ys ∙ (let e = each x in let e' = each' x in rw (e, e') (sum_bits (p x) (has n x))),
)
