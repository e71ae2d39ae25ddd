-- The times and numbers of bindings: what bounds those of each row bounds them, and what has the last row's number is late.
use Rattle.std.proofs.Common.{◌≡◌, ℕ, zero, suc, ◌≤◌, ◌<◌, ℤ, ◌≤ℤ◌, refl, sym, arith, inl, inr}
use Rattle.std.specs.Prelude.{Bool, true, false, ◌&&◌, ◌||◌, not, nat_eq, nat_lt, int_le}
use Rattle.std.specs.Int.{int_max}
use Rattle.std.proofs.lemmas.Bool.{and_parts, eqb-true, or_cases, or_parts, eqb-false, cases_order}
use Rattle.std.proofs.lemmas.Int.{ints, clamps}
use Rattle.match_bindings.specs.NumberedPattern.{NumberedPattern, Leaf, Both, Then, Either, Within, Between, Repeats}
use Rattle.match_bindings.specs.BindTree.{BindTree, One, Pair, First, Second, Empty, Single, More, has, disjoint, greatest}
use Rattle.match_bindings.specs.Log.{Observed}
use Rattle.match_bindings.specs.Span.{earliest, latest}
use Rattle.match_bindings.specs.Test.{are_repeats, is_binding}
use Rattle.match_pruning.proofs.RetainsLemmas.{le_self}

le_max_left : (t a b : ℤ) → t ≤ℤ a → t ≤ℤ int_max a b
le_max_left t a b h = omega (arith, ints, clamps)

le_max_right : (t a b : ℤ) → t ≤ℤ b → t ≤ℤ int_max a b
le_max_right t a b h = omega (arith, ints, clamps)

max_le : (t a b : ℤ) → a ≤ℤ t → b ≤ℤ t → int_max a b ≤ℤ t
max_le t a b h k = omega (arith, ints, clamps)

-- the latest time of a tree with a number isn't earlier than that row's time
pub latest_new : (time : ℕ → ℤ) (n : ℕ) (x : BindTree) → has n x ≡ true → time n ≤ℤ latest time x
latest_new time n (One m) h = let same : n ≡ m = eqb-true n m h in rw same (le_self (time m))
latest_new time n (Pair a b) h = elim (or_cases (has n a) (has n b) h) [
  | inl l ↦ le_max_left (time n) (latest time a) (latest time b) (latest_new time n a l)
  | inr r ↦ le_max_right (time n) (latest time a) (latest time b) (latest_new time n b r)
]
latest_new time n (First a) h = latest_new time n a h
latest_new time n (Second a) h = latest_new time n a h
latest_new time n Empty h = absurd (cc)
latest_new time n (Single a) h = latest_new time n a h
latest_new time n (More a b) h = elim (or_cases (has n a) (has n b) h) [
  | inl l ↦ le_max_left (time n) (latest time a) (latest time b) (latest_new time n a l)
  | inr r ↦ le_max_right (time n) (latest time a) (latest time b) (latest_new time n b r)
]

pub has_greatest : (n : ℕ) (x : BindTree) → has n x ≡ true → n ≤ greatest x
has_greatest n (One m) h = let same : n ≡ m = eqb-true n m h in rw same (omega arith)
has_greatest n (Pair a b) h = elim (or_cases (has n a) (has n b) h) [
  | inl l ↦ omega (arith, has_greatest n a l)
  | inr r ↦ omega (arith, has_greatest n b r)
]
has_greatest n (First a) h = has_greatest n a h
has_greatest n (Second a) h = has_greatest n a h
has_greatest n Empty h = absurd (cc)
has_greatest n (Single a) h = has_greatest n a h
has_greatest n (More a b) h = elim (or_cases (has n a) (has n b) h) [
  | inl l ↦ omega (arith, has_greatest n a l)
  | inr r ↦ omega (arith, has_greatest n b r)
]

-- the three parts of a joined binding
pub both_parts : (p q c : Bool) → ((p && q) && c) ≡ true → (p ≡ true) × (q ≡ true) × (c ≡ true)
both_parts true true true h = (refl, refl, refl)
both_parts true true false h = absurd (cc)
both_parts true false c h = absurd (cc)
both_parts false q c h = absurd (cc)

-- what bounds the latest time of each binding bounds that of its sets
latest_many : (late : ℕ → ℤ) (t : ℤ) (f : BindTree → Bool) → ((x : BindTree) → f x ≡ true → latest late x ≤ℤ t) →
    (j : ℕ) (x : BindTree) → are_repeats f j x ≡ true → latest late x ≤ℤ t
latest_many late t f h zero x k = absurd (cc)
latest_many late t f h (suc zero) (Single a) k = h a k
latest_many late t f h (suc (suc j)) (More m a) k =
    let parts = both_parts (are_repeats f (suc j) m) (f a) (nat_lt (greatest m) (greatest a) && disjoint m a) k in
    max_le t (latest late m) (latest late a) (latest_many late t f h (suc j) m parts.0) (h a parts.1)
latest_many late t f h j x k = absurd (cc)

pub latest_binding : (o : Observed) (t : ℤ) → ((k i : ℕ) → o.holds k i ≡ true → o.last i ≤ℤ t) →
    (p : NumberedPattern) (x : BindTree) → is_binding o p x ≡ true → latest o.last x ≤ℤ t
latest_binding o t past (Leaf k) (One i) h = past k i h
latest_binding o t past (Both p q) (Pair a b) h =
    let parts = both_parts (is_binding o p a) (is_binding o q b) (disjoint a b) h in
    max_le t (latest o.last a) (latest o.last b) (latest_binding o t past p a parts.0) (latest_binding o t past q b parts.1)
latest_binding o t past (Then p q) (Pair a b) h =
    let parts = both_parts (is_binding o p a) (is_binding o q b) (int_le (latest o.last a) (earliest o.first b) && disjoint a b) h in
    max_le t (latest o.last a) (latest o.last b) (latest_binding o t past p a parts.0) (latest_binding o t past q b parts.1)
latest_binding o t past (Either p q) (First a) h = latest_binding o t past p a h
latest_binding o t past (Either p q) (Second a) h = latest_binding o t past q a h
latest_binding o t past (Within p n) b h = latest_binding o t past p b (and_parts _ _ h).0
latest_binding o t past (Between p x y) b h = latest_binding o t past p b (and_parts _ _ h).0
latest_binding o t past (Repeats p n) b h = latest_many o.last t (is_binding o p) (λ x k. latest_binding o t past p x k) n b h
latest_binding o t past p x h = absurd (cc)

-- the same of greatest numbers
greatest_many : (n : ℕ) (f : BindTree → Bool) → ((x : BindTree) → f x ≡ true → greatest x ≤ n) →
    (j : ℕ) (x : BindTree) → are_repeats f j x ≡ true → greatest x ≤ n
greatest_many n f h zero x k = absurd (cc)
greatest_many n f h (suc zero) (Single a) k = h a k
greatest_many n f h (suc (suc j)) (More m a) k =
    let parts = both_parts (are_repeats f (suc j) m) (f a) (nat_lt (greatest m) (greatest a) && disjoint m a) k in
    omega (arith, greatest_many n f h (suc j) m parts.0, h a parts.1)
greatest_many n f h j x k = absurd (cc)

pub greatest_binding : (o : Observed) (n : ℕ) → ((k i : ℕ) → o.holds k i ≡ true → i ≤ n) →
    (p : NumberedPattern) (x : BindTree) → is_binding o p x ≡ true → greatest x ≤ n
greatest_binding o n counted (Leaf k) (One i) h = counted k i h
greatest_binding o n counted (Both p q) (Pair a b) h =
    let parts = both_parts (is_binding o p a) (is_binding o q b) (disjoint a b) h in
    omega (arith, greatest_binding o n counted p a parts.0, greatest_binding o n counted q b parts.1)
greatest_binding o n counted (Then p q) (Pair a b) h =
    let parts = both_parts (is_binding o p a) (is_binding o q b) (int_le (latest o.last a) (earliest o.first b) && disjoint a b) h in
    omega (arith, greatest_binding o n counted p a parts.0, greatest_binding o n counted q b parts.1)
greatest_binding o n counted (Either p q) (First a) h = greatest_binding o n counted p a h
greatest_binding o n counted (Either p q) (Second a) h = greatest_binding o n counted q a h
greatest_binding o n counted (Within p m) b h = greatest_binding o n counted p b (and_parts _ _ h).0
greatest_binding o n counted (Between p x y) b h = greatest_binding o n counted p b (and_parts _ _ h).0
greatest_binding o n counted (Repeats p m) b h = greatest_many n (is_binding o p) (λ x k. greatest_binding o n counted p x k) m b h
greatest_binding o n counted p x h = absurd (cc)

-- and of what hasn't the greatest number
old_many : (n : ℕ) (f : BindTree → Bool) → ((x : BindTree) → f x ≡ true → has n x ≡ false → greatest x < n) →
    (j : ℕ) (x : BindTree) → are_repeats f j x ≡ true → has n x ≡ false → greatest x < n
old_many n f h zero x k u = absurd (cc)
old_many n f h (suc zero) (Single a) k u = h a k u
old_many n f h (suc (suc j)) (More m a) k u =
    let parts = both_parts (are_repeats f (suc j) m) (f a) (nat_lt (greatest m) (greatest a) && disjoint m a) k in
    let no = or_parts (has n m) (has n a) u in
    omega (arith, old_many n f h (suc j) m parts.0 no.0, h a parts.1 no.1)
old_many n f h j x k u = absurd (cc)

pub old_binding : (o : Observed) (n : ℕ) → ((k i : ℕ) → o.holds k i ≡ true → i ≤ n) →
    (p : NumberedPattern) (x : BindTree) → is_binding o p x ≡ true → has n x ≡ false → greatest x < n
old_binding o n counted (Leaf k) (One i) h u =
    let other : n ≡ i → ⊥ = eqb-false n i u in
    let most : i ≤ n = counted k i h in
    below other most where
      below : (n ≡ i → ⊥) → i ≤ n → i < n
      below o m = elim (cases_order i n) [ inl e ↦ absurd (o (sym e)) | inr z ↦ elim z [ inl lt ↦ lt | inr gt ↦ absurd (omega arith) ] ]
old_binding o n counted (Both p q) (Pair a b) h u =
    let parts = both_parts (is_binding o p a) (is_binding o q b) (disjoint a b) h in
    let no = or_parts (has n a) (has n b) u in
    omega (arith, old_binding o n counted p a parts.0 no.0, old_binding o n counted q b parts.1 no.1)
old_binding o n counted (Then p q) (Pair a b) h u =
    let parts = both_parts (is_binding o p a) (is_binding o q b) (int_le (latest o.last a) (earliest o.first b) && disjoint a b) h in
    let no = or_parts (has n a) (has n b) u in
    omega (arith, old_binding o n counted p a parts.0 no.0, old_binding o n counted q b parts.1 no.1)
old_binding o n counted (Either p q) (First a) h u = old_binding o n counted p a h u
old_binding o n counted (Either p q) (Second a) h u = old_binding o n counted q a h u
old_binding o n counted (Within p m) b h u = old_binding o n counted p b (and_parts _ _ h).0 u
old_binding o n counted (Between p x y) b h u = old_binding o n counted p b (and_parts _ _ h).0 u
old_binding o n counted (Repeats p m) b h u = old_many n (is_binding o p) (λ x k v. old_binding o n counted p x k v) m b h u
old_binding o n counted p x h u = absurd (cc)

pub old_set : (o : Observed) (n : ℕ) → ((k i : ℕ) → o.holds k i ≡ true → i ≤ n) →
    (p : NumberedPattern) (j : ℕ) (x : BindTree) → are_repeats (is_binding o p) j x ≡ true → has n x ≡ false → greatest x < n
old_set o n counted p j x h u = old_many n (is_binding o p) (λ x k v. old_binding o n counted p x k v) j x h u

-- trees that share no number don't both have it
or_and : (p q r : Bool) → (p && r) ≡ false → (q && r) ≡ false → ((p || q) && r) ≡ false
or_and true q r k l = k
or_and false q r k l = l

pub apart : (n : ℕ) (a b : BindTree) → disjoint a b ≡ true → (has n a && has n b) ≡ false
apart n (One m) b h = by_test (nat_eq n m) refl where
  by_test : (t : Bool) → nat_eq n m ≡ t → (t && has n b) ≡ false
  by_test false e = refl
  by_test true e = let one : n ≡ m = eqb-true n m e in rw one (not_true (has m b) h) where
    not_true : (t : Bool) → not t ≡ true → t ≡ false
    not_true true k = sym k
    not_true false k = refl
apart n (Pair x y) b h =
    let parts = and_parts (disjoint x b) (disjoint y b) h in
    or_and (has n x) (has n y) (has n b) (apart n x b parts.0) (apart n y b parts.1)
apart n (First x) b h = apart n x b h
apart n (Second x) b h = apart n x b h
apart n Empty b h = refl
apart n (Single x) b h = apart n x b h
apart n (More x y) b h =
    let parts = and_parts (disjoint x b) (disjoint y b) h in
    or_and (has n x) (has n y) (has n b) (apart n x b parts.0) (apart n y b parts.1)
