-- The test of a binding is the relation.
use Rattle.std.proofs.Common.{◌≡◌, ℕ, zero, suc, ℤ, ◌<ℤ◌, ◌≤ℤ◌, refl, ◌∙◌, ap, arith, inl, inr}
use Rattle.std.specs.Prelude.{Bool, true, ◌&&◌, nat_lt, int_lt, int_le}
use Rattle.std.proofs.lemmas.Bool.{and_parts, and_from, eqb-true, eq-eqb, or_cases, or_left, or_right, ltb-true, lt-ltb, not-true, not_from_false}
use Rattle.std.proofs.lemmas.Int.{ints}
use Rattle.match_bindings.specs.NumberedPattern.{NumberedPattern, Leaf, Both, Then, Either, Within, Between, Repeats}
use Rattle.match_bindings.specs.BindTree.{BindTree, One, Pair, First, Second, Empty, Single, More, has, AreDisjoint, disjoint, greatest}
use Rattle.match_bindings.specs.Span.{earliest, latest, later_by}
use Rattle.match_bindings.specs.Log.{Observed}
use Rattle.match_bindings.specs.Binding.{AreRepeats, IsBinding}
use Rattle.match_bindings.specs.Test.{are_repeats, is_binding}

pub lt_true : (a b : ℤ) → int_lt a b ≡ true → a <ℤ b
lt_true a b h = grind (arith, ints)

pub true_lt : (a b : ℤ) → a <ℤ b → int_lt a b ≡ true
true_lt a b h = grind (arith, ints)

pub le_true : (a b : ℤ) → int_le a b ≡ true → a ≤ℤ b
le_true a b h = grind (arith, ints)

pub true_le : (a b : ℤ) → a ≤ℤ b → int_le a b ≡ true
true_le a b h = grind (arith, ints)

pub apart_to : (a b : BindTree) → disjoint a b ≡ true → AreDisjoint a b
apart_to (One m) b h n k =
    let one : n ≡ m = eqb-true n m k in
    ap (λ i. has i b) one ∙ not-true (has m b) h
apart_to (Pair x y) b h n k =
    let parts = and_parts (disjoint x b) (disjoint y b) h in
    elim (or_cases (has n x) (has n y) k) [ inl l ↦ apart_to x b parts.0 n l | inr r ↦ apart_to y b parts.1 n r ]
apart_to (First x) b h n k = apart_to x b h n k
apart_to (Second x) b h n k = apart_to x b h n k
apart_to Empty b h n k = absurd (cc)
apart_to (Single x) b h n k = apart_to x b h n k
apart_to (More m x) b h n k =
    let parts = and_parts (disjoint m b) (disjoint x b) h in
    elim (or_cases (has n m) (has n x) k) [ inl l ↦ apart_to m b parts.0 n l | inr r ↦ apart_to x b parts.1 n r ]

pub apart_from : (a b : BindTree) → AreDisjoint a b → disjoint a b ≡ true
apart_from (One m) b h = not_from_false (has m b) (h m (eq-eqb m m refl))
apart_from (Pair x y) b h =
    and_from (disjoint x b) (disjoint y b) (apart_from x b (λ n k. h n (or_left (has n x) (has n y) k))) (apart_from y b (λ n k. h n (or_right (has n x) (has n y) k)))
apart_from (First x) b h = apart_from x b h
apart_from (Second x) b h = apart_from x b h
apart_from Empty b h = refl
apart_from (Single x) b h = apart_from x b h
apart_from (More m x) b h =
    and_from (disjoint m b) (disjoint x b) (apart_from m b (λ n k. h n (or_left (has n m) (has n x) k))) (apart_from x b (λ n k. h n (or_right (has n m) (has n x) k)))

repeats_to : (f : BindTree → Bool) (Binds : BindTree → Type 0) → ((x : BindTree) → f x ≡ true → Binds x) → (n : ℕ) (x : BindTree) → are_repeats f n x ≡ true → AreRepeats Binds n x
repeats_to f Binds to zero x h = absurd (cc)
repeats_to f Binds to (suc zero) (Single a) h = to a h
repeats_to f Binds to (suc (suc j)) (More m a) h =
    let parts = and_parts (are_repeats f (suc j) m && f a) (nat_lt (greatest m) (greatest a) && disjoint m a) h in
    let both = and_parts (are_repeats f (suc j) m) (f a) parts.0 in
    let rest = and_parts (nat_lt (greatest m) (greatest a)) (disjoint m a) parts.1 in
    (repeats_to f Binds to (suc j) m both.0, to a both.1, apart_to m a rest.1, ltb-true (greatest m) (greatest a) rest.0)
repeats_to f Binds to n x h = absurd (cc)

repeats_from : (f : BindTree → Bool) (Binds : BindTree → Type 0) → ((x : BindTree) → Binds x → f x ≡ true) → (n : ℕ) (x : BindTree) → AreRepeats Binds n x → are_repeats f n x ≡ true
repeats_from f Binds from zero x h = absurd h
repeats_from f Binds from (suc zero) (Single a) h = from a h
repeats_from f Binds from (suc (suc j)) (More m a) h =
    and_from _ _ (and_from _ _ (repeats_from f Binds from (suc j) m h.0) (from a h.1)) (and_from _ _ (lt-ltb (greatest m) (greatest a) h.3) (apart_from m a h.2))
repeats_from f Binds from n x h = absurd h

pub binding_to : (o : Observed) (p : NumberedPattern) (x : BindTree) → is_binding o p x ≡ true → IsBinding o p x
binding_to o (Leaf k) (One i) h = h
binding_to o (Both p q) (Pair a b) h =
    let parts = and_parts (is_binding o p a && is_binding o q b) (disjoint a b) h in
    let both = and_parts (is_binding o p a) (is_binding o q b) parts.0 in
    (binding_to o p a both.0, binding_to o q b both.1, apart_to a b parts.1)
binding_to o (Then p q) (Pair a b) h =
    let parts = and_parts (is_binding o p a && is_binding o q b) (int_le (latest o.last a) (earliest o.first b) && disjoint a b) h in
    let both = and_parts (is_binding o p a) (is_binding o q b) parts.0 in
    let rest = and_parts (int_le (latest o.last a) (earliest o.first b)) (disjoint a b) parts.1 in
    (binding_to o p a both.0, binding_to o q b both.1, apart_to a b rest.1, le_true (latest o.last a) (earliest o.first b) rest.0)
binding_to o (Either p q) (First a) h = binding_to o p a h
binding_to o (Either p q) (Second b) h = binding_to o q b h
binding_to o (Within p n) x h =
    let parts = and_parts (is_binding o p x) (int_lt (latest o.last x) (later_by n (earliest o.first x))) h in
    (binding_to o p x parts.0, lt_true (latest o.last x) (later_by n (earliest o.first x)) parts.1)
binding_to o (Between p start stop) x h =
    let parts = and_parts (is_binding o p x) (int_le start (earliest o.first x) && int_lt (latest o.last x) stop) h in
    let rest = and_parts (int_le start (earliest o.first x)) (int_lt (latest o.last x) stop) parts.1 in
    (binding_to o p x parts.0, le_true start (earliest o.first x) rest.0, lt_true (latest o.last x) stop rest.1)
binding_to o (Repeats p n) x h = repeats_to (is_binding o p) (IsBinding o p) (λ y k. binding_to o p y k) n x h
binding_to o p x h = absurd (cc)

pub binding_from : (o : Observed) (p : NumberedPattern) (x : BindTree) → IsBinding o p x → is_binding o p x ≡ true
binding_from o (Leaf k) (One i) h = h
binding_from o (Both p q) (Pair a b) h = and_from _ _ (and_from _ _ (binding_from o p a h.0) (binding_from o q b h.1)) (apart_from a b h.2)
binding_from o (Then p q) (Pair a b) h =
    and_from _ _ (and_from _ _ (binding_from o p a h.0) (binding_from o q b h.1)) (and_from _ _ (true_le (latest o.last a) (earliest o.first b) h.3) (apart_from a b h.2))
binding_from o (Either p q) (First a) h = binding_from o p a h
binding_from o (Either p q) (Second b) h = binding_from o q b h
binding_from o (Within p n) x h = and_from _ _ (binding_from o p x h.0) (true_lt (latest o.last x) (later_by n (earliest o.first x)) h.1)
binding_from o (Between p start stop) x h =
    and_from _ _ (binding_from o p x h.0) (and_from _ _ (true_le start (earliest o.first x) h.1) (true_lt (latest o.last x) stop h.2))
binding_from o (Repeats p n) x h = repeats_from (is_binding o p) (IsBinding o p) (λ y k. binding_from o p y k) n x h
binding_from o p x h = absurd h
