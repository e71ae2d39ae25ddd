-- Under an outermost WITHIN what is held is recent.
use Rattle.std.proofs.Common.{◌≡◌, ℕ, zero, suc, ◌*◌, ◌≤◌, ◌<◌, min, ℤ, pos, ◌+ℤ◌, ◌≤ℤ◌, ◌<ℤ◌, List, [], ◌∷◌, ◌++◌, refl, ap, subst, arith, inl, inr}
use Rattle.std.specs.Prelude.{true, ◌&&◌, map, ⊤, Option, Some}
use Rattle.std.specs.Int.{int_min}
use Rattle.std.proofs.lemmas.Bool.{and_parts, or_cases, eqb-true}
use Rattle.std.proofs.lemmas.Int.{ints, clamps}
use Rattle.match_bindings.specs.declared.log_entry.LogEntry.{LogEntry}
use Rattle.match_bindings.specs.declared.bounds.Bounds.{Bounds}
use Rattle.match_bindings.specs.Bounds.{no_bounds, least_seconds, within, between}
use Rattle.match_bindings.specs.NumberedPattern.{NumberedPattern, Leaf, Both, Then, Either, Within, Between, Repeats}
use Rattle.match_bindings.specs.BindTree.{BindTree, One, Pair, First, Second, Empty, Single, More, has}
use Rattle.match_bindings.specs.Log.{Observed, observed_in}
use Rattle.match_bindings.specs.Span.{earliest, later_by}
use Rattle.match_bindings.specs.Once.{is_same_tree, count}
use Rattle.match_bindings.proofs.IsBindingLemmas.{lt_true}
use Rattle.match_pruning.specs.Stores.{Store, store_level, levels, stores_under}
use Rattle.match_pruning.specs.PartialMatchTree.{PartialMatchTree, partial_match_of}
use Rattle.match_stream.specs.RetainedPart.{HoldsRetained, AreRetained, IsRetainedPart, time_of}
use Rattle.match_pruning.specs.RowNumbers.{any_has, is_kept}
use Rattle.match_pruning.specs.inner.Retains.{lasts_at_most, ends_from_start, begins_before_stop, is_ahead, retains}
use Rattle.match_bindings.proofs.OnceLemmas.{same_self}
use Rattle.match_stream.proofs.StoreLemmas.{bit_positive}
use Rattle.match_stream.proofs.ShapeLemmas.{Rule, to_held}
use Rattle.match_stream.proofs.CountLemmas.{may_hold, may_rule}
use Rattle.match_pruning.proofs.RetainsLemmas.{le_self}

-- ---- all stores are that narrow

-- there are seconds, at most so many
pub record IsNarrow (x : ℕ) (seconds : Option ℕ) : Type 0 where
  pub least : ℕ
  pub is : seconds ≡ Some least
  pub most : least ≤ x

abbrev AreNarrow : ℕ → List Store → Type 0
AreNarrow x [] = ⊤
AreNarrow x (store ∷ stores) = IsNarrow x store.window.seconds × AreNarrow x stores

narrow_append : (x : ℕ) (xs ys : List Store) → AreNarrow x xs → AreNarrow x ys → AreNarrow x (xs ++ ys)
narrow_append x [] ys h k = k
narrow_append x (s ∷ xs) ys h k = (h.0, narrow_append x xs ys h.1 k)

narrow_within : (x z : ℕ) (seconds : Option ℕ) → IsNarrow x seconds → IsNarrow x (least_seconds seconds z)
narrow_within x z seconds h = record {
  least = min h.least z;
  is = ap (λ s. least_seconds s z) h.is;
  most = (let m : h.least ≤ x = h.most in let k : min h.least z ≤ x = omega arith in k);
}

narrow_levels : (x : ℕ) (w : Bounds) (p : NumberedPattern) (n : ℕ) → IsNarrow x w.seconds → AreNarrow x (levels w p n)
narrow_levels x w p zero h = tt
narrow_levels x w p (suc zero) h = tt
narrow_levels x w p (suc (suc n)) h = narrow_append x (levels w p (suc n)) (store_level w p (suc n) ∷ []) (narrow_levels x w p (suc n) h) (h, tt)

narrow_stores : (x : ℕ) (p : NumberedPattern) (w : Bounds) → IsNarrow x w.seconds → AreNarrow x (stores_under w p)
narrow_stores x (Leaf k) w h = tt
narrow_stores x (Both p q) w h = (h, (h, narrow_append x (stores_under w p) (stores_under w q) (narrow_stores x p w h) (narrow_stores x q w h)))
narrow_stores x (Then p q) w h = (h, (h, narrow_append x (stores_under w p) (stores_under w q) (narrow_stores x p w h) (narrow_stores x q w h)))
narrow_stores x (Either p q) w h = narrow_append x (stores_under w p) (stores_under w q) (narrow_stores x p w h) (narrow_stores x q w h)
narrow_stores x (Within p z) w h = narrow_stores x p (within w z) (narrow_within x z w.seconds h)
narrow_stores x (Between p y z) w h = narrow_stores x p (between w y z) h
narrow_stores x (Repeats p n) w h = narrow_append x (levels w p n) (stores_under w p) (narrow_levels x w p n h) (narrow_stores x p w h)

-- ---- what has a number isn't later than its row

min_left : (a b t : ℤ) → a ≤ℤ t → int_min a b ≤ℤ t
min_left a b t h = omega (arith, ints, clamps)

min_right : (a b t : ℤ) → b ≤ℤ t → int_min a b ≤ℤ t
min_right a b t h = omega (arith, ints, clamps)

earliest_has : (time : ℕ → ℤ) (n : ℕ) (x : BindTree) → has n x ≡ true → earliest time x ≤ℤ time n
earliest_has time n (One m) h = let is_same_tree : n ≡ m = eqb-true n m h in rw is_same_tree (le_self (time m))
earliest_has time n (Pair a b) h = elim (or_cases (has n a) (has n b) h) [
  | inl l ↦ min_left (earliest time a) (earliest time b) (time n) (earliest_has time n a l)
  | inr r ↦ min_right (earliest time a) (earliest time b) (time n) (earliest_has time n b r)
]
earliest_has time n (First a) h = earliest_has time n a h
earliest_has time n (Second a) h = earliest_has time n a h
earliest_has time n Empty h = absurd (cc)
earliest_has time n (Single a) h = earliest_has time n a h
earliest_has time n (More a b) h = elim (or_cases (has n a) (has n b) h) [
  | inl l ↦ min_left (earliest time a) (earliest time b) (time n) (earliest_has time n a l)
  | inr r ↦ min_right (earliest time a) (earliest time b) (time n) (earliest_has time n b r)
]

later_than : (now e t : ℤ) (y x : ℕ) → now <ℤ (e +ℤ pos (1_000_000_000 * y)) → e ≤ℤ t → y ≤ x → now <ℤ (t +ℤ pos (1_000_000_000 * x))
later_than now e t y x h k l = omega (arith, ints)

-- ---- what is held

-- one of the trees has it
who_has : (o : Observed) (n : ℕ) (xs : List BindTree) → any_has n (map (partial_match_of o) xs) ≡ true → (x : BindTree) × (0 < count x xs) × (has n x ≡ true)
who_has o n [] h = absurd (cc)
who_has o n (x ∷ xs) h = elim (or_cases (has n x) (any_has n (map (partial_match_of o) xs)) h) [
  | inl l ↦ (let me : is_same_tree x x ≡ true = same_self x in (x, rw me (omega arith), l))
  | inr r ↦ (let rest = who_has o n xs r in (rest.0, omega (arith, rest.1), rest.2))
]

store_recent : Rule → (o : Observed) (now : ℤ) (x n : ℕ) (store : Store) (held : List PartialMatchTree) → IsNarrow x store.window.seconds → HoldsRetained o now store held → any_has n held ≡ true →
    now <ℤ later_by x (o.first n)
store_recent rule o now x n store held narrow retained h =
    let all = to_held o now store (may_hold o store.part) (may_rule rule o store.part) held retained in
    let who = who_has o n all.0 (subst (λ (hs : List PartialMatchTree). any_has n hs ≡ true) all.1 h) in
    let excludes = bit_positive (may_hold o store.part who.0 && retains store.window (earliest o.first who.0) now) (count who.0 all.0) (all.2 who.0) who.1 in
    let alive = (and_parts (may_hold o store.part who.0) (retains store.window (earliest o.first who.0) now) excludes).1 in
    let rest = and_parts (is_ahead store.window.after_left (earliest o.first who.0) now)
    (lasts_at_most store.window.seconds (earliest o.first who.0) now && (ends_from_start store.window.start (earliest o.first who.0) && begins_before_stop store.window.stop now)) alive in
    let soon = (and_parts (lasts_at_most store.window.seconds (earliest o.first who.0) now) (ends_from_start store.window.start (earliest o.first who.0) && begins_before_stop store.window.stop now) rest.1).0 in
    let within_least = subst (λ (s : Option ℕ). lasts_at_most s (earliest o.first who.0) now ≡ true) narrow.is soon in
    later_than now (earliest o.first who.0) (o.first n) narrow.least x
    (lt_true now (later_by narrow.least (earliest o.first who.0)) within_least) (earliest_has o.first n who.0 who.2) narrow.most

all_recent : Rule → (o : Observed) (now : ℤ) (x n : ℕ) (stores : List Store) (contents : List (List PartialMatchTree)) → AreNarrow x stores → AreRetained o now stores contents → is_kept n contents ≡ true →
    now <ℤ later_by x (o.first n)
all_recent rule o now x n [] [] narrow retained h = absurd (cc)
all_recent rule o now x n (store ∷ stores) (held ∷ contents) narrow retained h = elim (or_cases (any_has n held) (is_kept n contents) h) [
  | inl l ↦ store_recent rule o now x n store held narrow.0 retained.0 l
  | inr r ↦ all_recent rule o now x n stores contents narrow.1 retained.1 r
]
all_recent rule o now x n [] (held ∷ contents) narrow retained h = absurd retained
all_recent rule o now x n (store ∷ stores) [] narrow retained h = absurd retained

pub kept_recent : Rule → (p : NumberedPattern) (x n : ℕ) (log : List LogEntry) (contents : List (List PartialMatchTree)) → IsRetainedPart (Within p x) log contents → is_kept n contents ≡ true →
    time_of log <ℤ later_by x ((observed_in log).first n)
kept_recent rule p x n log contents retained h =
    all_recent rule (observed_in log) (time_of log) x n (stores_under (within no_bounds x) p) contents
    (narrow_stores x p (within no_bounds x) (record { least = x; is = refl; most = (let k : x ≤ x = omega arith in k) })) retained h
