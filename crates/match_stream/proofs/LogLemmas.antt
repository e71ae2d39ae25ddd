-- A log with one more row.
use Rattle.std.proofs.Common.{◌≡◌, ℕ, zero, suc, ◌+◌, ◌-◌, ◌≤◌, ◌<◌, ℤ, ◌≤ℤ◌, List, [], ◌∷◌, ◌++◌, length, refl, sym, ◌∙◌, ap, subst, arith, inl, inr, length-append}
use Rattle.std.specs.Prelude.{Bool, true, false, ◌&&◌, not, nat_eq, int_le, ◌⊎◌, Option, Some, None, slice_get}
use Rattle.std.proofs.lemmas.Bool.{eq-eqb, ne_eqb, cases_order}
use Rattle.match_bindings.specs.declared.log_entry.LogEntry.{LogEntry}
use Rattle.match_bindings.specs.declared.bounds.Bounds.{Bounds}
use Rattle.match_bindings.specs.Bounds.{no_bounds, within, between}
use Rattle.match_bindings.specs.NumberedPattern.{NumberedPattern, Leaf, Both, Then, Either, Within, Between, Repeats}
use Rattle.match_bindings.specs.BindTree.{BindTree, One, Pair, First, Second}
use Rattle.match_bindings.specs.Log.{LastIsBy, IsInOrder, numbered_row, first_time, last_time, truth, observed_in}
use Rattle.match_bindings.specs.Span.{earliest}
use Rattle.match_bindings.specs.Test.{are_repeats, is_binding}
use Rattle.match_bindings.proofs.IsBindingLemmas.{le_true}
use Rattle.match_pruning.specs.declared.window.Window.{Window}
use Rattle.match_pruning.specs.Stores.{window_of}
use Rattle.match_pruning.specs.declared.row.Row.{Row}
use Rattle.match_stream.specs.RetainedPart.{time_of}
use Rattle.match_stream.specs.MatcherState.{log_end, Falls}
use Rattle.match_pruning.specs.inner.Retains.{retains}
use Rattle.match_pruning.specs.inner.Steps.{State, step_new, step_state, no_levels, empty_sides, empty_state}
use Rattle.match_pruning.proofs.RetainsLemmas.{le_false, le_trans, le_self}
use Rattle.match_stream.proofs.StoreLemmas.{AreHeld}
use Rattle.match_stream.proofs.StepLemmas.{SidesStand, LevelsStand, AllLevelsStand, Stands, all_of, ends, Given, step_law}
use Rattle.match_stream.proofs.LastingLemmas.{Continues, lasting_stands, no_sets, any_time}

-- ---- rows

get_left : (log : List LogEntry) (r : LogEntry) (i : ℕ) → i < length log → slice_get (log ++ r ∷ []) i ≡ slice_get log i
get_left [] r i h = absurd (omega arith)
get_left (x ∷ log) r zero h = refl
get_left (x ∷ log) r (suc i) h = get_left log r i (omega arith)

pub get_seam : (log : List LogEntry) (r : LogEntry) → slice_get (log ++ r ∷ []) (length log) ≡ Some r
get_seam [] r = refl
get_seam (x ∷ log) r = get_seam log r

get_past : (log : List LogEntry) (i : ℕ) → length log ≤ i → slice_get log i ≡ None
get_past [] i h = refl
get_past (x ∷ log) zero h = absurd (omega arith)
get_past (x ∷ log) (suc i) h = get_past log i (omega arith)

-- a leaf holds only at a row of the log
inside : (log : List LogEntry) (k i : ℕ) → truth (slice_get log i) k ≡ true → i < length log
inside [] k i h = absurd (cc)
inside (r ∷ log) k zero h = omega arith
inside (r ∷ log) k (suc i) h = let deeper : i < length log = inside log k i h in omega arith

pub holds_inside : (log : List LogEntry) (k i : ℕ) → (observed_in log).holds k i ≡ true → i ≤ length log
holds_inside log k zero h = absurd (cc)
holds_inside log k (suc i) h = let at : i < length log = inside log k i h in omega arith

pub length_more : (log : List LogEntry) (r : LogEntry) → length (log ++ r ∷ []) ≡ suc (length log)
length_more log r = omega (arith, length-append log (r ∷ []))

and_true : (b : Bool) → b ≡ (b && true)
and_true true = refl
and_true false = refl

and_false : (b : Bool) → false ≡ (b && false)
and_false true = refl
and_false false = refl

pub continues : (log : List LogEntry) (r : LogEntry) → Continues (observed_in log) (observed_in (log ++ r ∷ [])) (suc (length log))
continues log r = record { holds = holds; first = first; last = last } where
  at : (k i : ℕ) → (i < length log) ⊎ ((i ≡ length log) ⊎ (length log < i)) →
      truth (slice_get log i) k ≡ (truth (slice_get (log ++ r ∷ []) i) k && not (nat_eq (suc (length log)) (suc i)))
  at k i (inl below) =
      let left = get_left log r i below in
      let other : nat_eq (suc (length log)) (suc i) ≡ false = ne_eqb (suc (length log)) (suc i) (λ e. omega arith) in
      rw (other, left) (and_true (truth (slice_get log i) k))
  at k i (inr (inl here)) =
      let past = get_past log i (omega arith) in
      let same : nat_eq (suc (length log)) (suc i) ≡ true = eq-eqb (suc (length log)) (suc i) (omega arith) in
      rw (same, past) (and_false (truth (slice_get (log ++ r ∷ []) i) k))
  at k i (inr (inr above)) =
      let past = get_past log i (omega arith) in
      let past' = get_past (log ++ r ∷ []) i (omega (arith, length-append log (r ∷ []))) in
      rw (past, past') refl

  which : (i : ℕ) → (i < length log) ⊎ ((i ≡ length log) ⊎ (length log < i))
  which i = elim (cases_order i (length log)) [ inl same ↦ inr (inl same) | inr other ↦ elim other [ inl below ↦ inl below | inr above ↦ inr (inr above) ] ]

  holds : (k i : ℕ) → (observed_in log).holds k i ≡ ((observed_in (log ++ r ∷ [])).holds k i && not (nat_eq (suc (length log)) i))
  holds k zero = refl
  holds k (suc i) = at k i (which i)

  first : (k i : ℕ) → (observed_in log).holds k i ≡ true → (observed_in log).first i ≡ (observed_in (log ++ r ∷ [])).first i
  first k zero h = refl
  first k (suc i) h = ap first_time (sym (get_left log r i (inside log k i h)))

  last : (k i : ℕ) → (observed_in log).holds k i ≡ true → (observed_in log).last i ≡ (observed_in (log ++ r ∷ [])).last i
  last k zero h = refl
  last k (suc i) h = ap last_time (sym (get_left log r i (inside log k i h)))

-- ---- times

-- no row of a log in order is later than its last one
all_by : (log : List LogEntry) (t : ℤ) → IsInOrder log → LastIsBy log t → (i : ℕ) → i < length log → last_time (slice_get log i) ≤ℤ t
all_by [] t order by i h = absurd (omega arith)
all_by (r ∷ []) t order by zero h = by
all_by (r ∷ []) t order by (suc i) h = absurd (omega arith)
all_by (r ∷ q ∷ log) t order by zero h = le_trans r.last q.last t order.1 (all_by (q ∷ log) t order.2 by zero (omega arith))
all_by (r ∷ q ∷ log) t order by (suc i) h = all_by (q ∷ log) t order.2 by i (omega arith)

-- the time of a log that has a row isn't later than a time that its last row doesn't pass
time_by : (r : LogEntry) (log : List LogEntry) (t : ℤ) → LastIsBy (r ∷ log) t → time_of (r ∷ log) ≤ℤ t
time_by r [] t by = by
time_by r (q ∷ log) t by = time_by q log t by

-- what doesn't fall
pub not_falls : (log : List LogEntry) (t : ℤ) → (Falls (log_end log) t → ⊥) → LastIsBy log t
not_falls [] t h = tt
not_falls (r ∷ []) t h = by (int_le r.last t) refl where
  by : (b : Bool) → int_le r.last t ≡ b → r.last ≤ℤ t
  by true e = le_true r.last t e
  by false e = absurd (h (le_false r.last t e))
not_falls (r ∷ q ∷ log) t h = not_falls (q ∷ log) t h

pub time_new : (log : List LogEntry) (r : LogEntry) → time_of (log ++ r ∷ []) ≡ r.last
time_new log r = ap (λ n. last_time (numbered_row (log ++ r ∷ []) n)) (length_more log r) ∙ ap last_time (get_seam log r)

pub last_of_more : (log : List LogEntry) (r : LogEntry) → log_end (log ++ r ∷ []) ≡ Some r.last
last_of_more [] r = refl
last_of_more (x ∷ []) r = refl
last_of_more (x ∷ y ∷ log) r = last_of_more (y ∷ log) r

-- ---- a row more

abbrev pub row_after : List LogEntry → LogEntry → Row
row_after log r = record { number = suc (length log); first = r.first; last = r.last }

given_row : (log : List LogEntry) (r : LogEntry) (s : ℤ) → IsInOrder log → LastIsBy log r.last → s ≤ℤ r.last →
    Given (observed_in (log ++ r ∷ [])) (row_after log r) r.truths s
given_row log r s order after early = record {
  first = ap first_time (get_seam log r);
  last = ap last_time (get_seam log r);
  past = past;
  counted = λ k i h. let within_log : i ≤ length (log ++ r ∷ []) = holds_inside (log ++ r ∷ []) k i h in
      let len : length (log ++ r ∷ []) ≡ suc (length log) = length_more log r in omega arith;
  earlier = early;
  holds = λ k. ap (λ z. truth z k) (get_seam log r);
} where
  at : (i : ℕ) → (i < length log) ⊎ (i ≡ length log) → last_time (slice_get (log ++ r ∷ []) i) ≤ℤ r.last
  at i (inl below) = subst (λ (z : Option LogEntry). last_time z ≤ℤ r.last) (sym (get_left log r i below)) (all_by log r.last order after i below)
  at i (inr here) = subst (λ (z : Option LogEntry). last_time z ≤ℤ r.last) (sym (ap (slice_get (log ++ r ∷ [])) here ∙ get_seam log r)) (le_self r.last)

  past : (k i : ℕ) → (observed_in (log ++ r ∷ [])).holds k i ≡ true → (observed_in (log ++ r ∷ [])).last i ≤ℤ r.last
  past k zero h = absurd (cc)
  past k (suc i) h =
      let below : i < length (log ++ r ∷ []) = inside (log ++ r ∷ []) k i h in
      let len : length (log ++ r ∷ []) ≡ suc (length log) = length_more log r in
      at i (elim (cases_order i (length log)) [ inl same ↦ inr same | inr other ↦ elim other [ inl low ↦ inl low | inr high ↦ absurd (omega arith) ] ])

-- nothing is a binding over no rows
pub nothing : (p : NumberedPattern) (x : BindTree) → is_binding (observed_in []) p x ≡ false
nothing (Leaf k) (One zero) = refl
nothing (Leaf k) (One (suc i)) = refl
nothing (Both p q) (Pair a b) = rw (nothing p a) refl
nothing (Then p q) (Pair a b) = rw (nothing p a) refl
nothing (Either p q) (First a) = nothing p a
nothing (Either p q) (Second a) = nothing q a
nothing (Within p x) b = rw (nothing p b) refl
nothing (Between p x y) b = rw (nothing p b) refl
nothing (Repeats p n) b = no_sets (is_binding (observed_in []) p) (nothing p) n b
nothing p x = refl

-- what stands for a log stands for it at a time that no later row comes before
pub early_stands : (log : List LogEntry) (t : ℤ) (p : NumberedPattern) (w : Bounds) (z : State) → LastIsBy log t → Stands (observed_in log) (all_of (observed_in log)) (time_of log) w p z →
    (s : ℤ) × (s ≤ℤ t) × Stands (observed_in log) (all_of (observed_in log)) s w p z
early_stands [] t p w z by st = (t, le_self t, any_time (observed_in []) nothing (time_of []) t p w z st)
early_stands (r ∷ log) t p w z by st = (time_of (r ∷ log), time_by r log t by, st)

-- A row more: what ends at it, and the stores for the longer log.
pub take_from : (p : NumberedPattern) (log : List LogEntry) (r : LogEntry) (s : ℤ) (z : State) → IsInOrder log → LastIsBy log r.last → s ≤ℤ r.last →
    Stands (observed_in log) (all_of (observed_in log)) s no_bounds p z →
    AreHeld (observed_in (log ++ r ∷ [])) (ends (observed_in (log ++ r ∷ [])) (suc (length log)) r.last no_bounds p) (step_new (row_after log r) r.truths z)
    × Stands (observed_in (log ++ r ∷ [])) (all_of (observed_in (log ++ r ∷ []))) (time_of (log ++ r ∷ [])) no_bounds p (step_state (row_after log r) r.truths z)
take_from p log r s z order after early st =
    let old = lasting_stands (observed_in log) (observed_in (log ++ r ∷ [])) (suc (length log)) s (continues log r) p no_bounds z st in
    let law = step_law (observed_in (log ++ r ∷ [])) (row_after log r) r.truths s (given_row log r s order after early) p no_bounds z old in (
      law.0,
      subst (λ (u : ℤ). Stands (observed_in (log ++ r ∷ [])) (all_of (observed_in (log ++ r ∷ []))) u no_bounds p (step_state (row_after log r) r.truths z)) (sym (time_new log r)) law.1,
    )

pub take_law : (p : NumberedPattern) (log : List LogEntry) (r : LogEntry) (z : State) → IsInOrder log → LastIsBy log r.last →
    Stands (observed_in log) (all_of (observed_in log)) (time_of log) no_bounds p z →
    AreHeld (observed_in (log ++ r ∷ [])) (ends (observed_in (log ++ r ∷ [])) (suc (length log)) r.last no_bounds p) (step_new (row_after log r) r.truths z)
    × Stands (observed_in (log ++ r ∷ [])) (all_of (observed_in (log ++ r ∷ []))) (time_of (log ++ r ∷ [])) no_bounds p (step_state (row_after log r) r.truths z)
take_law p log r z order after st = let early = early_stands log r.last p no_bounds z after st in take_from p log r early.0 z order after early.1 early.2

-- ---- no rows

none_held : (f : BindTree → Bool) → ((x : BindTree) → f x ≡ false) → (s : ℤ) (v : Window) → AreHeld (observed_in []) (λ x. f x && retains v (earliest (observed_in []).first x) s) []
none_held f h s v = ([], refl, λ x. let no_one = h x in rw no_one refl)

no_levels_stand : (f : ℕ → BindTree → Bool) → ((j : ℕ) (x : BindTree) → f j x ≡ false) → (s : ℤ) (w : Bounds) (n k j : ℕ) → n ≡ k + j → LevelsStand (observed_in []) f s w n j (no_levels k)
no_levels_stand f h s w n zero j e = omega arith
no_levels_stand f h s w n (suc k) j e = (none_held (f j) (h j) s (window_of w false), no_levels_stand f h s w n k (suc j) (omega arith))

no_all_levels_stand : (f : ℕ → BindTree → Bool) → ((j : ℕ) (x : BindTree) → f j x ≡ false) → (s : ℤ) (w : Bounds) (n : ℕ) → AllLevelsStand (observed_in []) f s w n (no_levels (n - 1))
no_all_levels_stand f h s w zero = refl
no_all_levels_stand f h s w (suc n) =
    subst (λ (k : ℕ). LevelsStand (observed_in []) f s w (suc n) 1 (no_levels k)) (let e : n ≡ suc n - 1 = omega arith in e) (no_levels_stand f h s w (suc n) n 1 (omega arith))

no_sides_stand : (p q : NumberedPattern) (s : ℤ) (w : Bounds) (v : Window) →
    SidesStand (observed_in []) (is_binding (observed_in []) p) (is_binding (observed_in []) q) s w v (empty_sides (window_of w false) v)
no_sides_stand p q s w v = record {
  left_window = refl;
  right_window = refl;
  left = none_held (is_binding (observed_in []) p) (nothing p) s (window_of w false);
  right = none_held (is_binding (observed_in []) q) (nothing q) s v;
}

-- a new matcher stands for the empty log
pub empty_stands : (p : NumberedPattern) (w : Bounds) (s : ℤ) → Stands (observed_in []) (all_of (observed_in [])) s w p (empty_state w p)
empty_stands (Leaf k) w s = (refl, refl)
empty_stands (Both p q) w s = (empty_stands p w s, empty_stands q w s, no_sides_stand p q s w (window_of w false))
empty_stands (Then p q) w s = (empty_stands p w s, empty_stands q w s, no_sides_stand p q s w (window_of w true))
empty_stands (Either p q) w s = (empty_stands p w s, empty_stands q w s)
empty_stands (Within p x) w s = empty_stands p (within w x) s
empty_stands (Between p x y) w s = empty_stands p (between w x y) s
empty_stands (Repeats p n) w s = (
  empty_stands p w s,
  refl,
  refl,
  no_all_levels_stand (are_repeats (is_binding (observed_in []) p)) (no_sets (is_binding (observed_in []) p) (nothing p)) s w n,
)
