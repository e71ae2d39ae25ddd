-- What is alive by the bounds above a part: of two things together, before, and under narrower bounds.
use Rattle.std.proofs.Common.{◌≡◌, ℕ, ◌*◌, min, ℤ, pos, ◌+ℤ◌, ◌<ℤ◌, ◌≤ℤ◌, refl, arith}
use Rattle.std.specs.Prelude.{Bool, true, false, ◌&&◌, int_lt, int_le, Option, Some, None}
use Rattle.std.specs.Int.{int_min, int_max}
use Rattle.std.proofs.lemmas.Bool.{and_parts, and_from}
use Rattle.std.proofs.lemmas.Int.{ints, clamps}
use Rattle.match_bindings.specs.declared.bounds.Bounds.{Bounds}
use Rattle.match_bindings.specs.Bounds.{least_seconds, latest_start, earliest_stop, within, between}
use Rattle.match_bindings.specs.Span.{later_by}
use Rattle.match_bindings.proofs.IsBindingLemmas.{lt_true, true_lt, le_true, true_le}
use Rattle.match_bindings.proofs.BoundsLemmas.{both_ways}
use Rattle.match_pruning.specs.declared.window.Window.{Window}
use Rattle.match_pruning.specs.Stores.{window_of}
use Rattle.match_pruning.specs.inner.Retains.{lasts_at_most, ends_from_start, begins_before_stop, alive, is_ahead, retains}

-- ---- two things together

lt_min_left : (t a b : ℤ) (n : ℕ) → t <ℤ (int_min a b +ℤ pos n) → t <ℤ (a +ℤ pos n)
lt_min_left t a b n h = omega (arith, ints, clamps)

lt_min_right : (t a b : ℤ) (n : ℕ) → t <ℤ (int_min a b +ℤ pos n) → t <ℤ (b +ℤ pos n)
lt_min_right t a b n h = omega (arith, ints, clamps)

lt_min_both : (t a b : ℤ) (n : ℕ) → t <ℤ (a +ℤ pos n) → t <ℤ (b +ℤ pos n) → t <ℤ (int_min a b +ℤ pos n)
lt_min_both t a b n h k = omega (arith, ints, clamps)

le_min_left : (x a b : ℤ) → x ≤ℤ int_min a b → x ≤ℤ a
le_min_left x a b h = omega (arith, ints, clamps)

le_min_right : (x a b : ℤ) → x ≤ℤ int_min a b → x ≤ℤ b
le_min_right x a b h = omega (arith, ints, clamps)

le_min_both : (x a b : ℤ) → x ≤ℤ a → x ≤ℤ b → x ≤ℤ int_min a b
le_min_both x a b h k = omega (arith, ints, clamps)

seconds_min : (o : Option ℕ) (a b t : ℤ) → lasts_at_most o (int_min a b) t ≡ (lasts_at_most o a t && lasts_at_most o b t)
seconds_min None a b t = refl
seconds_min (Some x) a b t = both_ways (int_lt t (later_by x (int_min a b))) (int_lt t (later_by x a) && int_lt t (later_by x b))
    (λ h. let e = lt_true t (later_by x (int_min a b)) h in
    and_from _ _ (true_lt t (later_by x a) (lt_min_left t a b (1_000_000_000 * x) e)) (true_lt t (later_by x b) (lt_min_right t a b (1_000_000_000 * x) e)))
    (λ h. let parts = and_parts (int_lt t (later_by x a)) (int_lt t (later_by x b)) h in
    true_lt t (later_by x (int_min a b)) (lt_min_both t a b (1_000_000_000 * x) (lt_true t (later_by x a) parts.0) (lt_true t (later_by x b) parts.1)))

start_min : (o : Option ℤ) (a b : ℤ) → ends_from_start o (int_min a b) ≡ (ends_from_start o a && ends_from_start o b)
start_min None a b = refl
start_min (Some x) a b = both_ways (int_le x (int_min a b)) (int_le x a && int_le x b)
    (λ h. let e = le_true x (int_min a b) h in and_from _ _ (true_le x a (le_min_left x a b e)) (true_le x b (le_min_right x a b e)))
    (λ h. let parts = and_parts (int_le x a) (int_le x b) h in true_le x (int_min a b) (le_min_both x a b (le_true x a parts.0) (le_true x b parts.1)))

regroup : (p q r s u : Bool) → ((p && q) && ((r && s) && u)) ≡ ((p && (r && u)) && (q && (s && u)))
regroup false q r s u = refl
regroup true q false s u = swap q where
  swap : (q : Bool) → (q && false) ≡ false
  swap true = refl
  swap false = refl
regroup true q true s false = none q s where
  none : (q s : Bool) → (q && (s && false)) ≡ false
  none true true = refl
  none true false = refl
  none false s = refl
regroup true true true s true = refl
regroup true false true s true = refl

-- two things together are alive exactly where both are
pub alive_min : (w : Bounds) (a b t : ℤ) → alive w (int_min a b) t ≡ (alive w a t && alive w b t)
alive_min w a b t =
    let one = seconds_min w.seconds a b t in
    let two = start_min w.start a b in
    rw (one, two) (regroup (lasts_at_most w.seconds a t) (lasts_at_most w.seconds b t) (ends_from_start w.start a) (ends_from_start w.start b) (begins_before_stop w.stop t))

-- ---- what is alive was alive before

lt_before : (s t e : ℤ) → s ≤ℤ t → t <ℤ e → s <ℤ e
lt_before s t e h k = omega (arith, ints)

le_before : (s t e : ℤ) → s ≤ℤ t → t ≤ℤ e → s ≤ℤ e
le_before s t e h k = omega (arith, ints)

seconds_before : (o : Option ℕ) (e s t : ℤ) → s ≤ℤ t → lasts_at_most o e t ≡ true → lasts_at_most o e s ≡ true
seconds_before None e s t h k = refl
seconds_before (Some x) e s t h k = true_lt s (later_by x e) (lt_before s t (later_by x e) h (lt_true t (later_by x e) k))

stop_before : (o : Option ℤ) (s t : ℤ) → s ≤ℤ t → begins_before_stop o t ≡ true → begins_before_stop o s ≡ true
stop_before None s t h k = refl
stop_before (Some y) s t h k = true_lt s y (lt_before s t y h (lt_true t y k))

ahead_before : (b : Bool) (e s t : ℤ) → s ≤ℤ t → is_ahead b e t ≡ true → is_ahead b e s ≡ true
ahead_before false e s t h k = refl
ahead_before true e s t h k = true_le s e (le_before s t e h (le_true t e k))

pub retains_before : (w : Window) (e s t : ℤ) → s ≤ℤ t → retains w e t ≡ true → retains w e s ≡ true
retains_before w e s t h k =
    let front = and_parts (is_ahead w.after_left e t) (lasts_at_most w.seconds e t && (ends_from_start w.start e && begins_before_stop w.stop t)) k in
    let parts = and_parts (lasts_at_most w.seconds e t) (ends_from_start w.start e && begins_before_stop w.stop t) front.1 in
    let more = and_parts (ends_from_start w.start e) (begins_before_stop w.stop t) parts.1 in
    and_from _ _ (ahead_before w.after_left e s t h front.0)
    (and_from _ _ (seconds_before w.seconds e s t h parts.0) (and_from _ _ more.0 (stop_before w.stop s t h more.1)))

-- what retains after left is alive
pub after_left_alive : (w : Bounds) (e t : ℤ) → retains (window_of w true) e t ≡ true → alive w e t ≡ true
after_left_alive w e t h = (and_parts (is_ahead true e t) (alive w e t) h).1

-- what isn't earlier retains after left where it is alive
pub after_left_ahead : (w : Bounds) (e t : ℤ) → t ≤ℤ e → retains (window_of w true) e t ≡ alive w e t
after_left_ahead w e t h = let yes_it_is = true_le t e h in rw yes_it_is refl

-- ---- narrower bounds

lt_min_first : (t e : ℤ) (m n : ℕ) → t <ℤ (e +ℤ pos (1_000_000_000 * min m n)) → t <ℤ (e +ℤ pos (1_000_000_000 * m))
lt_min_first t e m n h = omega (arith, ints)

lt_min_second : (t e : ℤ) (m n : ℕ) → t <ℤ (e +ℤ pos (1_000_000_000 * min m n)) → t <ℤ (e +ℤ pos (1_000_000_000 * n))
lt_min_second t e m n h = omega (arith, ints)

lt_min_of : (t e : ℤ) (m n : ℕ) → t <ℤ (e +ℤ pos (1_000_000_000 * m)) → t <ℤ (e +ℤ pos (1_000_000_000 * n)) → t <ℤ (e +ℤ pos (1_000_000_000 * min m n))
lt_min_of t e m n h k = omega (arith, ints)

seconds_least : (o : Option ℕ) (n : ℕ) (e t : ℤ) → lasts_at_most (least_seconds o n) e t ≡ (lasts_at_most o e t && int_lt t (later_by n e))
seconds_least None n e t = refl
seconds_least (Some m) n e t = both_ways (int_lt t (later_by (min m n) e)) (int_lt t (later_by m e) && int_lt t (later_by n e))
    (λ h. let k = lt_true t (later_by (min m n) e) h in
    and_from _ _ (true_lt t (later_by m e) (lt_min_first t e m n k)) (true_lt t (later_by n e) (lt_min_second t e m n k)))
    (λ h. let parts = and_parts (int_lt t (later_by m e)) (int_lt t (later_by n e)) h in
    true_lt t (later_by (min m n) e) (lt_min_of t e m n (lt_true t (later_by m e) parts.0) (lt_true t (later_by n e) parts.1)))

move : (p q r : Bool) → ((p && q) && r) ≡ ((p && r) && q)
move false q r = refl
move true false false = refl
move true false true = refl
move true true false = refl
move true true true = refl

pub alive_within : (w : Bounds) (n : ℕ) (e t : ℤ) → alive (within w n) e t ≡ (alive w e t && int_lt t (later_by n e))
alive_within w n e t =
    let one = seconds_least w.seconds n e t in
    rw one (move (lasts_at_most w.seconds e t) (int_lt t (later_by n e)) (ends_from_start w.start e && begins_before_stop w.stop t))

max_le_left : (x y e : ℤ) → int_max y x ≤ℤ e → y ≤ℤ e
max_le_left x y e h = omega (arith, ints, clamps)

max_le_right : (x y e : ℤ) → int_max y x ≤ℤ e → x ≤ℤ e
max_le_right x y e h = omega (arith, ints, clamps)

max_le_both : (x y e : ℤ) → y ≤ℤ e → x ≤ℤ e → int_max y x ≤ℤ e
max_le_both x y e h k = omega (arith, ints, clamps)

start_latest : (o : Option ℤ) (x e : ℤ) → ends_from_start (latest_start o x) e ≡ (ends_from_start o e && int_le x e)
start_latest None x e = refl
start_latest (Some y) x e = both_ways (int_le (int_max y x) e) (int_le y e && int_le x e)
    (λ h. let k = le_true (int_max y x) e h in and_from _ _ (true_le y e (max_le_left x y e k)) (true_le x e (max_le_right x y e k)))
    (λ h. let parts = and_parts (int_le y e) (int_le x e) h in true_le (int_max y x) e (max_le_both x y e (le_true y e parts.0) (le_true x e parts.1)))

lt_least_left : (x y t : ℤ) → t <ℤ int_min y x → t <ℤ y
lt_least_left x y t h = omega (arith, ints, clamps)

lt_least_right : (x y t : ℤ) → t <ℤ int_min y x → t <ℤ x
lt_least_right x y t h = omega (arith, ints, clamps)

lt_least_both : (x y t : ℤ) → t <ℤ y → t <ℤ x → t <ℤ int_min y x
lt_least_both x y t h k = omega (arith, ints, clamps)

stop_earliest : (o : Option ℤ) (x t : ℤ) → begins_before_stop (earliest_stop o x) t ≡ (begins_before_stop o t && int_lt t x)
stop_earliest None x t = refl
stop_earliest (Some y) x t = both_ways (int_lt t (int_min y x)) (int_lt t y && int_lt t x)
    (λ h. let k = lt_true t (int_min y x) h in and_from _ _ (true_lt t y (lt_least_left x y t k)) (true_lt t x (lt_least_right x y t k)))
    (λ h. let parts = and_parts (int_lt t y) (int_lt t x) h in true_lt t (int_min y x) (lt_least_both x y t (lt_true t y parts.0) (lt_true t x parts.1)))

between_bits : (p q r u v : Bool) → (p && ((q && u) && (r && v))) ≡ ((p && (q && r)) && (u && v))
between_bits false q r u v = refl
between_bits true false r u v = refl
between_bits true true true true v = refl
between_bits true true true false v = refl
between_bits true true false true v = refl
between_bits true true false false v = refl

pub alive_between : (w : Bounds) (x y e t : ℤ) → alive (between w x y) e t ≡ (alive w e t && (int_le x e && int_lt t y))
alive_between w x y e t =
    let one = start_latest w.start x e in
    let two = stop_earliest w.stop y t in
    rw (one, two) (between_bits (lasts_at_most w.seconds e t) (ends_from_start w.start e) (begins_before_stop w.stop t) (int_le x e) (int_lt t y))
