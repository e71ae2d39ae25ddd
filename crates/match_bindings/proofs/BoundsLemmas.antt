-- What span_fits a bounds.
use Rattle.std.proofs.Common.{◌≡◌, ℕ, ◌*◌, min, ℤ, pos, ◌+ℤ◌, ◌<ℤ◌, ◌≤ℤ◌, refl, sym, arith}
use Rattle.std.specs.Prelude.{Bool, true, false, ◌&&◌, int_lt, int_le, Option, Some, None}
use Rattle.std.specs.Int.{int_min, int_max}
use Rattle.std.proofs.lemmas.Bool.{and_parts, and_from}
use Rattle.std.proofs.lemmas.Int.{ints, clamps}
use Rattle.match_bindings.specs.declared.span.Span.{Span}
use Rattle.match_bindings.specs.declared.bounds.Bounds.{Bounds}
use Rattle.match_bindings.specs.Span.{later_by}
use Rattle.match_bindings.specs.inner.Candidates.{joined_span, lies_within, lies_between, is_in_seconds, is_from_start, is_before_stop, span_fits}
use Rattle.match_bindings.specs.Bounds.{least_seconds, latest_start, earliest_stop, within, between}
use Rattle.match_bindings.proofs.IsBindingLemmas.{lt_true, true_lt, le_true, true_le}

pub both_ways : (p q : Bool) → (p ≡ true → q ≡ true) → (q ≡ true → p ≡ true) → p ≡ q
both_ways true q f g = sym (f refl)
both_ways false true f g = g refl
both_ways false false f g = refl

-- what lies in less than so many seconds together does so alone
within_left : (l m e d : ℤ) (n : ℕ) → int_max l m <ℤ (int_min e d +ℤ pos n) → l <ℤ (e +ℤ pos n)
within_left l m e d n h = omega (arith, ints, clamps)

within_right : (l m e d : ℤ) (n : ℕ) → int_max l m <ℤ (int_min e d +ℤ pos n) → m <ℤ (d +ℤ pos n)
within_right l m e d n h = omega (arith, ints, clamps)

start_left : (x e d : ℤ) → x ≤ℤ int_min e d → x ≤ℤ e
start_left x e d h = omega (arith, ints, clamps)

start_right : (x e d : ℤ) → x ≤ℤ int_min e d → x ≤ℤ d
start_right x e d h = omega (arith, ints, clamps)

stop_left : (l m y : ℤ) → int_max l m <ℤ y → l <ℤ y
stop_left l m y h = omega (arith, ints, clamps)

stop_right : (l m y : ℤ) → int_max l m <ℤ y → m <ℤ y
stop_right l m y h = omega (arith, ints, clamps)

seconds_parts : (w : Option ℕ) (a b : Span) → is_in_seconds w (joined_span a b) ≡ true → (is_in_seconds w a ≡ true) × (is_in_seconds w b ≡ true)
seconds_parts None a b h = (refl, refl)
seconds_parts (Some n) a b h =
    let e = lt_true (int_max a.latest b.latest) (later_by n (int_min a.earliest b.earliest)) h in (
      true_lt a.latest (later_by n a.earliest) (within_left a.latest b.latest a.earliest b.earliest (1_000_000_000 * n) e),
      true_lt b.latest (later_by n b.earliest) (within_right a.latest b.latest a.earliest b.earliest (1_000_000_000 * n) e),
    )

start_parts : (w : Option ℤ) (a b : Span) → is_from_start w (joined_span a b) ≡ true → (is_from_start w a ≡ true) × (is_from_start w b ≡ true)
start_parts None a b h = (refl, refl)
start_parts (Some x) a b h =
    let e = le_true x (int_min a.earliest b.earliest) h in
    (true_le x a.earliest (start_left x a.earliest b.earliest e), true_le x b.earliest (start_right x a.earliest b.earliest e))

stop_parts : (w : Option ℤ) (a b : Span) → is_before_stop w (joined_span a b) ≡ true → (is_before_stop w a ≡ true) × (is_before_stop w b ≡ true)
stop_parts None a b h = (refl, refl)
stop_parts (Some y) a b h =
    let e = lt_true (int_max a.latest b.latest) y h in
    (true_lt a.latest y (stop_left a.latest b.latest y e), true_lt b.latest y (stop_right a.latest b.latest y e))

-- what span_fits together span_fits alone
pub fits_parts : (w : Bounds) (a b : Span) → span_fits w (joined_span a b) ≡ true → (span_fits w a ≡ true) × (span_fits w b ≡ true)
fits_parts w a b h =
    let parts = and_parts (is_in_seconds w.seconds (joined_span a b)) (is_from_start w.start (joined_span a b) && is_before_stop w.stop (joined_span a b)) h in
    let rest = and_parts (is_from_start w.start (joined_span a b)) (is_before_stop w.stop (joined_span a b)) parts.1 in
    let one = seconds_parts w.seconds a b parts.0 in
    let two = start_parts w.start a b rest.0 in
    let three = stop_parts w.stop a b rest.1 in
    (and_from _ _ one.0 (and_from _ _ two.0 three.0), and_from _ _ one.1 (and_from _ _ two.1 three.1))

-- the least of two numbers of seconds asks what both ask
min_left : (l e : ℤ) (m n : ℕ) → l <ℤ (e +ℤ pos (1_000_000_000 * min m n)) → l <ℤ (e +ℤ pos (1_000_000_000 * m))
min_left l e m n h = omega (arith, ints)

min_right : (l e : ℤ) (m n : ℕ) → l <ℤ (e +ℤ pos (1_000_000_000 * min m n)) → l <ℤ (e +ℤ pos (1_000_000_000 * n))
min_right l e m n h = omega (arith, ints)

min_both : (l e : ℤ) (m n : ℕ) → l <ℤ (e +ℤ pos (1_000_000_000 * m)) → l <ℤ (e +ℤ pos (1_000_000_000 * n)) → l <ℤ (e +ℤ pos (1_000_000_000 * min m n))
min_both l e m n h k = omega (arith, ints)

seconds_narrowed : (w : Option ℕ) (n : ℕ) (s : Span) → is_in_seconds (least_seconds w n) s ≡ (is_in_seconds w s && lies_within n s)
seconds_narrowed None n s = refl
seconds_narrowed (Some m) n s = both_ways (lies_within (min m n) s) (lies_within m s && lies_within n s)
    (λ h. let e = lt_true s.latest (later_by (min m n) s.earliest) h in
    and_from _ _ (true_lt s.latest (later_by m s.earliest) (min_left s.latest s.earliest m n e)) (true_lt s.latest (later_by n s.earliest) (min_right s.latest s.earliest m n e)))
    (λ h. let parts = and_parts (lies_within m s) (lies_within n s) h in
    true_lt s.latest (later_by (min m n) s.earliest)
    (min_both s.latest s.earliest m n (lt_true s.latest (later_by m s.earliest) parts.0) (lt_true s.latest (later_by n s.earliest) parts.1)))

max_left : (x y e : ℤ) → int_max y x ≤ℤ e → y ≤ℤ e
max_left x y e h = omega (arith, ints, clamps)

max_right : (x y e : ℤ) → int_max y x ≤ℤ e → x ≤ℤ e
max_right x y e h = omega (arith, ints, clamps)

max_both : (x y e : ℤ) → y ≤ℤ e → x ≤ℤ e → int_max y x ≤ℤ e
max_both x y e h k = omega (arith, ints, clamps)

start_narrowed : (w : Option ℤ) (x : ℤ) (s : Span) → is_from_start (latest_start w x) s ≡ (is_from_start w s && int_le x s.earliest)
start_narrowed None x s = refl
start_narrowed (Some y) x s = both_ways (int_le (int_max y x) s.earliest) (int_le y s.earliest && int_le x s.earliest)
    (λ h. let e = le_true (int_max y x) s.earliest h in
    and_from _ _ (true_le y s.earliest (max_left x y s.earliest e)) (true_le x s.earliest (max_right x y s.earliest e)))
    (λ h. let parts = and_parts (int_le y s.earliest) (int_le x s.earliest) h in
    true_le (int_max y x) s.earliest (max_both x y s.earliest (le_true y s.earliest parts.0) (le_true x s.earliest parts.1)))

least_left : (x y l : ℤ) → l <ℤ int_min y x → l <ℤ y
least_left x y l h = omega (arith, ints, clamps)

least_right : (x y l : ℤ) → l <ℤ int_min y x → l <ℤ x
least_right x y l h = omega (arith, ints, clamps)

least_both : (x y l : ℤ) → l <ℤ y → l <ℤ x → l <ℤ int_min y x
least_both x y l h k = omega (arith, ints, clamps)

stop_narrowed : (w : Option ℤ) (x : ℤ) (s : Span) → is_before_stop (earliest_stop w x) s ≡ (is_before_stop w s && int_lt s.latest x)
stop_narrowed None x s = refl
stop_narrowed (Some y) x s = both_ways (int_lt s.latest (int_min y x)) (int_lt s.latest y && int_lt s.latest x)
    (λ h. let e = lt_true s.latest (int_min y x) h in
    and_from _ _ (true_lt s.latest y (least_left x y s.latest e)) (true_lt s.latest x (least_right x y s.latest e)))
    (λ h. let parts = and_parts (int_lt s.latest y) (int_lt s.latest x) h in
    true_lt s.latest (int_min y x) (least_both x y s.latest (lt_true s.latest y parts.0) (lt_true s.latest x parts.1)))

within_bits : (p q r : Bool) → ((p && q) && r) ≡ (q && (p && r))
within_bits true q r = refl
within_bits false true r = refl
within_bits false false r = refl

-- the bounds of the part of a Within asks for its seconds too
pub fits_within : (w : Bounds) (n : ℕ) (s : Span) → span_fits (within w n) s ≡ (lies_within n s && span_fits w s)
fits_within w n s =
    let one = seconds_narrowed w.seconds n s in
    rw one (within_bits (is_in_seconds w.seconds s) (lies_within n s) (is_from_start w.start s && is_before_stop w.stop s))

between_bits : (p q r u v : Bool) → (p && ((q && u) && (r && v))) ≡ ((u && v) && (p && (q && r)))
between_bits p q r false v = false_right p q r v where
  false_right : (p q r v : Bool) → (p && ((q && false) && (r && v))) ≡ false
  false_right true true r v = refl
  false_right true false r v = refl
  false_right false q r v = refl
between_bits true true true true true = refl
between_bits true true true true false = refl
between_bits true true false true true = refl
between_bits true true false true false = refl
between_bits true false r true true = refl
between_bits true false r true false = refl
between_bits false q r true true = refl
between_bits false q r true false = refl

-- that of a Between asks for its start and stop
pub fits_between : (w : Bounds) (start stop : ℤ) (s : Span) → span_fits (between w start stop) s ≡ (lies_between start stop s && span_fits w s)
fits_between w start stop s =
    let one = start_narrowed w.start start s in
    let two = stop_narrowed w.stop stop s in
    rw (one, two) (between_bits (is_in_seconds w.seconds s) (is_from_start w.start s) (is_before_stop w.stop s) (int_le start s.earliest) (int_lt s.latest stop))
