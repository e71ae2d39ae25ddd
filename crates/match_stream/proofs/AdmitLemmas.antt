-- What is new below a store hasn't expired there: so each store admits it, but the right one of a FOLLOWEDBY.
use Rattle.std.proofs.Common.{◌≡◌, ℕ, zero, suc, ℤ, List, [], ◌∷◌, ◌++◌, refl, sym, ◌∙◌, ap, subst}
use Rattle.std.specs.Prelude.{Bool, true, false, ◌&&◌, map, filter, cond, nat_eq, int_le, int_lt}
use Rattle.std.proofs.lemmas.Bool.{and_parts, and_from}
use Rattle.match_bindings.specs.declared.bounds.Bounds.{Bounds}
use Rattle.match_bindings.specs.Bounds.{within, between}
use Rattle.match_bindings.specs.Span.{later_by}
use Rattle.match_bindings.specs.NumberedPattern.{NumberedPattern, Leaf, Both, Then, Either, Within, Between, Repeats}
use Rattle.match_bindings.specs.BindTree.{BindTree, First, Second, Single}
use Rattle.match_pruning.specs.declared.window.Window.{Window}
use Rattle.match_pruning.specs.Stores.{window_of}
use Rattle.match_pruning.specs.declared.join.Join.{Join}
use Rattle.match_pruning.specs.declared.join.Join.TheVariants as join
use Rattle.match_pruning.specs.declared.row.Row.{Row}
use Rattle.match_pruning.specs.PartialMatchTree.{PartialMatchTree}
use Rattle.match_pruning.specs.inner.Retains.{alive, retains}
use Rattle.match_pruning.specs.inner.Steps.{held_with, joined_matches, may_join, match_join_row, match_joins, kept, State, SideStores, a_leaf, a_join, a_choice, a_limit, a_chain, truth_at, levels_new, repeated_sets, step_new, sides_kept, joins_both}
use Rattle.match_stream.specs.inner.Totals.{Admits, AdmitLevels}
use Rattle.match_stream.specs.inner.Shape.{same_window, have_windows, state_fits}
use Rattle.match_stream.proofs.AliveLemmas.{alive_min, after_left_alive, alive_within, alive_between}
use Rattle.match_stream.proofs.ShapeLemmas.{same_window_is}

-- all are alive
abbrev pub AreAlive : Bounds → ℤ → List PartialMatchTree → Type 0
AreAlive w t [] = Unit {0}
AreAlive w t (x ∷ xs) = (alive w x.earliest t ≡ true) × AreAlive w t xs

alive_append : (w : Bounds) (t : ℤ) (xs ys : List PartialMatchTree) → AreAlive w t xs → AreAlive w t ys → AreAlive w t (xs ++ ys)
alive_append w t [] ys h k = k
alive_append w t (x ∷ xs) ys h k = (h.0, alive_append w t xs ys h.1 k)

alive_with : (w : Bounds) (t : ℤ) (mk : BindTree → BindTree) (xs : List PartialMatchTree) → AreAlive w t xs → AreAlive w t (map (held_with mk) xs)
alive_with w t mk [] h = tt
alive_with w t mk (x ∷ xs) h = (h.0, alive_with w t mk xs h.1)

alive_row : (w : Bounds) (t : ℤ) (j : Join) (x : PartialMatchTree) (ys : List PartialMatchTree) → alive w x.earliest t ≡ true → AreAlive w t ys → AreAlive w t (match_join_row j x ys)
alive_row w t j x [] h k = tt
alive_row w t j x (y ∷ ys) h k = by (may_join j x y) (alive_row w t j x ys h k.1) where
  by : (b : Bool) → AreAlive w t (map (joined_matches j x) (filter (may_join j x) ys)) → AreAlive w t (map (joined_matches j x) (cond b (y ∷ filter (may_join j x) ys) (filter (may_join j x) ys)))
  by true rest = (alive_min w x.earliest y.earliest t ∙ and_from _ _ h k.0, rest)
  by false rest = rest

alive_joins : (w : Bounds) (t : ℤ) (j : Join) (xs ys : List PartialMatchTree) → AreAlive w t xs → AreAlive w t ys → AreAlive w t (match_joins j xs ys)
alive_joins w t j [] ys h k = tt
alive_joins w t j (x ∷ xs) ys h k = alive_append w t (match_join_row j x ys) (match_joins j xs ys) (alive_row w t j x ys h.0 k) (alive_joins w t j xs ys h.1 k)

-- what a store keeps is alive
kept_alive : (w : Bounds) (v : Window) (t : ℤ) (xs : List PartialMatchTree) → ((e : ℤ) → retains v e t ≡ true → alive w e t ≡ true) → AreAlive w t (kept v t xs)
kept_alive w v t [] h = tt
kept_alive w v t (x ∷ xs) h = by (retains v x.earliest t) refl (kept_alive w v t xs h) where
  by : (b : Bool) → retains v x.earliest t ≡ b → AreAlive w t (kept v t xs) → AreAlive w t (cond b (x ∷ kept v t xs) (kept v t xs))
  by true e rest = (h x.earliest e, rest)
  by false e rest = rest

-- and what is alive is kept
alive_kept : (w : Bounds) (t : ℤ) (xs : List PartialMatchTree) → AreAlive w t xs → kept (window_of w false) t xs ≡ xs
alive_kept w t [] h = refl
alive_kept w t (x ∷ xs) h = let here : retains (window_of w false) x.earliest t ≡ true = h.0 in rw here (ap (λ z. x ∷ z) (alive_kept w t xs h.1))

wider : (w v : Bounds) (t : ℤ) (xs : List PartialMatchTree) → ((e : ℤ) → alive v e t ≡ true → alive w e t ≡ true) → AreAlive v t xs → AreAlive w t xs
wider w v t [] h k = tt
wider w v t (x ∷ xs) h k = (h x.earliest k.0, wider w v t xs h k.1)

-- ---- levels

new_alive : (w : Bounds) (t : ℤ) (f n : List PartialMatchTree) (zs : List (List PartialMatchTree)) → AreAlive w t f → AreAlive w t n → AreAlive w t (levels_new (window_of w false) t f n zs)
new_alive w t f n [] h k = h
new_alive w t f n (z ∷ zs) h k =
    new_alive w t (match_joins join.Repeats (kept (window_of w false) t z) n) n zs
    (alive_joins w t join.Repeats (kept (window_of w false) t z) n (kept_alive w (window_of w false) t z (λ e l. l)) k) k

levels_admit : (w : Bounds) (t : ℤ) (f n : List PartialMatchTree) (zs : List (List PartialMatchTree)) → AreAlive w t f → AreAlive w t n → AdmitLevels (window_of w false) t f n zs
levels_admit w t f n [] h k = tt
levels_admit w t f n (z ∷ zs) h k = (
  alive_kept w t f h,
  levels_admit w t (match_joins join.Repeats (kept (window_of w false) t z) n) n zs
      (alive_joins w t join.Repeats (kept (window_of w false) t z) n (kept_alive w (window_of w false) t z (λ e l. l)) k) k,
)

counted_alive : (w : Bounds) (t : ℤ) (n : ℕ) (xs : List PartialMatchTree) → AreAlive w t xs → AreAlive w t (repeated_sets n xs)
counted_alive w t zero xs h = tt
counted_alive w t (suc n) xs h = h

-- ---- sides

joins_alive : (w : Bounds) (v : Window) (t : ℤ) (j : Join) (sides : SideStores) (left right : List PartialMatchTree) → sides.left_window ≡ window_of w false → sides.right_window ≡ v →
    ((e : ℤ) → retains v e t ≡ true → alive w e t ≡ true) → AreAlive w t left → AreAlive w t right → AreAlive w t (joins_both j (sides_kept t sides) left right)
joins_alive w v t j sides left right el er h hl hr =
    alive_append w t (match_joins j left (kept sides.right_window t sides.right)) (match_joins j (kept sides.left_window t sides.left) right)
    (alive_joins w t j left (kept sides.right_window t sides.right) hl (subst (λ (u : Window). AreAlive w t (kept u t sides.right)) (sym er) (kept_alive w v t sides.right h)))
    (alive_joins w t j (kept sides.left_window t sides.left) right (subst (λ (u : Window). AreAlive w t (kept u t sides.left)) (sym el) (kept_alive w (window_of w false) t sides.left (λ e l. l))) hr)

-- ---- patterns

pub admits : (row : Row) (truths : List Bool) (p : NumberedPattern) (w : Bounds) (z : State) → state_fits w p z ≡ true → AreAlive w row.last (step_new row truths z) × Admits row truths z
admits row truths (Leaf k) w (a_leaf leaf window) h =
    let parts = and_parts (nat_eq leaf k) (same_window window (window_of w false)) h in
    let v = same_window_is window (window_of w false) parts.1 in
    (by (truth_at truths leaf) (retains window row.first row.last) (ap (λ u. retains u row.first row.last) v), tt) where
      by : (a b : Bool) → b ≡ alive w row.first row.last → AreAlive w row.last (cond (a && b) (record { tree = Rattle.match_bindings.specs.BindTree.One row.number; earliest = row.first; latest = row.last } ∷ []) [])
      by true true e = (sym e, tt)
      by true false e = tt
      by false b e = tt
admits row truths (Both p q) w (a_join join.Both l r sides) h =
    let parts = and_parts (state_fits w p l && state_fits w q r) (have_windows sides (window_of w false) (window_of w false)) h in
    let both = and_parts (state_fits w p l) (state_fits w q r) parts.0 in
    let windows = and_parts (same_window sides.left_window (window_of w false)) (same_window sides.right_window (window_of w false)) parts.1 in
    let el = same_window_is sides.left_window (window_of w false) windows.0 in
    let er = same_window_is sides.right_window (window_of w false) windows.1 in
    let left = admits row truths p w l both.0 in
    let right = admits row truths q w r both.1 in (
      joins_alive w (window_of w false) row.last join.Both sides (step_new row truths l) (step_new row truths r) el er (λ e k. k) left.0 right.0,
      (
        left.1,
        right.1,
        ap (λ u. kept u row.last (step_new row truths l)) el ∙ alive_kept w row.last (step_new row truths l) left.0,
        ap (λ u. kept u row.last (step_new row truths r)) er ∙ alive_kept w row.last (step_new row truths r) right.0,
      ),
    )
admits row truths (Then p q) w (a_join join.Then l r sides) h =
    let parts = and_parts (state_fits w p l && state_fits w q r) (have_windows sides (window_of w false) (window_of w true)) h in
    let both = and_parts (state_fits w p l) (state_fits w q r) parts.0 in
    let windows = and_parts (same_window sides.left_window (window_of w false)) (same_window sides.right_window (window_of w true)) parts.1 in
    let el = same_window_is sides.left_window (window_of w false) windows.0 in
    let er = same_window_is sides.right_window (window_of w true) windows.1 in
    let left = admits row truths p w l both.0 in
    let right = admits row truths q w r both.1 in (
      joins_alive w (window_of w true) row.last join.Then sides (step_new row truths l) (step_new row truths r) el er (λ e k. after_left_alive w e row.last k) left.0 right.0,
      (
        left.1,
        right.1,
        ap (λ u. kept u row.last (step_new row truths l)) el ∙ alive_kept w row.last (step_new row truths l) left.0,
        tt,
      ),
    )
admits row truths (Either p q) w (a_choice l r) h =
    let both = and_parts (state_fits w p l) (state_fits w q r) h in
    let left = admits row truths p w l both.0 in
    let right = admits row truths q w r both.1 in (
      alive_append w row.last (map (held_with First) (step_new row truths l)) (map (held_with Second) (step_new row truths r))
          (alive_with w row.last First (step_new row truths l) left.0) (alive_with w row.last Second (step_new row truths r) right.0),
      (left.1, right.1),
    )
admits row truths (Within p x) w (a_limit part) h =
    let one = admits row truths p (within w x) part h in (
      wider w (within w x) row.last (step_new row truths part)
          (λ e k. (and_parts (alive w e row.last) (int_lt row.last (later_by x e)) (sym (alive_within w x e row.last) ∙ k)).0) one.0,
      one.1,
    )
admits row truths (Between p x y) w (a_limit part) h =
    let one = admits row truths p (between w x y) part h in (
      wider w (between w x y) row.last (step_new row truths part)
          (λ e k. (and_parts (alive w e row.last) (int_le x e && int_lt row.last y) (sym (alive_between w x y e row.last) ∙ k)).0) one.0,
      one.1,
    )
admits row truths (Repeats p n) w (a_chain part count window levels) h =
    let parts = and_parts (state_fits w p part && same_window window (window_of w false)) _ h in
    let two = and_parts (state_fits w p part) (same_window window (window_of w false)) parts.0 in
    let v = same_window_is window (window_of w false) two.1 in
    let one = admits row truths p w part two.0 in
    let new = step_new row truths part in
    let first = alive_with w row.last Single new one.0 in (
      subst (λ (u : Window). AreAlive w row.last (repeated_sets count (levels_new u row.last (map (held_with Single) new) new levels))) (sym v)
          (counted_alive w row.last count (levels_new (window_of w false) row.last (map (held_with Single) new) new levels) (new_alive w row.last (map (held_with Single) new) new levels first one.0)),
      (
        one.1,
        subst (λ (u : Window). AdmitLevels u row.last (map (held_with Single) new) new levels) (sym v) (levels_admit w row.last (map (held_with Single) new) new levels first one.0),
      ),
    )
admits row truths p w z h = absurd (cc)
