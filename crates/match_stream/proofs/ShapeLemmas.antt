-- What is made for a pattern, its stores one after another, is its retained part where node by node the stores stand, and the other
-- way round.
use Rattle.std.proofs.Common.{◌≡◌, ℕ, zero, suc, ◌+◌, ◌-◌, ℤ, List, [], ◌∷◌, ◌++◌, length, refl, sym, ◌∙◌, ap, subst, arith, length-append}
use Rattle.std.specs.Prelude.{Bool, true, false, ◌&&◌, nat_eq, ◌↔◌, int_le, Option, Some, None, map}
use Rattle.std.proofs.lemmas.Bool.{eqb-true, eq-eqb, and_parts, and_from}
use Rattle.match_bindings.specs.declared.bounds.Bounds.{Bounds}
use Rattle.match_bindings.specs.Bounds.{within, between}
use Rattle.match_bindings.specs.NumberedPattern.{NumberedPattern, Leaf, Both, Then, Either, Within, Between, Repeats}
use Rattle.match_bindings.specs.BindTree.{BindTree, Single}
use Rattle.match_bindings.specs.Log.{Observed}
use Rattle.match_bindings.specs.Span.{earliest}
use Rattle.match_bindings.specs.Binding.{IsBinding}
use Rattle.match_bindings.specs.Test.{are_repeats, is_binding}
use Rattle.match_bindings.specs.Once.{bit, count}
use Rattle.match_bindings.proofs.IsBindingLemmas.{le_true, true_le}
use Rattle.match_pruning.specs.declared.window.Window.{Window}
use Rattle.match_pruning.specs.Stores.{StorePart, a_side, Store, window_of, side, store_level, levels, stores_under}
use Rattle.match_pruning.specs.declared.row.Row.{Row}
use Rattle.match_pruning.specs.declared.join.Join.TheVariants as join
use Rattle.match_pruning.specs.PartialMatchTree.{PartialMatchTree, partial_match_of, trees_in}
use Rattle.match_stream.specs.RetainedPart.{MayHold, IsRetained, HoldsRetained, AreRetained}
use Rattle.match_pruning.specs.inner.Retains.{retains}
use Rattle.match_pruning.specs.inner.Steps.{held_with, SideStores, State, a_leaf, a_join, a_choice, a_limit, a_chain, step_new, step_state, levels_after, no_levels, empty_state, contents_of}
use Rattle.match_stream.specs.inner.Shape.{same_bool, same_count, same_time, same_window, have_windows, state_fits}
use Rattle.match_pruning.proofs.RetainsLemmas.{gone_expired, expired_gone, le_both, le_self}
use Rattle.match_stream.proofs.LevelLemmas.{length_after}
use Rattle.match_stream.proofs.StoreLemmas.{AreHeld}
use Rattle.match_stream.proofs.StepLemmas.{SidesStand, LevelsStand, AllLevelsStand, Stands, all_of}

-- ---- one store

-- the test of a binding is the rule
abbrev pub Rule : Type 0
Rule = (o : Observed) (p : NumberedPattern) (x : BindTree) → (is_binding o p x ≡ true) ↔ IsBinding o p x

pub trees_held : (o : Observed) (xs : List BindTree) → trees_in (map (partial_match_of o) xs) ≡ xs
trees_held o [] = refl
trees_held o (x ∷ xs) = ap (λ ys. x ∷ ys) (trees_held o xs)

-- what passes is retained
is_retained : (o : Observed) (now : ℤ) (store : Store) (f : BindTree → Bool) → ((x : BindTree) → (f x ≡ true) ↔ MayHold o store.part x) → (x : BindTree) →
    (f x && retains store.window (earliest o.first x) now) ≡ true → IsRetained o now store x
is_retained o now store f h x k =
    let parts = and_parts (f x) (retains store.window (earliest o.first x) now) k in (
      (h x).0 parts.0,
      λ z. let no : retains store.window (earliest o.first x) now ≡ false = expired_gone store.window (earliest o.first x) now z in
          let e : true ≡ false = sym parts.1 ∙ no in cc,
    )

-- what doesn't pass isn't
not_retained : (o : Observed) (now : ℤ) (store : Store) (f : BindTree → Bool) → ((x : BindTree) → (f x ≡ true) ↔ MayHold o store.part x) → (x : BindTree) →
    (f x && retains store.window (earliest o.first x) now) ≡ false → IsRetained o now store x → ⊥
not_retained o now store f h x k z = by (f x) (retains store.window (earliest o.first x) now) refl refl k where
  by : (a b : Bool) → f x ≡ a → retains store.window (earliest o.first x) now ≡ b → (a && b) ≡ false → ⊥
  by false b ea eb e = let yes_it_is : f x ≡ true = (h x).1 z.0 in let no : true ≡ false = sym yes_it_is ∙ ea in cc
  by true false ea eb e = z.1 (gone_expired store.window (earliest o.first x) now eb)
  by true true ea eb e = cc

pub to_held : (o : Observed) (now : ℤ) (store : Store) (f : BindTree → Bool) → ((x : BindTree) → (f x ≡ true) ↔ MayHold o store.part x) → (held : List PartialMatchTree) →
    HoldsRetained o now store held → AreHeld o (λ x. f x && retains store.window (earliest o.first x) now) held
to_held o now store f h held retained = (trees_in held, retained.times, each) where
  by : (x : BindTree) (t : Bool) → (f x && retains store.window (earliest o.first x) now) ≡ t → count x (trees_in held) ≡ bit (f x && retains store.window (earliest o.first x) now)
  by x true e = rw e (retained.each_once x (is_retained o now store f h x e))
  by x false e = rw e (retained.no_other x (not_retained o now store f h x e))

  each : (x : BindTree) → count x (trees_in held) ≡ bit (f x && retains store.window (earliest o.first x) now)
  each x = by x (f x && retains store.window (earliest o.first x) now) refl

pub from_held : (o : Observed) (now : ℤ) (store : Store) (f : BindTree → Bool) → ((x : BindTree) → (f x ≡ true) ↔ MayHold o store.part x) → (held : List PartialMatchTree) →
    AreHeld o (λ x. f x && retains store.window (earliest o.first x) now) held → HoldsRetained o now store held
from_held o now store f h held (xs, is, each) = record {
  times = is ∙ sym (ap (map (partial_match_of o)) same);
  each_once = λ x k. ap (count x) same ∙ each x ∙ ap bit (yes_it_is x k (f x && retains store.window (earliest o.first x) now) refl);
  no_other = λ x k. ap (count x) same ∙ each x ∙ ap bit (no_it_isnt x k (f x && retains store.window (earliest o.first x) now) refl);
} where
  same : trees_in held ≡ xs
  same = ap trees_in is ∙ trees_held o xs

  yes_it_is : (x : BindTree) → IsRetained o now store x → (b : Bool) → (f x && retains store.window (earliest o.first x) now) ≡ b → (f x && retains store.window (earliest o.first x) now) ≡ true
  yes_it_is x k true e = e
  yes_it_is x k false e = absurd (not_retained o now store f h x e k)

  no_it_isnt : (x : BindTree) → (IsRetained o now store x → ⊥) → (b : Bool) → (f x && retains store.window (earliest o.first x) now) ≡ b → (f x && retains store.window (earliest o.first x) now) ≡ false
  no_it_isnt x k true e = absurd (k (is_retained o now store f h x e))
  no_it_isnt x k false e = e

-- ---- lists of stores

retained_append : (o : Observed) (now : ℤ) (xs ys : List Store) (us vs : List (List PartialMatchTree)) → AreRetained o now xs us → AreRetained o now ys vs → AreRetained o now (xs ++ ys) (us ++ vs)
retained_append o now [] ys [] vs h k = k
retained_append o now (x ∷ xs) ys (u ∷ us) vs h k = (h.0, retained_append o now xs ys us vs h.1 k)
retained_append o now xs ys us vs h k = absurd h

retained_split : (o : Observed) (now : ℤ) (xs ys : List Store) (us vs : List (List PartialMatchTree)) → length xs ≡ length us → AreRetained o now (xs ++ ys) (us ++ vs) →
    AreRetained o now xs us × AreRetained o now ys vs
retained_split o now [] ys [] vs e h = (tt, h)
retained_split o now [] ys (u ∷ us) vs e h = absurd (omega arith)
retained_split o now (x ∷ xs) ys [] vs e h = absurd (omega arith)
retained_split o now (x ∷ xs) ys (u ∷ us) vs e h =
    let rest = retained_split o now xs ys us vs (omega arith) h.1 in ((h.0, rest.0), rest.1)

-- ---- windows

same_bool_is : (a b : Bool) → same_bool a b ≡ true → a ≡ b
same_bool_is true true h = refl
same_bool_is false false h = refl
same_bool_is true false h = absurd (cc)
same_bool_is false true h = absurd (cc)

bool_self : (a : Bool) → same_bool a a ≡ true
bool_self true = refl
bool_self false = refl

same_count_is : (a b : Option ℕ) → same_count a b ≡ true → a ≡ b
same_count_is None None h = refl
same_count_is (Some m) (Some n) h = ap Some (eqb-true m n h)
same_count_is None (Some n) h = absurd (cc)
same_count_is (Some m) None h = absurd (cc)

count_self : (a : Option ℕ) → same_count a a ≡ true
count_self None = refl
count_self (Some n) = eq-eqb n n refl

same_time_is : (a b : Option ℤ) → same_time a b ≡ true → a ≡ b
same_time_is None None h = refl
same_time_is (Some m) (Some n) h = let parts = and_parts (int_le m n) (int_le n m) h in ap Some (le_both m n (le_true m n parts.0) (le_true n m parts.1))
same_time_is None (Some n) h = absurd (cc)
same_time_is (Some m) None h = absurd (cc)

time_self : (a : Option ℤ) → same_time a a ≡ true
time_self None = refl
time_self (Some n) = let e = true_le n n (le_self n) in and_from _ _ e e

pub same_window_is : (a b : Window) → same_window a b ≡ true → a ≡ b
same_window_is a b h =
    let parts = and_parts (same_count a.seconds b.seconds && same_time a.start b.start) (same_time a.stop b.stop && same_bool a.after_left b.after_left) h in
    let one = and_parts (same_count a.seconds b.seconds) (same_time a.start b.start) parts.0 in
    let two = and_parts (same_time a.stop b.stop) (same_bool a.after_left b.after_left) parts.1 in
    let e = same_count_is a.seconds b.seconds one.0 in let f = same_time_is a.start b.start one.1 in
    let g = same_time_is a.stop b.stop two.0 in let k = same_bool_is a.after_left b.after_left two.1 in
    λ i. record { seconds = e i; start = f i; stop = g i; after_left = k i }

window_self : (a : Window) → same_window a a ≡ true
window_self a = and_from _ _ (and_from _ _ (count_self a.seconds) (time_self a.start)) (and_from _ _ (time_self a.stop) (bool_self a.after_left))

-- ---- levels

-- so many levels, from j on
abbrev levels_from : ℕ → ℕ → Bounds → NumberedPattern → List Store
levels_from j zero w p = []
levels_from j (suc k) w p = store_level w p j ∷ levels_from (suc j) k w p

levels_from_more : (j k : ℕ) (w : Bounds) (p : NumberedPattern) → levels_from j (suc k) w p ≡ levels_from j k w p ++ store_level w p (j + k) ∷ []
levels_from_more j zero w p = ap (λ n. store_level w p n ∷ []) (let e : j ≡ j + 0 = omega arith in e)
levels_from_more j (suc k) w p =
    ap (λ z. store_level w p j ∷ z) (levels_from_more (suc j) k w p)
    ∙ ap (λ n. store_level w p j ∷ (levels_from (suc j) k w p ++ store_level w p n ∷ [])) (let e : suc j + k ≡ j + suc k = omega arith in e)

levels_are : (n : ℕ) (w : Bounds) (p : NumberedPattern) → levels w p (suc n) ≡ levels_from 1 n w p
levels_are zero w p = refl
levels_are (suc n) w p =
    ap (λ z. z ++ store_level w p (suc n) ∷ []) (levels_are n w p)
    ∙ ap (λ m. levels_from 1 n w p ++ store_level w p m ∷ []) (let e : suc n ≡ 1 + n = omega arith in e)
    ∙ sym (levels_from_more 1 n w p)

to_levels : Rule → (o : Observed) (s : ℤ) (w : Bounds) (p : NumberedPattern) (n k j : ℕ) (held : List (List PartialMatchTree)) → n ≡ k + j →
    AreRetained o s (levels_from j k w p) held → LevelsStand o (are_repeats (is_binding o p)) s w n j held
to_levels rule o s w p n zero j [] e h = omega arith
to_levels rule o s w p n zero j (u ∷ us) e h = absurd h
to_levels rule o s w p n (suc k) j [] e h = absurd h
to_levels rule o s w p n (suc k) j (u ∷ us) e h =
    (to_held o s (store_level w p j) (are_repeats (is_binding o p) j) (λ x. rule o (Repeats p j) x) u h.0, to_levels rule o s w p n k (suc j) us (omega arith) h.1)

levels_length : (o : Observed) (f : ℕ → BindTree → Bool) (s : ℤ) (w : Bounds) (n j : ℕ) (held : List (List PartialMatchTree)) → LevelsStand o f s w n j held → n ≡ length held + j
levels_length o f s w n j [] st = omega (arith, st)
levels_length o f s w n j (u ∷ us) st = omega (arith, levels_length o f s w n (suc j) us st.1)

from_levels : Rule → (o : Observed) (s : ℤ) (w : Bounds) (p : NumberedPattern) (n k j : ℕ) (held : List (List PartialMatchTree)) → n ≡ k + j →
    LevelsStand o (are_repeats (is_binding o p)) s w n j held → AreRetained o s (levels_from j k w p) held
from_levels rule o s w p n zero j [] e st = tt
from_levels rule o s w p n (suc k) j [] e st = absurd (omega (arith, st))
from_levels rule o s w p n zero j (u ∷ us) e st = absurd (omega (arith, levels_length o (are_repeats (is_binding o p)) s w n (suc j) us st.1))
from_levels rule o s w p n (suc k) j (u ∷ us) e st =
    (from_held o s (store_level w p j) (are_repeats (is_binding o p) j) (λ x. rule o (Repeats p j) x) u st.0, from_levels rule o s w p n k (suc j) us (omega arith) st.1)

to_all_levels : Rule → (o : Observed) (s : ℤ) (w : Bounds) (p : NumberedPattern) (n : ℕ) (held : List (List PartialMatchTree)) →
    AreRetained o s (levels w p n) held → AllLevelsStand o (are_repeats (is_binding o p)) s w n held
to_all_levels rule o s w p zero [] h = refl
to_all_levels rule o s w p zero (u ∷ us) h = absurd h
to_all_levels rule o s w p (suc n) held h =
    to_levels rule o s w p (suc n) n 1 held (omega arith) (subst (λ (z : List Store). AreRetained o s z held) (levels_are n w p) h)

from_all_levels : Rule → (o : Observed) (s : ℤ) (w : Bounds) (p : NumberedPattern) (n : ℕ) (held : List (List PartialMatchTree)) →
    AllLevelsStand o (are_repeats (is_binding o p)) s w n held → AreRetained o s (levels w p n) held
from_all_levels rule o s w p zero [] st = tt
from_all_levels rule o s w p zero (u ∷ us) st = absurd (cc)
from_all_levels rule o s w p (suc n) held st =
    subst (λ (z : List Store). AreRetained o s z held) (sym (levels_are n w p)) (from_levels rule o s w p (suc n) n 1 held (omega arith) st)

from_length : (j k : ℕ) (w : Bounds) (p : NumberedPattern) → length (levels_from j k w p) ≡ k
from_length j zero w p = refl
from_length j (suc k) w p = ap suc (from_length (suc j) k w p)

levels_count : (w : Bounds) (p : NumberedPattern) (n : ℕ) → length (levels w p n) ≡ n - 1
levels_count w p zero = omega arith
levels_count w p (suc n) = omega (arith, ap length (levels_are n w p), from_length 1 n w p)

-- ---- patterns

-- a pattern has as many stores as what is made for it
stores_length : (p : NumberedPattern) (w : Bounds) (z : State) → state_fits w p z ≡ true → length (stores_under w p) ≡ length (contents_of z)
stores_length (Leaf k) w (a_leaf leaf window) h = refl
stores_length (Both p q) w (a_join join.Both l r sides) h =
    let parts = and_parts (state_fits w p l && state_fits w q r) (have_windows sides (window_of w false) (window_of w false)) h in
    let both = and_parts (state_fits w p l) (state_fits w q r) parts.0 in
    omega (arith, length-append (stores_under w p) (stores_under w q), length-append (contents_of l) (contents_of r), stores_length p w l both.0, stores_length q w r both.1)
stores_length (Then p q) w (a_join join.Then l r sides) h =
    let parts = and_parts (state_fits w p l && state_fits w q r) (have_windows sides (window_of w false) (window_of w true)) h in
    let both = and_parts (state_fits w p l) (state_fits w q r) parts.0 in
    omega (arith, length-append (stores_under w p) (stores_under w q), length-append (contents_of l) (contents_of r), stores_length p w l both.0, stores_length q w r both.1)
stores_length (Either p q) w (a_choice l r) h =
    let both = and_parts (state_fits w p l) (state_fits w q r) h in
    omega (arith, length-append (stores_under w p) (stores_under w q), length-append (contents_of l) (contents_of r), stores_length p w l both.0, stores_length q w r both.1)
stores_length (Within p x) w (a_limit part) h = stores_length p (within w x) part h
stores_length (Between p x y) w (a_limit part) h = stores_length p (between w x y) part h
stores_length (Repeats p n) w (a_chain part count window held) h =
    let parts = and_parts (state_fits w p part && same_window window (window_of w false)) (nat_eq count n && nat_eq (length held) (n - 1)) h in
    let two = and_parts (state_fits w p part) (same_window window (window_of w false)) parts.0 in
    let last = and_parts (nat_eq count n) (nat_eq (length held) (n - 1)) parts.1 in
    let many : length held ≡ n - 1 = eqb-true (length held) (n - 1) last.1 in
    omega (arith, length-append (levels w p n) (stores_under w p), length-append held (contents_of part), stores_length p w part two.0, levels_count w p n, many)
stores_length p w z h = absurd (cc)

sides_from : Rule → (o : Observed) (s : ℤ) (p q : NumberedPattern) (w : Bounds) (v : Window) (right : Store) → right.part ≡ a_side q → right.window ≡ v → (sides : SideStores) →
    have_windows sides (window_of w false) v ≡ true → HoldsRetained o s (side w false p) sides.left → HoldsRetained o s right sides.right →
    SidesStand o (is_binding o p) (is_binding o q) s w v sides
sides_from rule o s p q w v right part window sides h left_retained right_retained =
    let parts = and_parts (same_window sides.left_window (window_of w false)) (same_window sides.right_window v) h in record {
      left_window = same_window_is sides.left_window (window_of w false) parts.0;
      right_window = same_window_is sides.right_window v parts.1;
      left = to_held o s (side w false p) (is_binding o p) (λ x. rule o p x) sides.left left_retained;
      right = subst (λ (u : Window). AreHeld o (λ x. is_binding o q x && retains u (earliest o.first x) s) sides.right) window
          (to_held o s right (is_binding o q) (λ x. subst (λ (u : StorePart). (is_binding o q x ≡ true) ↔ MayHold o u x) (sym part) (rule o q x)) sides.right right_retained);
    }

pub stands_from : Rule → (o : Observed) (s : ℤ) (p : NumberedPattern) (w : Bounds) (z : State) → state_fits w p z ≡ true → AreRetained o s (stores_under w p) (contents_of z) →
    Stands o (all_of o) s w p z
stands_from rule o s (Leaf k) w (a_leaf leaf window) h retained =
    let parts = and_parts (nat_eq leaf k) (same_window window (window_of w false)) h in (eqb-true leaf k parts.0, same_window_is window (window_of w false) parts.1)
stands_from rule o s (Both p q) w (a_join join.Both l r sides) h retained =
    let parts = and_parts (state_fits w p l && state_fits w q r) (have_windows sides (window_of w false) (window_of w false)) h in
    let both = and_parts (state_fits w p l) (state_fits w q r) parts.0 in
    let rest = retained_split o s (stores_under w p) (stores_under w q) (contents_of l) (contents_of r) (stores_length p w l both.0) retained.1.1 in (
      stands_from rule o s p w l both.0 rest.0,
      stands_from rule o s q w r both.1 rest.1,
      sides_from rule o s p q w (window_of w false) (side w false q) refl refl sides parts.1 retained.0 retained.1.0,
    )
stands_from rule o s (Then p q) w (a_join join.Then l r sides) h retained =
    let parts = and_parts (state_fits w p l && state_fits w q r) (have_windows sides (window_of w false) (window_of w true)) h in
    let both = and_parts (state_fits w p l) (state_fits w q r) parts.0 in
    let rest = retained_split o s (stores_under w p) (stores_under w q) (contents_of l) (contents_of r) (stores_length p w l both.0) retained.1.1 in (
      stands_from rule o s p w l both.0 rest.0,
      stands_from rule o s q w r both.1 rest.1,
      sides_from rule o s p q w (window_of w true) (side w true q) refl refl sides parts.1 retained.0 retained.1.0,
    )
stands_from rule o s (Either p q) w (a_choice l r) h retained =
    let both = and_parts (state_fits w p l) (state_fits w q r) h in
    let rest = retained_split o s (stores_under w p) (stores_under w q) (contents_of l) (contents_of r) (stores_length p w l both.0) retained in
    (stands_from rule o s p w l both.0 rest.0, stands_from rule o s q w r both.1 rest.1)
stands_from rule o s (Within p x) w (a_limit part) h retained = stands_from rule o s p (within w x) part h retained
stands_from rule o s (Between p x y) w (a_limit part) h retained = stands_from rule o s p (between w x y) part h retained
stands_from rule o s (Repeats p n) w (a_chain part count window held) h retained =
    let parts = and_parts (state_fits w p part && same_window window (window_of w false)) (nat_eq count n && nat_eq (length held) (n - 1)) h in
    let two = and_parts (state_fits w p part) (same_window window (window_of w false)) parts.0 in
    let last = and_parts (nat_eq count n) (nat_eq (length held) (n - 1)) parts.1 in
    let many : length held ≡ n - 1 = eqb-true (length held) (n - 1) last.1 in
    let rest = retained_split o s (levels w p n) (stores_under w p) held (contents_of part) (levels_count w p n ∙ sym many) retained in (
      stands_from rule o s p w part two.0 rest.1,
      eqb-true count n last.0,
      same_window_is window (window_of w false) two.1,
      to_all_levels rule o s w p n held rest.0,
    )
stands_from rule o s p w z h retained = absurd (cc)

pub retained_from : Rule → (o : Observed) (s : ℤ) (p : NumberedPattern) (w : Bounds) (z : State) → Stands o (all_of o) s w p z → AreRetained o s (stores_under w p) (contents_of z)
retained_from rule o s (Leaf k) w (a_leaf leaf window) st = tt
retained_from rule o s (Both p q) w (a_join join.Both l r sides) st = (
  from_held o s (side w false p) (is_binding o p) (λ x. rule o p x) sides.left st.2.left,
  (
    from_held o s (side w false q) (is_binding o q) (λ x. rule o q x) sides.right st.2.right,
    retained_append o s (stores_under w p) (stores_under w q) (contents_of l) (contents_of r) (retained_from rule o s p w l st.0) (retained_from rule o s q w r st.1),
  ),
)
retained_from rule o s (Then p q) w (a_join join.Then l r sides) st = (
  from_held o s (side w false p) (is_binding o p) (λ x. rule o p x) sides.left st.2.left,
  (
    from_held o s (side w true q) (is_binding o q) (λ x. rule o q x) sides.right st.2.right,
    retained_append o s (stores_under w p) (stores_under w q) (contents_of l) (contents_of r) (retained_from rule o s p w l st.0) (retained_from rule o s q w r st.1),
  ),
)
retained_from rule o s (Either p q) w (a_choice l r) st =
    retained_append o s (stores_under w p) (stores_under w q) (contents_of l) (contents_of r) (retained_from rule o s p w l st.0) (retained_from rule o s q w r st.1)
retained_from rule o s (Within p x) w (a_limit part) st = retained_from rule o s p (within w x) part st
retained_from rule o s (Between p x y) w (a_limit part) st = retained_from rule o s p (between w x y) part st
retained_from rule o s (Repeats p n) w (a_chain part count window held) st =
    retained_append o s (levels w p n) (stores_under w p) held (contents_of part) (from_all_levels rule o s w p n held st.3) (retained_from rule o s p w part st.0)
retained_from rule o s p w z st = absurd st

-- a row leaves the shape
both_same : (a b c d : Bool) → a ≡ c → b ≡ d → (a && b) ≡ (c && d)
both_same a b c d e f = cc

pub fits_step : (row : Row) (truths : List Bool) (p : NumberedPattern) (w : Bounds) (z : State) → state_fits w p (step_state row truths z) ≡ state_fits w p z
fits_step row truths (Leaf k) w (a_leaf leaf window) = refl
fits_step row truths (Both p q) w (a_join join.Both l r sides) =
    ap (λ b. b && have_windows sides (window_of w false) (window_of w false))
    (both_same (state_fits w p (step_state row truths l)) (state_fits w q (step_state row truths r)) (state_fits w p l) (state_fits w q r) (fits_step row truths p w l) (fits_step row truths q w r))
fits_step row truths (Then p q) w (a_join join.Then l r sides) =
    ap (λ b. b && have_windows sides (window_of w false) (window_of w true))
    (both_same (state_fits w p (step_state row truths l)) (state_fits w q (step_state row truths r)) (state_fits w p l) (state_fits w q r) (fits_step row truths p w l) (fits_step row truths q w r))
fits_step row truths (Either p q) w (a_choice l r) =
    both_same (state_fits w p (step_state row truths l)) (state_fits w q (step_state row truths r)) (state_fits w p l) (state_fits w q r) (fits_step row truths p w l) (fits_step row truths q w r)
fits_step row truths (Within p x) w (a_limit part) = fits_step row truths p (within w x) part
fits_step row truths (Between p x y) w (a_limit part) = fits_step row truths p (between w x y) part
fits_step row truths (Repeats p n) w (a_chain part count window held) =
    ap (λ b. (b && same_window window (window_of w false)) && (nat_eq count n && nat_eq (length (levels_after window row.last (map (held_with Single) (step_new row truths part)) (step_new row truths part) held)) (n - 1))) (fits_step row truths p w part)
    ∙ ap (λ m. (state_fits w p part && same_window window (window_of w false)) && (nat_eq count n && nat_eq m (n - 1))) (length_after window row.last (map (held_with Single) (step_new row truths part)) (step_new row truths part) held)
fits_step row truths p w z = refl

no_levels_length : (k : ℕ) → length (no_levels k) ≡ k
no_levels_length zero = refl
no_levels_length (suc k) = ap suc (no_levels_length k)

pub fits_empty : (p : NumberedPattern) (w : Bounds) → state_fits w p (empty_state w p) ≡ true
fits_empty (Leaf k) w = and_from _ _ (eq-eqb k k refl) (window_self (window_of w false))
fits_empty (Both p q) w = and_from _ _ (and_from _ _ (fits_empty p w) (fits_empty q w)) (and_from _ _ (window_self (window_of w false)) (window_self (window_of w false)))
fits_empty (Then p q) w = and_from _ _ (and_from _ _ (fits_empty p w) (fits_empty q w)) (and_from _ _ (window_self (window_of w false)) (window_self (window_of w true)))
fits_empty (Either p q) w = and_from _ _ (fits_empty p w) (fits_empty q w)
fits_empty (Within p x) w = fits_empty p (within w x)
fits_empty (Between p x y) w = fits_empty p (between w x y)
fits_empty (Repeats p n) w =
    and_from _ _ (and_from _ _ (fits_empty p w) (window_self (window_of w false)))
    (and_from _ _ (eq-eqb n n refl) (eq-eqb (length (no_levels (n - 1))) (n - 1) (no_levels_length (n - 1))))
