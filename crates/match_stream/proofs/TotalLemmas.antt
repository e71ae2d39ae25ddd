-- How much is retained at a node, and what of its parts is needed.
use Rattle.std.proofs.Common.{◌≡◌, ℕ, zero, suc, ◌+◌, ◌-◌, ◌≤◌, ◌<◌, ℤ, List, [], ◌∷◌, ◌++◌, length, refl, sym, ◌∙◌, ap, subst, arith, length-append}
use Rattle.std.specs.Prelude.{Bool, true, false, ◌&&◌, ◌||◌, not, map, filter, cond, int_lt, int_le}
use Rattle.std.specs.Int.{int_min, int_max}
use Rattle.std.specs.List.{list_any}
use Rattle.std.proofs.lemmas.Int.{ints}
use Rattle.std.proofs.lemmas.List.{length-map}
use Rattle.std.proofs.lemmas.List.Elements.{filter-append}
use Rattle.match_bindings.specs.BindTree.{BindTree, One, Pair, First, Second, Empty, Single, More, has, disjoint}
use Rattle.match_pruning.specs.declared.window.Window.{Window}
use Rattle.match_pruning.specs.declared.join.Join.{Join}
use Rattle.match_pruning.specs.declared.join.Join.TheVariants as join
use Rattle.match_pruning.specs.declared.row.Row.{Row}
use Rattle.match_pruning.specs.PartialMatchTree.{PartialMatchTree}
use Rattle.match_stream.specs.RetainedPart.{held_count}
use Rattle.match_pruning.specs.inner.Retains.{retains, is_ahead, lasts_at_most, ends_from_start}
use Rattle.match_pruning.specs.inner.Steps.{held_with, joined_matches, may_join, match_join_row, match_joins, kept, SideStores, State, a_join, a_choice, a_chain, sides_kept, sides_count, sides_stored, joins_both, levels_new, levels_after, all_levels, no_levels, levels_above, repeated_sets, step_new, step_state, contents_of}
use Rattle.match_pruning.specs.inner.Needed.{PendingLeftTrees, is_needed, needed, closed, pending_lefts_right, pending_lefts_part, needed_trees}
use Rattle.match_stream.specs.inner.Totals.{held_after, retained_at, AdmitsRight, AdmitLevels, Admits}
use Rattle.match_pruning.proofs.NeededLemmas.{needed_all}

-- ---- lists

held_append : (xs ys : List (List PartialMatchTree)) → held_count (xs ++ ys) ≡ held_count xs + held_count ys
held_append [] ys = omega arith
held_append (x ∷ xs) ys = omega (arith, held_append xs ys)

-- ---- what both sides of a node hold

pub held_join : (row : Row) (truths : List Bool) (j : Join) (l r : State) (s : SideStores) →
    held_after row truths (a_join j l r s)
    ≡ sides_count (sides_kept row.last s) + length (kept s.left_window row.last (step_new row truths l)) + length (kept s.right_window row.last (step_new row truths r))
    + (held_after row truths l + held_after row truths r)
held_join row truths j l r s =
    let t = row.last in
    omega (
      arith,
      held_append (contents_of (step_state row truths l)) (contents_of (step_state row truths r)),
      length-append (kept s.left_window t s.left) (kept s.left_window t (step_new row truths l)),
      length-append (kept s.right_window t s.right) (kept s.right_window t (step_new row truths r)),
    )

-- ---- what the store on the right keeps is needed

kept_some : (w : Window) (t : ℤ) (f : PartialMatchTree → Bool) (xs : List PartialMatchTree) → kept w t (filter (λ x. retains w x.earliest t || f x) xs) ≡ kept w t xs
kept_some w t f [] = refl
kept_some w t f (x ∷ xs) = by (retains w x.earliest t) (f x) refl refl (kept_some w t f xs) where
  by : (a b : Bool) → retains w x.earliest t ≡ a → f x ≡ b → kept w t (filter (λ x. retains w x.earliest t || f x) xs) ≡ kept w t xs →
      kept w t (filter (λ x. retains w x.earliest t || f x) (x ∷ xs)) ≡ kept w t (x ∷ xs)
  by true b ea eb ih = rw (ea, ea) (ap (λ z. x ∷ z) ih)
  by false true ea eb ih = rw (ea, eb, ea) ih
  by false false ea eb ih = rw (ea, eb) ih

pub kept_needed : (t : ℤ) (j : Join) (s : SideStores) (ahead : List PendingLeftTrees) (xs : List PartialMatchTree) →
    kept s.right_window t (needed t (pending_lefts_right j s ahead) xs) ≡ kept s.right_window t xs
kept_needed t join.Then s ahead xs = kept_some s.right_window t (λ p. list_any (λ l. may_join join.Then l p && is_needed t ahead (joined_matches join.Then l p)) s.left) xs
kept_needed t join.Both s ahead xs = ap (kept s.right_window t) (needed_all t xs)
kept_needed t join.Repeats s ahead xs = ap (kept s.right_window t) (needed_all t xs)

-- ---- what is joined_matches to something that is needed is needed

-- the test of a pair
abbrev pub pairs_up : ℤ → List PendingLeftTrees → Join → PartialMatchTree → PartialMatchTree → Bool
pairs_up t ahead j l p = may_join j l p && is_needed t ahead (joined_matches j l p)

or_more : (a b : Bool) → b ≡ true → (a || b) ≡ true
or_more true b h = refl
or_more false b h = h

or_first : (a b : Bool) → a ≡ true → (a || b) ≡ true
or_first a b h = rw h refl

row_needed : (t : ℤ) (ahead : List PendingLeftTrees) (j : Join) (l : PartialMatchTree) (g : PartialMatchTree → Bool) (xs : List PartialMatchTree) → ((p : PartialMatchTree) → pairs_up t ahead j l p ≡ true → g p ≡ true) →
    needed t ahead (match_join_row j l (filter g xs)) ≡ needed t ahead (match_join_row j l xs)
row_needed t ahead j l g [] h = refl
row_needed t ahead j l g (x ∷ xs) h = by (g x) (may_join j l x) (is_needed t ahead (joined_matches j l x)) refl refl refl (row_needed t ahead j l g xs h) where
  by : (a b c : Bool) → g x ≡ a → may_join j l x ≡ b → is_needed t ahead (joined_matches j l x) ≡ c →
      needed t ahead (match_join_row j l (filter g xs)) ≡ needed t ahead (match_join_row j l xs) →
      needed t ahead (match_join_row j l (filter g (x ∷ xs))) ≡ needed t ahead (match_join_row j l (x ∷ xs))
  by true true true ea eb ec ih = rw (ea, eb, ec) (ap (λ z. joined_matches j l x ∷ z) ih)
  by true true false ea eb ec ih = rw (ea, eb, ec) ih
  by true false c ea eb ec ih = rw (ea, eb) ih
  by false true true ea eb ec ih = absurd (let excludes : pairs_up t ahead j l x ≡ true = rw (eb, ec) refl in let no : true ≡ false = sym (h x excludes) ∙ ea in cc)
  by false true false ea eb ec ih = rw (ea, eb, ec) ih
  by false false c ea eb ec ih = rw (ea, eb) ih

some_needed : (t : ℤ) (ahead : List PendingLeftTrees) (j : Join) (g : PartialMatchTree → Bool) (ls xs : List PartialMatchTree) →
    ((p : PartialMatchTree) → list_any (λ l. pairs_up t ahead j l p) ls ≡ true → g p ≡ true) →
    needed t ahead (match_joins j ls (filter g xs)) ≡ needed t ahead (match_joins j ls xs)
some_needed t ahead j g [] xs h = refl
some_needed t ahead j g (l ∷ ls) xs h =
    filter-append (is_needed t ahead) (match_join_row j l (filter g xs)) (match_joins j ls (filter g xs))
    ∙ ap (λ z. z ++ needed t ahead (match_joins j ls (filter g xs))) (row_needed t ahead j l g xs (λ p k. h p (or_first (pairs_up t ahead j l p) (list_any (λ l. pairs_up t ahead j l p) ls) k)))
    ∙ ap (λ z. needed t ahead (match_join_row j l xs) ++ z) (some_needed t ahead j g ls xs (λ p k. h p (or_more (pairs_up t ahead j l p) (list_any (λ l. pairs_up t ahead j l p) ls) k)))
    ∙ sym (filter-append (is_needed t ahead) (match_join_row j l xs) (match_joins j ls xs))

pub joins_needed : (t : ℤ) (j : Join) (s : SideStores) (ahead : List PendingLeftTrees) (left right : List PartialMatchTree) →
    needed t ahead (joins_both j s left (needed t (pending_lefts_right j s ahead) right)) ≡ needed t ahead (joins_both j s left right)
joins_needed t j s ahead left right =
    filter-append (is_needed t ahead) (match_joins j left s.right) (match_joins j s.left (needed t (pending_lefts_right j s ahead) right))
    ∙ ap (λ z. needed t ahead (match_joins j left s.right) ++ z) (by j)
    ∙ sym (filter-append (is_needed t ahead) (match_joins j left s.right) (match_joins j s.left right)) where
      by : (j : Join) → needed t ahead (match_joins j s.left (needed t (pending_lefts_right j s ahead) right)) ≡ needed t ahead (match_joins j s.left right)
      by join.Then = some_needed t ahead join.Then (is_needed t (pending_lefts_right join.Then s ahead)) s.left right
          (λ p k. or_more (retains s.right_window p.earliest t) (list_any (λ l. pairs_up t ahead join.Then l p) s.left) k)
      by join.Both = ap (λ z. needed t ahead (match_joins join.Both s.left z)) (needed_all t right)
      by join.Repeats = ap (λ z. needed t ahead (match_joins join.Repeats s.left z)) (needed_all t right)

-- ---- and counts

-- one more on the right is joined_matches as often as something on the left pairs up with it
one_more : (t : ℤ) (ahead : List PendingLeftTrees) (j : Join) (ls : List PartialMatchTree) (x : PartialMatchTree) (xs : List PartialMatchTree) →
    length (needed t ahead (match_joins j ls xs)) + cond (list_any (λ l. pairs_up t ahead j l x) ls) 1 0 ≤ length (needed t ahead (match_joins j ls (x ∷ xs)))
one_more t ahead j [] x xs = omega arith
one_more t ahead j (l ∷ ls) x xs = by (may_join j l x) (is_needed t ahead (joined_matches j l x)) refl refl (one_more t ahead j ls x xs) where
  both : (ys : List PartialMatchTree) → length (needed t ahead (match_joins j (l ∷ ls) ys)) ≡ length (needed t ahead (match_join_row j l ys)) + length (needed t ahead (match_joins j ls ys))
  both ys = ap length (filter-append (is_needed t ahead) (match_join_row j l ys) (match_joins j ls ys)) ∙ length-append (needed t ahead (match_join_row j l ys)) (needed t ahead (match_joins j ls ys))

  at_most : (a : Bool) → cond a 1 0 ≤ 1
  at_most true = omega arith
  at_most false = omega arith

  by : (a b : Bool) → may_join j l x ≡ a → is_needed t ahead (joined_matches j l x) ≡ b →
      length (needed t ahead (match_joins j ls xs)) + cond (list_any (λ l. pairs_up t ahead j l x) ls) 1 0 ≤ length (needed t ahead (match_joins j ls (x ∷ xs))) →
      length (needed t ahead (match_joins j (l ∷ ls) xs)) + cond (list_any (λ l. pairs_up t ahead j l x) (l ∷ ls)) 1 0 ≤ length (needed t ahead (match_joins j (l ∷ ls) (x ∷ xs)))
  by true true ea eb ih =
      let row : length (needed t ahead (match_join_row j l (x ∷ xs))) ≡ suc (length (needed t ahead (match_join_row j l xs))) = rw (ea, eb) refl in
      let most = at_most (list_any (λ l. pairs_up t ahead j l x) (l ∷ ls)) in
      omega (arith, both xs, both (x ∷ xs), row, ih, most)
  by true false ea eb ih =
      let row : length (needed t ahead (match_join_row j l (x ∷ xs))) ≡ length (needed t ahead (match_join_row j l xs)) = rw (ea, eb) refl in
      let same : list_any (λ l. pairs_up t ahead j l x) (l ∷ ls) ≡ list_any (λ l. pairs_up t ahead j l x) ls = rw (ea, eb) refl in
      let bit : cond (list_any (λ l. pairs_up t ahead j l x) (l ∷ ls)) 1 0 ≡ cond (list_any (λ l. pairs_up t ahead j l x) ls) 1 0 = ap {B = ℕ} (λ z. cond z 1 0) same in
      omega (arith, both xs, both (x ∷ xs), row, ih, bit)
  by false b ea eb ih =
      let row : length (needed t ahead (match_join_row j l (x ∷ xs))) ≡ length (needed t ahead (match_join_row j l xs)) = rw ea refl in
      let same : list_any (λ l. pairs_up t ahead j l x) (l ∷ ls) ≡ list_any (λ l. pairs_up t ahead j l x) ls = rw ea refl in
      let bit : cond (list_any (λ l. pairs_up t ahead j l x) (l ∷ ls)) 1 0 ≡ cond (list_any (λ l. pairs_up t ahead j l x) ls) 1 0 = ap {B = ℕ} (λ z. cond z 1 0) same in
      omega (arith, both xs, both (x ∷ xs), row, ih, bit)

after_left_count : (t : ℤ) (ahead : List PendingLeftTrees) (w : Window) (ls xs : List PartialMatchTree) →
    length (filter (λ p. retains w p.earliest t || list_any (λ l. pairs_up t ahead join.Then l p) ls) xs) ≤ length (kept w t xs) + length (needed t ahead (match_joins join.Then ls xs))
after_left_count t ahead w ls [] = omega arith
after_left_count t ahead w ls (x ∷ xs) = by (retains w x.earliest t) (list_any (λ l. pairs_up t ahead join.Then l x) ls) refl refl (after_left_count t ahead w ls xs) (one_more t ahead join.Then ls x xs) where
  by : (a b : Bool) → retains w x.earliest t ≡ a → list_any (λ l. pairs_up t ahead join.Then l x) ls ≡ b →
      length (filter (λ p. retains w p.earliest t || list_any (λ l. pairs_up t ahead join.Then l p) ls) xs) ≤ length (kept w t xs) + length (needed t ahead (match_joins join.Then ls xs)) →
      length (needed t ahead (match_joins join.Then ls xs)) + cond (list_any (λ l. pairs_up t ahead join.Then l x) ls) 1 0 ≤ length (needed t ahead (match_joins join.Then ls (x ∷ xs))) →
      length (filter (λ p. retains w p.earliest t || list_any (λ l. pairs_up t ahead join.Then l p) ls) (x ∷ xs)) ≤ length (kept w t (x ∷ xs)) + length (needed t ahead (match_joins join.Then ls (x ∷ xs)))
  by true b ea eb ih more =
      let one : length (filter (λ p. retains w p.earliest t || list_any (λ l. pairs_up t ahead join.Then l p) ls) (x ∷ xs))
      ≡ suc (length (filter (λ p. retains w p.earliest t || list_any (λ l. pairs_up t ahead join.Then l p) ls) xs)) = rw ea refl in
      let two : length (kept w t (x ∷ xs)) ≡ suc (length (kept w t xs)) = rw ea refl in
      omega (arith, one, two, ih, more)
  by false true ea eb ih more =
      let one : length (filter (λ p. retains w p.earliest t || list_any (λ l. pairs_up t ahead join.Then l p) ls) (x ∷ xs))
      ≡ suc (length (filter (λ p. retains w p.earliest t || list_any (λ l. pairs_up t ahead join.Then l p) ls) xs)) = rw (ea, eb) refl in
      let two : length (kept w t (x ∷ xs)) ≡ length (kept w t xs) = rw ea refl in
      let bit = ap {B = ℕ} (λ z. cond z 1 0) eb in
      omega (arith, one, two, ih, more, bit)
  by false false ea eb ih more =
      let one : length (filter (λ p. retains w p.earliest t || list_any (λ l. pairs_up t ahead join.Then l p) ls) (x ∷ xs))
      ≡ length (filter (λ p. retains w p.earliest t || list_any (λ l. pairs_up t ahead join.Then l p) ls) xs) = rw (ea, eb) refl in
      let two : length (kept w t (x ∷ xs)) ≡ length (kept w t xs) = rw ea refl in
      omega (arith, one, two, ih, more)

-- what is needed on the right is kept there, or is part of what is new at the node
pub right_count : (t : ℤ) (j : Join) (s : SideStores) (ahead : List PendingLeftTrees) (left right : List PartialMatchTree) → AdmitsRight j s.right_window t right →
    length (needed t (pending_lefts_right j s ahead) right) ≤ length (kept s.right_window t right) + length (needed t ahead (joins_both j s left right))
right_count t j s ahead left right a =
    let both = ap length (filter-append (is_needed t ahead) (match_joins j left s.right) (match_joins j s.left right))
    ∙ length-append (needed t ahead (match_joins j left s.right)) (needed t ahead (match_joins j s.left right)) in
    omega (arith, both, by j a) where
      by : (j : Join) → AdmitsRight j s.right_window t right →
          length (needed t (pending_lefts_right j s ahead) right) ≤ length (kept s.right_window t right) + length (needed t ahead (match_joins j s.left right))
      by join.Then a = after_left_count t ahead s.right_window s.left right
      by join.Both a = let same = ap length a in let all = ap length (needed_all t right) in omega (arith, same, all)
      by join.Repeats a = let same = ap length a in let all = ap length (needed_all t right) in omega (arith, same, all)

-- ---- what is needed goes by times and numbers

apart_from : (t a : BindTree) → (b : BindTree) → disjoint t (Pair a b) ≡ (disjoint t a && disjoint t b)
apart_from (One n) a b = not_or (has n a) (has n b) where
  not_or : (x y : Bool) → not (x || y) ≡ (not x && not y)
  not_or true y = refl
  not_or false y = refl
apart_from (Pair x y) a b = let e = apart_from x a b in let f = apart_from y a b in rw (e, f) (regroup (disjoint x a) (disjoint x b) (disjoint y a) (disjoint y b)) where
  regroup : (p q r s : Bool) → ((p && q) && (r && s)) ≡ ((p && r) && (q && s))
  regroup true true r s = (by r s) where
    by : (r s : Bool) → (r && s) ≡ ((true && r) && (true && s))
    by true s = refl
    by false s = refl
  regroup true false true s = refl
  regroup true false false s = refl
  regroup false q r s = refl
apart_from (First x) a b = apart_from x a b
apart_from (Second x) a b = apart_from x a b
apart_from Empty a b = refl
apart_from (Single x) a b = apart_from x a b
apart_from (More x y) a b = let e = apart_from x a b in let f = apart_from y a b in rw (e, f) (regroup (disjoint x a) (disjoint x b) (disjoint y a) (disjoint y b)) where
  regroup : (p q r s : Bool) → ((p && q) && (r && s)) ≡ ((p && r) && (q && s))
  regroup true true true s = refl
  regroup true true false s = refl
  regroup true false true s = refl
  regroup true false false s = refl
  regroup false q r s = refl

-- the same for every test
pub record Alike (p q : PartialMatchTree) : Type 0 where
  pub early : p.earliest ≡ q.earliest
  pub late : p.latest ≡ q.latest
  pub apart : (t : BindTree) → disjoint t p.tree ≡ disjoint t q.tree

any_agree : (f g : PartialMatchTree → Bool) → ((x : PartialMatchTree) → f x ≡ g x) → (xs : List PartialMatchTree) → list_any f xs ≡ list_any g xs
any_agree f g h [] = refl
any_agree f g h (x ∷ xs) = let one = h x in let rest = any_agree f g h xs in rw (one, rest) refl

joined_alike : (l p q : PartialMatchTree) → Alike p q → Alike (joined_matches join.Then l p) (joined_matches join.Then l q)
joined_alike l p q h = record {
  early = ap (int_min l.earliest) h.early;
  late = ap (int_max l.latest) h.late;
  apart = λ u. apart_from u l.tree p.tree ∙ ap (λ z. disjoint u l.tree && z) (h.apart u) ∙ sym (apart_from u l.tree q.tree);
}

pub needed_alike : (t : ℤ) (ahead : List PendingLeftTrees) (p q : PartialMatchTree) → Alike p q → is_needed t ahead p ≡ is_needed t ahead q
needed_alike t [] p q h = refl
needed_alike t (a ∷ ahead) p q h =
    ap (λ z. retains a.window z t || list_any (λ l. may_join join.Then l p && is_needed t ahead (joined_matches join.Then l p)) a.left) h.early
    ∙ ap (λ z. retains a.window q.earliest t || z)
    (any_agree (λ l. may_join join.Then l p && is_needed t ahead (joined_matches join.Then l p)) (λ l. may_join join.Then l q && is_needed t ahead (joined_matches join.Then l q))
    (λ l.
    ap (λ z. (int_le l.latest z && disjoint l.tree p.tree) && is_needed t ahead (joined_matches join.Then l p)) h.early
    ∙ ap (λ z. (int_le l.latest q.earliest && z) && is_needed t ahead (joined_matches join.Then l p)) (h.apart l.tree)
    ∙ ap (λ z. may_join join.Then l q && z) (needed_alike t ahead (joined_matches join.Then l p) (joined_matches join.Then l q) (joined_alike l p q h))) a.left)

-- under a constructor that has the numbers of its part
pub needed_under : (t : ℤ) (ahead : List PendingLeftTrees) (mk : BindTree → BindTree) → ((u x : BindTree) → disjoint u (mk x) ≡ disjoint u x) → (xs : List PartialMatchTree) →
    needed t ahead (map (held_with mk) xs) ≡ map (held_with mk) (needed t ahead xs)
needed_under t ahead mk h [] = refl
needed_under t ahead mk h (x ∷ xs) =
    ap (λ z. cond (is_needed t ahead (held_with mk x)) (held_with mk x ∷ z) z) (needed_under t ahead mk h xs)
    ∙ ap (λ b. cond b (held_with mk x ∷ map (held_with mk) (needed t ahead xs)) (map (held_with mk) (needed t ahead xs)))
    (needed_alike t ahead (held_with mk x) x (record { early = refl; late = refl; apart = λ u. h u x.tree }))
    ∙ by (is_needed t ahead x) where
      by : (b : Bool) → cond b (held_with mk x ∷ map (held_with mk) (needed t ahead xs)) (map (held_with mk) (needed t ahead xs))
          ≡ map (held_with mk) (cond b (x ∷ needed t ahead xs) (needed t ahead xs))
      by true = refl
      by false = refl

pub first_apart : (u x : BindTree) → disjoint u (First x) ≡ disjoint u x
first_apart (One n) x = refl
first_apart (Pair a b) x = let e = first_apart a x in let f = first_apart b x in rw (e, f) refl
first_apart (First a) x = first_apart a x
first_apart (Second a) x = first_apart a x
first_apart Empty x = refl
first_apart (Single a) x = first_apart a x
first_apart (More a b) x = let e = first_apart a x in let f = first_apart b x in rw (e, f) refl

pub second_apart : (u x : BindTree) → disjoint u (Second x) ≡ disjoint u x
second_apart (One n) x = refl
second_apart (Pair a b) x = let e = second_apart a x in let f = second_apart b x in rw (e, f) refl
second_apart (First a) x = second_apart a x
second_apart (Second a) x = second_apart a x
second_apart Empty x = refl
second_apart (Single a) x = second_apart a x
second_apart (More a b) x = let e = second_apart a x in let f = second_apart b x in rw (e, f) refl

pub single_apart : (u x : BindTree) → disjoint u (Single x) ≡ disjoint u x
single_apart (One n) x = refl
single_apart (Pair a b) x = let e = single_apart a x in let f = single_apart b x in rw (e, f) refl
single_apart (First a) x = single_apart a x
single_apart (Second a) x = single_apart a x
single_apart Empty x = refl
single_apart (Single a) x = single_apart a x
single_apart (More a b) x = let e = single_apart a x in let f = single_apart b x in rw (e, f) refl

pub either_needed : (t : ℤ) (ahead : List PendingLeftTrees) (left right : List PartialMatchTree) →
    map (held_with First) (needed t ahead left) ++ map (held_with Second) (needed t ahead right) ≡ needed t ahead (map (held_with First) left ++ map (held_with Second) right)
either_needed t ahead left right =
    ap (λ z. z ++ map (held_with Second) (needed t ahead right)) (sym (needed_under t ahead First first_apart left))
    ∙ ap (λ z. needed t ahead (map (held_with First) left) ++ z) (sym (needed_under t ahead Second second_apart right))
    ∙ sym (filter-append (is_needed t ahead) (map (held_with First) left) (map (held_with Second) right))

pub either_count : (t : ℤ) (ahead : List PendingLeftTrees) (left right : List PartialMatchTree) →
    length (needed t ahead (map (held_with First) left ++ map (held_with Second) right)) ≡ length (needed t ahead left) + length (needed t ahead right)
either_count t ahead left right =
    let whole = ap length (sym (either_needed t ahead left right)) ∙ length-append (map (held_with First) (needed t ahead left)) (map (held_with Second) (needed t ahead right)) in
    omega (arith, whole, length-map (needed t ahead left) (held_with First), length-map (needed t ahead right) (held_with Second))

pub held_choice : (row : Row) (truths : List Bool) (l r : State) → held_after row truths (a_choice l r) ≡ held_after row truths l + held_after row truths r
held_choice row truths l r = held_append (contents_of (step_state row truths l)) (contents_of (step_state row truths r))

-- ---- what is repeated

-- nothing is needed after left a window that is closed
now_isnt : (t : ℤ) → int_lt t t ≡ false
now_isnt t = grind (arith, ints)

pub closed_needed : (t : ℤ) (w : Window) (ahead : List PendingLeftTrees) (xs : List PartialMatchTree) → needed t (record { left = []; window = closed w t } ∷ ahead) xs ≡ []
closed_needed t w ahead [] = refl
closed_needed t w ahead (x ∷ xs) =
    let no = gone (is_ahead w.after_left x.earliest t) (lasts_at_most w.seconds x.earliest t) (ends_from_start w.start x.earliest) (int_lt t t) (now_isnt t) in
    rw no (closed_needed t w ahead xs) where
      gone : (a b c d : Bool) → d ≡ false → ((a && (b && (c && d))) || false) ≡ false
      gone true true true d h = rw h refl
      gone true true false d h = refl
      gone true false c d h = refl
      gone false b c d h = refl

few_none : (xs : List (List PartialMatchTree)) → length xs ≤ 0 → xs ≡ []
few_none [] h = refl
few_none (x ∷ xs) h = absurd (omega arith)

-- what is new at a level, what is held there and what is needed_trees, given what is needed of the part
pub part_after : (w : Window) (t : ℤ) (count : ℕ) (ahead : List PendingLeftTrees) (new : List PartialMatchTree) (xs : List (List PartialMatchTree)) → length xs ≤ count - 1 →
    levels_after w t (map (held_with Single) (needed t (pending_lefts_part count w t ahead) new)) (needed t (pending_lefts_part count w t ahead) new) (all_levels count xs)
    ≡ levels_after w t (map (held_with Single) new) new (all_levels count xs)
part_after w t zero ahead new xs few = let none = few_none xs (omega (arith, few)) in rw none refl
part_after w t (suc zero) ahead new xs few = let none = few_none xs (omega (arith, few)) in rw none refl
part_after w t (suc (suc k)) ahead new xs few = ap (λ z. levels_after w t (map (held_with Single) z) z (all_levels (suc (suc k)) xs)) (needed_all t new)

pub part_new : (w : Window) (t : ℤ) (count : ℕ) (ahead : List PendingLeftTrees) (new : List PartialMatchTree) (xs : List (List PartialMatchTree)) → length xs ≤ count - 1 →
    needed_trees count t ahead (levels_new w t (map (held_with Single) (needed t (pending_lefts_part count w t ahead) new)) (needed t (pending_lefts_part count w t ahead) new) (all_levels count xs))
    ≡ needed t ahead (repeated_sets count (levels_new w t (map (held_with Single) new) new (all_levels count xs)))
part_new w t zero ahead new xs few = refl
part_new w t (suc zero) ahead new xs few =
    let none = few_none xs (omega (arith, few)) in
    rw none (sym (needed_under t ahead Single single_apart new))
part_new w t (suc (suc k)) ahead new xs few =
    ap (λ z. needed t ahead (levels_new w t (map (held_with Single) z) z (all_levels (suc (suc k)) xs))) (needed_all t new)

-- what is needed of the part is held at the first level, or is needed_trees
pub part_count : (w : Window) (t : ℤ) (count : ℕ) (ahead : List PendingLeftTrees) (new : List PartialMatchTree) (xs : List (List PartialMatchTree)) → length xs ≤ count - 1 →
    AdmitLevels w t (map (held_with Single) new) new (all_levels count xs) →
    length (needed t (pending_lefts_part count w t ahead) new)
    ≤ held_count (levels_after w t (map (held_with Single) new) new (all_levels count xs))
    + length (needed t ahead (repeated_sets count (levels_new w t (map (held_with Single) new) new (all_levels count xs))))
part_count w t zero ahead new xs few a = let none = ap length (closed_needed t w ahead new) in omega (arith, none)
part_count w t (suc zero) ahead new xs few a =
    let none = few_none xs (omega (arith, few)) in
    let same = ap length (part_new w t 1 ahead new xs few) in
    let top : length (levels_new w t (map (held_with Single) (needed t ahead new)) (needed t ahead new) (all_levels 1 xs)) ≡ length (needed t ahead new)
    = rw none (length-map (needed t ahead new) (held_with Single)) in
    omega (arith, same, top)
part_count w t (suc (suc k)) ahead new [] few a =
    let some : levels_above (suc (suc k)) [] ≡ suc k = omega arith in
    let b = subst (λ (z : ℕ). AdmitLevels w t (map (held_with Single) new) new (no_levels z)) some a in
    let same = ap length b.0 in
    let all = ap length (needed_all t new) in
    let held = ap (λ z. held_count (levels_after w t (map (held_with Single) new) new (no_levels z))) some in
    omega (arith, same, all, held, length-map new (held_with Single))
part_count w t (suc (suc k)) ahead new (x ∷ xs) few a =
    let same = ap length a.0 in
    let all = ap length (needed_all t new) in
    omega (arith, same, all, length-map new (held_with Single), length-append (kept w t x) (kept w t (map (held_with Single) new)))

pub part_admits : (w : Window) (t : ℤ) (count : ℕ) (ahead : List PendingLeftTrees) (new : List PartialMatchTree) (xs : List (List PartialMatchTree)) → length xs ≤ count - 1 →
    AdmitLevels w t (map (held_with Single) new) new (all_levels count xs) →
    AdmitLevels w t (map (held_with Single) (needed t (pending_lefts_part count w t ahead) new)) (needed t (pending_lefts_part count w t ahead) new) (all_levels count xs)
part_admits w t zero ahead new xs few a = let none = few_none xs (omega (arith, few)) in rw none tt
part_admits w t (suc zero) ahead new xs few a = let none = few_none xs (omega (arith, few)) in rw none tt
part_admits w t (suc (suc k)) ahead new xs few a =
    subst (λ (z : List PartialMatchTree). AdmitLevels w t (map (held_with Single) z) z (all_levels (suc (suc k)) xs)) (sym (needed_all t new)) a

pub held_chain : (row : Row) (truths : List Bool) (part : State) (count : ℕ) (w : Window) (levels : List (List PartialMatchTree)) →
    held_after row truths (a_chain part count w levels)
    ≡ held_count (levels_after w row.last (map (held_with Single) (step_new row truths part)) (step_new row truths part) levels) + held_after row truths part
held_chain row truths part count w levels =
    held_append (levels_after w row.last (map (held_with Single) (step_new row truths part)) (step_new row truths part) levels) (contents_of (step_state row truths part))

-- ---- a node that match_joins two sides, step by step: what its stores keep, what is new on the left and held there, the same on the right

module _ (row : Row) (truths : List Bool) (ahead : List PendingLeftTrees) (j : Join) (l r z : State) (s k m : SideStores) (is : z ≡ a_join j l r s) (kept_is : k ≡ sides_kept row.last s) (same : m ≡ k) where
  join_held : held_after row truths z
      ≡ sides_count (sides_kept row.last s) + length (kept s.left_window row.last (step_new row truths l)) + length (kept s.right_window row.last (step_new row truths r))
      + (held_after row truths l + held_after row truths r)
  join_held = ap (held_after row truths) is ∙ held_join row truths j l r s

  join_new : length (needed row.last ahead (step_new row truths z)) ≡ length (needed row.last ahead (joins_both j (sides_kept row.last s) (step_new row truths l) (step_new row truths r)))
  join_new = ap (λ y. length (needed row.last ahead (step_new row truths y))) is

  join_admits : Admits row truths z → Admits row truths (a_join j l r s)
  join_admits a = subst (Admits row truths) is a

  left_kept : (nl : List PartialMatchTree) → nl ≡ needed row.last [] (step_new row truths l) → length (kept k.left_window row.last nl) ≡ length (kept s.left_window row.last (step_new row truths l))
  left_kept nl e = ap (λ y. length (kept y.left_window row.last nl)) kept_is ∙ ap (λ y. length (kept s.left_window row.last y)) (e ∙ needed_all row.last (step_new row truths l))

  right_is : (nr : List PartialMatchTree) → nr ≡ needed row.last (pending_lefts_right j k ahead) (step_new row truths r) → nr ≡ needed row.last (pending_lefts_right j (sides_kept row.last s) ahead) (step_new row truths r)
  right_is nr e = e ∙ ap (λ y. needed row.last (pending_lefts_right j y ahead) (step_new row truths r)) kept_is

  right_kept : (nr : List PartialMatchTree) → nr ≡ needed row.last (pending_lefts_right j k ahead) (step_new row truths r) → kept m.right_window row.last nr ≡ kept s.right_window row.last (step_new row truths r)
  right_kept nr e =
      ap (λ y. kept y.right_window row.last nr) (same ∙ kept_is)
      ∙ ap (kept s.right_window row.last) (right_is nr e)
      ∙ kept_needed row.last j (sides_kept row.last s) ahead (step_new row truths r)

  pub over_left : Admits row truths z → (budget room1 : ℕ) → room1 + sides_count (sides_kept row.last s) ≡ budget →
      (Admits row truths l → room1 < retained_at row truths [] l) → budget < retained_at row truths ahead z
  over_left a budget room1 e over =
      let b = join_admits a in
      let same_left = ap length b.2 in
      let all = ap length (needed_all row.last (step_new row truths l)) in
      omega (arith, join_held, over b.0, e, same_left, all)

  pub over_left_held : (nl : List PartialMatchTree) → nl ≡ needed row.last [] (step_new row truths l) → (budget room1 room2 : ℕ) → room1 + sides_count (sides_kept row.last s) ≡ budget →
      room2 + held_after row truths l ≡ room1 → room2 < length (kept k.left_window row.last nl) → budget < retained_at row truths ahead z
  over_left_held nl f budget room1 room2 e e1 over = omega (arith, join_held, over, e, e1, left_kept nl f)

  pub over_right : (nl : List PartialMatchTree) → nl ≡ needed row.last [] (step_new row truths l) → Admits row truths z → (budget room1 room2 room3 : ℕ) → room1 + sides_count (sides_kept row.last s) ≡ budget →
      room2 + held_after row truths l ≡ room1 → room3 + length (kept k.left_window row.last nl) ≡ room2 →
      (Admits row truths r → room3 < retained_at row truths (pending_lefts_right j k ahead) r) → budget < retained_at row truths ahead z
  over_right nl f a budget room1 room2 room3 e e1 e2 over =
      let b = join_admits a in
      let most = right_count row.last j (sides_kept row.last s) ahead (step_new row truths l) (step_new row truths r) b.3 in
      let right = ap (λ y. length (needed row.last (pending_lefts_right j y ahead) (step_new row truths r))) kept_is in
      omega (arith, join_held, join_new, over b.1, e, e1, e2, left_kept nl f, most, right)

  pub over_right_held : (nl nr : List PartialMatchTree) → nl ≡ needed row.last [] (step_new row truths l) → nr ≡ needed row.last (pending_lefts_right j k ahead) (step_new row truths r) →
      (budget room1 room2 room3 room4 : ℕ) → room1 + sides_count (sides_kept row.last s) ≡ budget → room2 + held_after row truths l ≡ room1 →
      room3 + length (kept k.left_window row.last nl) ≡ room2 → room4 + held_after row truths r ≡ room3 →
      room4 < length (kept m.right_window row.last nr) → budget < retained_at row truths ahead z
  over_right_held nl nr f g budget room1 room2 room3 room4 e e1 e2 e3 over =
      let right = ap length (right_kept nr g) in
      omega (arith, join_held, over, e, e1, e2, e3, left_kept nl f, right)

  pub join_is : (nl nr : List PartialMatchTree) → nl ≡ needed row.last [] (step_new row truths l) → nr ≡ needed row.last (pending_lefts_right j k ahead) (step_new row truths r) →
      needed row.last ahead (joins_both j m nl nr) ≡ needed row.last ahead (step_new row truths z)
  join_is nl nr f g =
      ap (λ y. needed row.last ahead (joins_both j y nl nr)) (same ∙ kept_is)
      ∙ ap (λ y. needed row.last ahead (joins_both j (sides_kept row.last s) y nr)) (f ∙ needed_all row.last (step_new row truths l))
      ∙ ap (λ y. needed row.last ahead (joins_both j (sides_kept row.last s) (step_new row truths l) y)) (right_is nr g)
      ∙ joins_needed row.last j (sides_kept row.last s) ahead (step_new row truths l) (step_new row truths r)
      ∙ sym (ap (λ y. needed row.last ahead (step_new row truths y)) is)

  pub join_counted : (nl nr : List PartialMatchTree) → nl ≡ needed row.last [] (step_new row truths l) → nr ≡ needed row.last (pending_lefts_right j k ahead) (step_new row truths r) →
      (budget room1 room2 room3 room4 room5 : ℕ) → room1 + sides_count (sides_kept row.last s) ≡ budget → room2 + held_after row truths l ≡ room1 →
      room3 + length (kept k.left_window row.last nl) ≡ room2 → room4 + held_after row truths r ≡ room3 → room5 + length (kept m.right_window row.last nr) ≡ room4 →
      room5 + held_after row truths z ≡ budget
  join_counted nl nr f g budget room1 room2 room3 room4 room5 e e1 e2 e3 e4 =
      let right = ap length (right_kept nr g) in
      omega (arith, join_held, e, e1, e2, e3, e4, left_kept nl f, right)

  pub join_kept : (nl nr : List PartialMatchTree) → nl ≡ needed row.last [] (step_new row truths l) → nr ≡ needed row.last (pending_lefts_right j k ahead) (step_new row truths r) →
      (l' r' : State) (s' : SideStores) → l' ≡ step_state row truths l → r' ≡ step_state row truths r → s' ≡ sides_stored row.last m nl nr →
      a_join j l' r' s' ≡ step_state row truths z
  join_kept nl nr f g l' r' s' el er es =
      ap (λ y. a_join j y r' s') el ∙ ap (λ y. a_join j (step_state row truths l) y s') er
      ∙ ap (a_join j (step_state row truths l) (step_state row truths r))
      (es ∙ ap (λ y. sides_stored row.last y nl nr) (same ∙ kept_is)
      ∙ ap (λ y. sides_stored row.last (sides_kept row.last s) y nr) (f ∙ needed_all row.last (step_new row truths l))
      ∙ ap (λ y. record { left = kept s.left_window row.last s.left ++ kept s.left_window row.last (step_new row truths l); right = kept s.right_window row.last s.right ++ y; left_window = s.left_window; right_window = s.right_window })
      (ap (kept s.right_window row.last) (right_is nr g) ∙ kept_needed row.last j (sides_kept row.last s) ahead (step_new row truths r)))
      ∙ sym (ap (step_state row truths) is)

-- ---- a choice

module _ (row : Row) (truths : List Bool) (ahead : List PendingLeftTrees) (l r z : State) (is : z ≡ a_choice l r) where
  choice_held : held_after row truths z ≡ held_after row truths l + held_after row truths r
  choice_held = ap (held_after row truths) is ∙ held_choice row truths l r

  choice_new : length (needed row.last ahead (step_new row truths z)) ≡ length (needed row.last ahead (step_new row truths l)) + length (needed row.last ahead (step_new row truths r))
  choice_new = ap (λ y. length (needed row.last ahead (step_new row truths y))) is ∙ either_count row.last ahead (step_new row truths l) (step_new row truths r)

  pub over_first : Admits row truths z → (budget n : ℕ) → (Admits row truths l → budget < n + retained_at row truths ahead l) → budget < n + retained_at row truths ahead z
  over_first a budget n over = omega (arith, choice_held, choice_new, over (subst (Admits row truths) is a).0)

  pub over_second : Admits row truths z → (budget room1 n : ℕ) → room1 + held_after row truths l ≡ budget →
      (Admits row truths r → room1 < (n + length (needed row.last ahead (step_new row truths l))) + retained_at row truths ahead r) → budget < n + retained_at row truths ahead z
  over_second a budget room1 n e over = omega (arith, choice_held, choice_new, e, over (subst (Admits row truths) is a).1)

  pub choice_is : (nl nr : List PartialMatchTree) → nl ≡ needed row.last ahead (step_new row truths l) → nr ≡ needed row.last ahead (step_new row truths r) →
      map (held_with First) nl ++ map (held_with Second) nr ≡ needed row.last ahead (step_new row truths z)
  choice_is nl nr f g =
      ap (λ y. map (held_with First) y ++ map (held_with Second) nr) f
      ∙ ap (λ y. map (held_with First) (needed row.last ahead (step_new row truths l)) ++ map (held_with Second) y) g
      ∙ either_needed row.last ahead (step_new row truths l) (step_new row truths r)
      ∙ sym (ap (λ y. needed row.last ahead (step_new row truths y)) is)

  pub choice_counted : (budget room1 room2 : ℕ) → room1 + held_after row truths l ≡ budget → room2 + held_after row truths r ≡ room1 → room2 + held_after row truths z ≡ budget
  choice_counted budget room1 room2 e e1 = omega (arith, choice_held, e, e1)

-- ---- what is repeated

module _ (row : Row) (truths : List Bool) (ahead : List PendingLeftTrees) (part z : State) (count : ℕ) (w : Window) (xs : List (List PartialMatchTree)) (is : z ≡ a_chain part count w (all_levels count xs))
    (few : length xs ≤ count - 1) where
  chain_held : held_after row truths z
      ≡ held_count (levels_after w row.last (map (held_with Single) (step_new row truths part)) (step_new row truths part) (all_levels count xs)) + held_after row truths part
  chain_held = ap (held_after row truths) is ∙ held_chain row truths part count w (all_levels count xs)

  chain_new : length (needed row.last ahead (step_new row truths z))
      ≡ length (needed row.last ahead (repeated_sets count (levels_new w row.last (map (held_with Single) (step_new row truths part)) (step_new row truths part) (all_levels count xs))))
  chain_new = ap (λ y. length (needed row.last ahead (step_new row truths y))) is

  pub over_part : Admits row truths z → (budget : ℕ) → (Admits row truths part → budget < retained_at row truths (pending_lefts_part count w row.last ahead) part) → budget < retained_at row truths ahead z
  over_part a budget over =
      let b = subst (Admits row truths) is a in
      omega (arith, chain_held, chain_new, over b.0, part_count w row.last count ahead (step_new row truths part) xs few b.1)

  pub over_levels : (new : List PartialMatchTree) → new ≡ needed row.last (pending_lefts_part count w row.last ahead) (step_new row truths part) → Admits row truths z → (budget room1 : ℕ) →
      room1 + held_after row truths part ≡ budget →
      (AdmitLevels w row.last (map (held_with Single) new) new (all_levels count xs) →
      room1 < held_count (levels_after w row.last (map (held_with Single) new) new (all_levels count xs))
      + length (needed_trees count row.last ahead (levels_new w row.last (map (held_with Single) new) new (all_levels count xs)))) →
      budget < retained_at row truths ahead z
  over_levels new f a budget room1 e over =
      let b = subst (Admits row truths) is a in
      let c = part_admits w row.last count ahead (step_new row truths part) xs few b.1 in
      let d = over (subst (λ (y : List PartialMatchTree). AdmitLevels w row.last (map (held_with Single) y) y (all_levels count xs)) (sym f) c) in
      let held = ap (λ y. held_count (levels_after w row.last (map (held_with Single) y) y (all_levels count xs))) f ∙ ap held_count (part_after w row.last count ahead (step_new row truths part) xs few) in
      let new_is = ap (λ y. length (needed_trees count row.last ahead (levels_new w row.last (map (held_with Single) y) y (all_levels count xs)))) f
      ∙ ap length (part_new w row.last count ahead (step_new row truths part) xs few) in
      omega (arith, chain_held, chain_new, d, e, held, new_is)

  pub chain_is : (new : List PartialMatchTree) → new ≡ needed row.last (pending_lefts_part count w row.last ahead) (step_new row truths part) →
      needed_trees count row.last ahead (levels_new w row.last (map (held_with Single) new) new (all_levels count xs)) ≡ needed row.last ahead (step_new row truths z)
  chain_is new f =
      ap (λ y. needed_trees count row.last ahead (levels_new w row.last (map (held_with Single) y) y (all_levels count xs))) f
      ∙ part_new w row.last count ahead (step_new row truths part) xs few
      ∙ sym (ap (λ y. needed row.last ahead (step_new row truths y)) is)

  pub chain_counted : (new : List PartialMatchTree) → new ≡ needed row.last (pending_lefts_part count w row.last ahead) (step_new row truths part) → (budget room1 room2 : ℕ) →
      room1 + held_after row truths part ≡ budget → room2 + held_count (levels_after w row.last (map (held_with Single) new) new (all_levels count xs)) ≡ room1 →
      room2 + held_after row truths z ≡ budget
  chain_counted new f budget room1 room2 e e1 =
      let held = ap (λ y. held_count (levels_after w row.last (map (held_with Single) y) y (all_levels count xs))) f ∙ ap held_count (part_after w row.last count ahead (step_new row truths part) xs few) in
      omega (arith, chain_held, e, e1, held)

  pub chain_kept : (new : List PartialMatchTree) → new ≡ needed row.last (pending_lefts_part count w row.last ahead) (step_new row truths part) → (part' : State) (count' : ℕ) (w' : Window) (levels' : List (List PartialMatchTree)) →
      part' ≡ step_state row truths part → count' ≡ count → w' ≡ w → levels' ≡ levels_after w row.last (map (held_with Single) new) new (all_levels count xs) →
      a_chain part' count' w' levels' ≡ step_state row truths z
  chain_kept new f part' count' w' levels' ep ec ew el =
      ap (λ y. a_chain y count' w' levels') ep ∙ ap (λ y. a_chain (step_state row truths part) y w' levels') ec ∙ ap (λ y. a_chain (step_state row truths part) count y levels') ew
      ∙ ap (a_chain (step_state row truths part) count w)
      (el ∙ ap (λ y. levels_after w row.last (map (held_with Single) y) y (all_levels count xs)) f ∙ part_after w row.last count ahead (step_new row truths part) xs few)
      ∙ sym (ap (step_state row truths) is)
