-- Rows at which nothing holds: nothing ends there, and what is kept is what hasn't expired.
use Rattle.std.proofs.Common.{◌≡◌, ℕ, zero, suc, ℤ, ◌≤ℤ◌, List, [], ◌∷◌, ◌++◌, refl, sym, ◌∙◌, ap, subst, arith, append-nil, append_assoc}
use Rattle.std.specs.Prelude.{Bool, true, false, map, Some}
use Rattle.std.proofs.lemmas.List.{length-map}
use Rattle.match_bindings.specs.declared.log_entry.LogEntry.{LogEntry}
use Rattle.match_bindings.specs.declared.bounds.Bounds.{Bounds}
use Rattle.match_bindings.specs.Bounds.{no_bounds, within, between}
use Rattle.match_stream.specs.inner.Shape.{state_fits}
use Rattle.match_bindings.specs.NumberedPattern.{NumberedPattern, Leaf, Both, Then, Either, Within, Between, Repeats}
use Rattle.match_bindings.specs.BindTree.{First, Second, Single}
use Rattle.match_bindings.specs.Log.{LastIsBy, IsInOrder, observed_in}
use Rattle.match_bindings.specs.Flat.{comes_before}
use Rattle.std.specs.List.Sorted.{IsSortedBy}
use Rattle.match_pruning.specs.declared.window.Window.{Window}
use Rattle.match_pruning.specs.declared.join.Join.{Join}
use Rattle.match_pruning.specs.declared.join.Join.TheVariants as join
use Rattle.match_pruning.specs.declared.row.Row.{Row}
use Rattle.match_pruning.specs.PartialMatchTree.{PartialMatchTree}
use Rattle.match_stream.specs.RetainedPart.{time_of}
use Rattle.match_stream.specs.MatcherState.{log_end}
use Rattle.match_stream.specs.Answer.{AnswersAfter}
use Rattle.match_stream.specs.Passing.{AreNonmatching, no_answers}
use Rattle.match_pruning.specs.inner.Retains.{retains}
use Rattle.match_pruning.specs.inner.Steps.{held_with, match_joins, kept, SideStores, State, a_leaf, a_join, a_choice, a_limit, a_chain, truth_at, sides_kept, sides_after, joins_new, levels_new, levels_after, no_levels, repeated_sets, step_new, step_state, expired}
use Rattle.match_stream.proofs.AliveLemmas.{retains_before}
use Rattle.match_stream.proofs.StepLemmas.{Stands, all_of}
use Rattle.match_pruning.proofs.RetainsLemmas.{le_trans, le_self}
use Rattle.match_stream.proofs.LogLemmas.{row_after, take_law}
use Rattle.match_stream.proofs.ShapeLemmas.{Rule}
use Rattle.match_stream.proofs.AnswerLemmas.{Ascend, answer_law}

-- ---- nothing is new

no_joins : (j : Join) (xs : List PartialMatchTree) → match_joins j xs [] ≡ []
no_joins j [] = refl
no_joins j (x ∷ xs) = no_joins j xs

none_above : (w : Window) (t : ℤ) (levels : List (List PartialMatchTree)) → levels_new w t [] [] levels ≡ []
none_above w t [] = refl
none_above w t (held ∷ levels) = ap (λ z. levels_new w t z [] levels) (no_joins join.Repeats (kept w t held)) ∙ none_above w t levels

none_counted : (n : ℕ) → repeated_sets n [] ≡ []
none_counted zero = refl
none_counted (suc n) = refl

nonmatching_new : (row : Row) (truths : List Bool) → ((k : ℕ) → truth_at truths k ≡ false) → (z : State) → step_new row truths z ≡ []
nonmatching_new row truths h (a_leaf leaf window) = let no = h leaf in rw no refl
nonmatching_new row truths h (a_join j l r s) =
    ap (λ y. joins_new j row.last s y (step_new row truths r)) (nonmatching_new row truths h l)
    ∙ ap (λ y. joins_new j row.last s [] y) (nonmatching_new row truths h r)
    ∙ no_joins j (kept s.left_window row.last s.left)
nonmatching_new row truths h (a_choice l r) =
    ap (λ y. map (held_with First) y ++ map (held_with Second) (step_new row truths r)) (nonmatching_new row truths h l)
    ∙ ap (λ y. map (held_with Second) y) (nonmatching_new row truths h r)
nonmatching_new row truths h (a_limit part) = nonmatching_new row truths h part
nonmatching_new row truths h (a_chain part count w levels) =
    ap (λ y. repeated_sets count (levels_new w row.last (map (held_with Single) y) y levels)) (nonmatching_new row truths h part)
    ∙ ap (repeated_sets count) (none_above w row.last levels) ∙ none_counted count

-- and what is kept hasn't expired
levels_nonmatching : (w : Window) (t : ℤ) (levels : List (List PartialMatchTree)) → levels_after w t [] [] levels ≡ map (kept w t) levels
levels_nonmatching w t [] = refl
levels_nonmatching w t (held ∷ levels) =
    ap (λ y. y ∷ levels_after w t (match_joins join.Repeats (kept w t held) []) [] levels) (append-nil (kept w t held))
    ∙ ap (λ y. kept w t held ∷ levels_after w t y [] levels) (no_joins join.Repeats (kept w t held))
    ∙ ap (λ y. kept w t held ∷ y) (levels_nonmatching w t levels)

sides_nonmatching : (t : ℤ) (s : SideStores) → sides_after t s [] [] ≡ sides_kept t s
sides_nonmatching t s =
    ap (λ y. record { left = y; right = kept s.right_window t s.right ++ []; left_window = s.left_window; right_window = s.right_window }) (append-nil (kept s.left_window t s.left))
    ∙ ap (λ y. record { left = kept s.left_window t s.left; right = y; left_window = s.left_window; right_window = s.right_window }) (append-nil (kept s.right_window t s.right))

nonmatching_state : (row : Row) (truths : List Bool) → ((k : ℕ) → truth_at truths k ≡ false) → (z : State) → step_state row truths z ≡ expired row.last z
nonmatching_state row truths h (a_leaf leaf window) = refl
nonmatching_state row truths h (a_join j l r s) =
    ap (λ y. a_join j y (step_state row truths r) (sides_after row.last s (step_new row truths l) (step_new row truths r))) (nonmatching_state row truths h l)
    ∙ ap (λ y. a_join j (expired row.last l) y (sides_after row.last s (step_new row truths l) (step_new row truths r))) (nonmatching_state row truths h r)
    ∙ ap (λ y. a_join j (expired row.last l) (expired row.last r) (sides_after row.last s y (step_new row truths r))) (nonmatching_new row truths h l)
    ∙ ap (λ y. a_join j (expired row.last l) (expired row.last r) (sides_after row.last s [] y)) (nonmatching_new row truths h r)
    ∙ ap (a_join j (expired row.last l) (expired row.last r)) (sides_nonmatching row.last s)
nonmatching_state row truths h (a_choice l r) =
    ap (λ y. a_choice y (step_state row truths r)) (nonmatching_state row truths h l) ∙ ap (a_choice (expired row.last l)) (nonmatching_state row truths h r)
nonmatching_state row truths h (a_limit part) = ap a_limit (nonmatching_state row truths h part)
nonmatching_state row truths h (a_chain part count w levels) =
    ap (λ y. a_chain y count w (levels_after w row.last (map (held_with Single) (step_new row truths part)) (step_new row truths part) levels)) (nonmatching_state row truths h part)
    ∙ ap (λ y. a_chain (expired row.last part) count w (levels_after w row.last (map (held_with Single) y) y levels)) (nonmatching_new row truths h part)
    ∙ ap (a_chain (expired row.last part) count w) (levels_nonmatching w row.last levels)

-- ---- one look for many rows

kept_later : (w : Window) (s t : ℤ) → s ≤ℤ t → (xs : List PartialMatchTree) → kept w t (kept w s xs) ≡ kept w t xs
kept_later w s t h [] = refl
kept_later w s t h (x ∷ xs) = by (retains w x.earliest s) (retains w x.earliest t) refl refl (kept_later w s t h xs) where
  by : (a b : Bool) → retains w x.earliest s ≡ a → retains w x.earliest t ≡ b → kept w t (kept w s xs) ≡ kept w t xs → kept w t (kept w s (x ∷ xs)) ≡ kept w t (x ∷ xs)
  by true true ea eb ih = rw (ea, eb) (ap (λ z. x ∷ z) ih)
  by true false ea eb ih = rw (ea, eb) ih
  by false true ea eb ih = absurd (let yes_it_is = retains_before w x.earliest s t h eb in let no : true ≡ false = sym yes_it_is ∙ ea in cc)
  by false false ea eb ih = rw (ea, eb) ih

levels_later : (w : Window) (s t : ℤ) → s ≤ℤ t → (levels : List (List PartialMatchTree)) → map (kept w t) (map (kept w s) levels) ≡ map (kept w t) levels
levels_later w s t h [] = refl
levels_later w s t h (x ∷ xs) = ap (λ y. y ∷ map (kept w t) (map (kept w s) xs)) (kept_later w s t h x) ∙ ap (λ y. kept w t x ∷ y) (levels_later w s t h xs)

sides_later : (s t : ℤ) → s ≤ℤ t → (k : SideStores) → sides_kept t (sides_kept s k) ≡ sides_kept t k
sides_later s t h k =
    ap (λ y. record { left = y; right = kept k.right_window t (kept k.right_window s k.right); left_window = k.left_window; right_window = k.right_window }) (kept_later k.left_window s t h k.left)
    ∙ ap (λ y. record { left = kept k.left_window t k.left; right = y; left_window = k.left_window; right_window = k.right_window }) (kept_later k.right_window s t h k.right)

expired_later : (s t : ℤ) → s ≤ℤ t → (z : State) → expired t (expired s z) ≡ expired t z
expired_later s t h (a_leaf leaf window) = refl
expired_later s t h (a_join j l r k) =
    ap (λ y. a_join j y (expired t (expired s r)) (sides_kept t (sides_kept s k))) (expired_later s t h l)
    ∙ ap (λ y. a_join j (expired t l) y (sides_kept t (sides_kept s k))) (expired_later s t h r)
    ∙ ap (a_join j (expired t l) (expired t r)) (sides_later s t h k)
expired_later s t h (a_choice l r) = ap (λ y. a_choice y (expired t (expired s r))) (expired_later s t h l) ∙ ap (a_choice (expired t l)) (expired_later s t h r)
expired_later s t h (a_limit part) = ap a_limit (expired_later s t h part)
expired_later s t h (a_chain part count w levels) =
    ap (λ y. a_chain y count w (map (kept w t) (map (kept w s) levels))) (expired_later s t h part) ∙ ap (a_chain (expired t part) count w) (levels_later w s t h levels)

-- levels that aren't made hold nothing
pub none_kept : (w : Window) (t : ℤ) (k : ℕ) → map (kept w t) (no_levels k) ≡ no_levels k
none_kept w t zero = refl
none_kept w t (suc k) = ap (λ y. [] ∷ y) (none_kept w t k)

-- ---- the rows one after another

first_in_order : (log : List LogEntry) (r : LogEntry) (rest : List LogEntry) → IsInOrder (log ++ r ∷ rest) → IsInOrder log × LastIsBy log r.last
first_in_order [] r rest h = (tt, tt)
first_in_order (x ∷ []) r rest h = (h.0, h.1)
first_in_order (x ∷ y ∷ log) r rest h = let more = first_in_order (y ∷ log) r rest h.2 in ((h.0, h.1, more.0), more.1)

-- the last row is the latest
all_by_last : (r : LogEntry) (rest : List LogEntry) (last : ℤ) → IsInOrder (r ∷ rest) → log_end (r ∷ rest) ≡ Some last → r.last ≤ℤ last
all_by_last r [] last h e = let same : r.last ≡ last = cc in subst (λ (t : ℤ). r.last ≤ℤ t) same (le_self r.last)
all_by_last r (q ∷ rest) last h e = le_trans r.last q.last last h.1 (all_by_last q rest last h.2 e)

rest_in_order : (log : List LogEntry) (r : LogEntry) (rest : List LogEntry) → IsInOrder (log ++ r ∷ rest) → IsInOrder (r ∷ rest)
rest_in_order [] r rest h = h
rest_in_order (x ∷ []) r rest h = h.2
rest_in_order (x ∷ y ∷ log) r rest h = rest_in_order (y ∷ log) r rest h.2

nothing_sorted : IsSortedBy comes_before []
nothing_sorted k d low high = absurd (omega (arith, high))

pub pass_law : Rule → Ascend → (p : NumberedPattern) (log : List LogEntry) (r : LogEntry) (rest : List LogEntry) (last : ℤ) (z : State) →
    AreNonmatching (r ∷ rest) → IsInOrder (log ++ r ∷ rest) → log_end (r ∷ rest) ≡ Some last →
    Stands (observed_in log) (all_of (observed_in log)) (time_of log) no_bounds p z →
    Stands (observed_in (log ++ r ∷ rest)) (all_of (observed_in (log ++ r ∷ rest))) (time_of (log ++ r ∷ rest)) no_bounds p (expired last z)
    × AnswersAfter p log (r ∷ rest) (no_answers (r ∷ rest))
pass_law rule sift_up p log r [] last z nonmatching order e st =
    let first = first_in_order log r [] order in
    let law = take_law p log r z first.0 first.1 st in
    let none = nonmatching_new (row_after log r) r.truths nonmatching.0 z in
    let same : r.last ≡ last = cc in (
      subst (λ (y : State). Stands (observed_in (log ++ r ∷ [])) (all_of (observed_in (log ++ r ∷ []))) (time_of (log ++ r ∷ [])) no_bounds p y)
          (nonmatching_state (row_after log r) r.truths nonmatching.0 z ∙ ap (λ t. expired t z) same) law.1,
      (answer_law rule sift_up p log r (step_new (row_after log r) r.truths z) [] law.0 (λ x. ap (λ y. Rattle.match_bindings.specs.Once.count x (Rattle.match_pruning.specs.PartialMatchTree.trees_in y)) (sym none)) nothing_sorted, tt),
    )
pass_law rule sift_up p log r (q ∷ rest) last z nonmatching order e st =
    let first = first_in_order log r (q ∷ rest) order in
    let law = take_law p log r z first.0 first.1 st in
    let none = nonmatching_new (row_after log r) r.truths nonmatching.0 z in
    let next = subst (λ (y : State). Stands (observed_in (log ++ r ∷ [])) (all_of (observed_in (log ++ r ∷ []))) (time_of (log ++ r ∷ [])) no_bounds p y)
    (nonmatching_state (row_after log r) r.truths nonmatching.0 z) law.1 in
    let whole : (log ++ r ∷ []) ++ q ∷ rest ≡ log ++ r ∷ q ∷ rest = append_assoc log (r ∷ []) (q ∷ rest) in
    let more = pass_law rule sift_up p (log ++ r ∷ []) q rest last (expired r.last z) nonmatching.1 (subst IsInOrder (sym whole) order) e next in
    let early = all_by_last r (q ∷ rest) last (rest_in_order log r (q ∷ rest) order) e in (
      subst (λ (l : List LogEntry). Stands (observed_in l) (all_of (observed_in l)) (time_of l) no_bounds p (expired last z)) whole
          (subst (λ (y : State). Stands (observed_in ((log ++ r ∷ []) ++ q ∷ rest)) (all_of (observed_in ((log ++ r ∷ []) ++ q ∷ rest))) (time_of ((log ++ r ∷ []) ++ q ∷ rest)) no_bounds p y)
          (expired_later r.last last early z) more.0),
      (
        answer_law rule sift_up p log r (step_new (row_after log r) r.truths z) [] law.0 (λ x. ap (λ y. Rattle.match_bindings.specs.Once.count x (Rattle.match_pruning.specs.PartialMatchTree.trees_in y)) (sym none)) nothing_sorted,
        more.1,
      ),
    )

-- ---- what is kept is made for the same pattern

pub fits_expired : (t : ℤ) (p : NumberedPattern) (w : Bounds) (z : State) → state_fits w p (expired t z) ≡ state_fits w p z
fits_expired t (Leaf k) w (a_leaf leaf window) = refl
fits_expired t (Both p q) w (a_join join.Both l r sides) =
    let left = fits_expired t p w l in let right = fits_expired t q w r in rw (left, right) refl
fits_expired t (Then p q) w (a_join join.Then l r sides) =
    let left = fits_expired t p w l in let right = fits_expired t q w r in rw (left, right) refl
fits_expired t (Either p q) w (a_choice l r) = let left = fits_expired t p w l in let right = fits_expired t q w r in rw (left, right) refl
fits_expired t (Within p x) w (a_limit part) = fits_expired t p (within w x) part
fits_expired t (Between p x y) w (a_limit part) = fits_expired t p (between w x y) part
fits_expired t (Repeats p n) w (a_chain part count window levels) =
    let one = fits_expired t p w part in let many = length-map levels (kept window t) in rw (one, many) refl
fits_expired t p w z = refl

pub last_of_append : (log nonmatching : List LogEntry) (last : ℤ) → log_end nonmatching ≡ Some last → log_end (log ++ nonmatching) ≡ Some last
last_of_append [] nonmatching last h = h
last_of_append (x ∷ []) [] last h = absurd (cc)
last_of_append (x ∷ []) (q ∷ nonmatching) last h = h
last_of_append (x ∷ y ∷ log) nonmatching last h = last_of_append (y ∷ log) nonmatching last h
