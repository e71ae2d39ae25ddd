-- One row, node by node.
use Rattle.std.proofs.Common.{refl, ◌-◌, ◌≡◌, ◌+◌, ◌<◌, ◌≤◌, ◌∷◌, ◌++◌, List, length, Err, rules, arith, ap, sym, ◌∙◌, subst}
use Rattle.std.specs.Prelude.{ℕ, Bool, map, IfOk}
use Rattle.match_bindings.specs.BindTree.{Second, Single, firsts}
use Rattle.match_stream.specs.RetainedPart.{held_count}
use Rattle.std.proofs.lemmas.List.{length-map, length-append}
use Rattle.match_pruning.specs.declared.stop.Stop.TheVariants as stop
use Rattle.match_pruning.specs.declared.pending_left.PendingLeft.{PendingLeft}
use Rattle.match_pruning.specs.declared.store.Store.{Store}
use Rattle.match_stream.specs.declared.sides.Sides.{Sides}
use Rattle.match_pruning.specs.declared.partial_match.PartialMatch.{PartialMatch}
use Rattle.match_pruning.specs.declared.row.Row.{Row}
use Rattle.match_pruning.specs.declared.join.Join.{Join}
use Rattle.match_stream.specs.declared.node.Node.{Node}
use Rattle.match_pruning.specs.PartialMatchTree.{PartialMatchTree}
use Rattle.match_pruning.specs.inner.PartialMatches.{partial_match_tree, partial_match_trees}
use Rattle.match_pruning.specs.inner.Steps.{State, a_join, a_choice, leaves_state, all_levels, held_with, levels_new, levels_after, kept, joins_both, step_new, step_state, IsNonmatchingChain}
use Rattle.match_pruning.specs.inner.Needed.{PendingLeftTrees, needed, pending_lefts_right, pending_lefts_part, needed_trees}
use Rattle.match_pruning.specs.inner.PendingLefts.{pending_left_trees, pending_lefts_of}
use Rattle.match_stream.specs.inner.Totals.{held_after, retained_at, AdmitLevels, Admits}
use Rattle.match_stream.specs.inner.Nodes.{store_list, store_lists, side_stores, levels_state, node_state}
use Rattle.match_pruning.proofs.NeededLemmas.{pending_lefts_more}
use Rattle.match_stream.proofs.TotalLemmas.{over_left, over_left_held, over_right, over_right_held, join_is, join_counted, join_kept, over_first, over_second, choice_is, choice_counted, over_part, over_levels, chain_is, chain_counted, chain_kept}
use Rattle.match_stream.proofs.NonmatchingLemmas.{nonmatching_under, nonmatching_state, nonmatching_counted}
use Rattle.match_stream.proofs.UnderFirstsLemmas.{under_none, choice_added}
use Rattle.match_stream.proofs.LeavesLemmas.{leaves_stay, leaves_count}
use Rattle.match_stream.proofs.node.+step.Goals as goal

-- what is said of a part, of the same part named otherwise
over_at : (row : Row) (truths : List Bool) (budget : ℕ) (a b : State) (u v : List PendingLeftTrees) → a ≡ b → u ≡ v → (Admits row truths a → budget < retained_at row truths u a) → Admits row truths b → budget < retained_at row truths v b
over_at row truths budget a b u v e f h =
    subst (λ (y : State). Admits row truths y → budget < retained_at row truths v y) e (subst (λ (x : List PendingLeftTrees). Admits row truths a → budget < retained_at row truths x a) f h)

new_at : (row : Row) (truths : List Bool) (new : List PartialMatchTree) (a b : State) (u v : List PendingLeftTrees) → a ≡ b → u ≡ v → new ≡ needed row.last u (step_new row truths a) → new ≡ needed row.last v (step_new row truths b)
new_at row truths new a b u v e f h = h ∙ ap (λ x. needed row.last x (step_new row truths a)) f ∙ ap (λ y. needed row.last v (step_new row truths y)) e

-- the state of an OR whose sides are named otherwise
choice_at : (left right l r : Node) (z : State) → l ≡ left → r ≡ right → z ≡ a_choice (node_state left) (node_state right) → a_choice (node_state l) (node_state r) ≡ z
choice_at left right l r z e f is = ap (λ x. a_choice (node_state x) (node_state r)) e ∙ ap (λ x. a_choice (node_state left) (node_state x)) f ∙ sym is

-- the state of an AND or a FOLLOWEDBY whose sides are named otherwise
join_at : (j : Join) (left right l r : Node) (sides s : Sides) (z : State) → l ≡ left → r ≡ right → s ≡ sides → z ≡ a_join j (node_state left) (node_state right) (side_stores sides) →
    a_join j (node_state l) (node_state r) (side_stores s) ≡ z
join_at j left right l r sides s z e f g is =
    ap (λ x. a_join j (node_state x) (node_state r) (side_stores s)) e
    ∙ ap (λ x. a_join j (node_state left) (node_state x) (side_stores s)) f
    ∙ ap (λ x. a_join j (node_state left) (node_state right) (side_stores x)) g
    ∙ sym is

pub step-returns-in-Sides-clause-new : goal.step-returns-in-Sides-clause-new
step-returns-in-Sides-clause-new t c =
    let row = c.args.row.now in let truths = c.args.truths.now in let ahead = pending_lefts_of c.args.pending_lefts.now.items in
    subst (λ (z : State). IfOk c.step_sides.result (λ new. partial_match_trees new.items ≡ needed row.last ahead (step_new row truths z)))
    (join_at c.in-Sides.join c.in-Sides.left.value c.in-Sides.right.value c.deref_mut.result.now c.deref_mut-in-Sides.result.now c.in-Sides.sides.value c.deref_mut-in-Sides-2.result.now
    (node_state c.args.node.now) c.deref_mut.ensures.value c.deref_mut-in-Sides.ensures.value c.deref_mut-in-Sides-2.ensures.value (ap node_state c.in-Sides.is))
    c.step_sides.ensures.new

pub step_sides-returns-in_err-new_left-clause-over_limit : goal.step_sides-returns-in_err-new_left-clause-over_limit
step_sides-returns-in_err-new_left-clause-over_limit t c = λ e a.
    let row = c.args.row.now in let truths = c.args.truths.now in let ahead = pending_lefts_of c.args.pending_lefts.now.items in
    let l = node_state c.args.left.now in let r = node_state c.args.right.now in let s = side_stores c.args.sides.now in let z = a_join c.args.join l r s in
    let k = side_stores c.expire.new.self in
    let kept_is = c.in_ok-expire.ensures.kept in let first = c.in_ok-expire.ensures.counted in
    let budget = c.args.budget.now.left in let room1 = c.expire.new.budget.left in
    let failed : c.step_alone.result ≡ Err stop.OverLimit = search rules in
    over_left row truths ahead c.args.join l r z s k k refl kept_is refl a budget room1 first
    (c.step_alone.ensures.over_limit failed)

pub step_sides-returns-in_err-take_admitted-clause-over_limit : goal.step_sides-returns-in_err-take_admitted-clause-over_limit
step_sides-returns-in_err-take_admitted-clause-over_limit t c = λ e a.
    let row = c.args.row.now in let truths = c.args.truths.now in let ahead = pending_lefts_of c.args.pending_lefts.now.items in
    let l = node_state c.args.left.now in let r = node_state c.args.right.now in let s = side_stores c.args.sides.now in let z = a_join c.args.join l r s in
    let k = side_stores c.expire.new.self in
    let kept_is = c.in_ok-expire.ensures.kept in let first = c.in_ok-expire.ensures.counted in
    let budget = c.args.budget.now.left in let room1 = c.expire.new.budget.left in
    let nl = partial_match_trees c.in_ok-new_left.new_left.items in
    let f = c.in_ok-new_left.ensures.new in
    let room2 = c.step_alone.new.budget.left in let second = c.in_ok-new_left.ensures.counted in
    let left = ap (λ (y : List PartialMatch). length (kept k.left_window row.last (partial_match_trees y))) c.deref.ensures.value in
    let failed : c.take_admitted.result ≡ Err stop.OverLimit = search rules in
    over_left_held row truths ahead c.args.join l r z s k k refl kept_is refl nl f budget room1 room2 first second (omega (arith, left, c.take_admitted.ensures.over_limit failed))

pub step_sides-returns-in_err-new_right-clause-over_limit : goal.step_sides-returns-in_err-new_right-clause-over_limit
step_sides-returns-in_err-new_right-clause-over_limit t c = λ e a.
    let row = c.args.row.now in let truths = c.args.truths.now in let ahead = pending_lefts_of c.args.pending_lefts.now.items in
    let l = node_state c.args.left.now in let r = node_state c.args.right.now in let s = side_stores c.args.sides.now in let z = a_join c.args.join l r s in
    let k = side_stores c.expire.new.self in
    let kept_is = c.in_ok-expire.ensures.kept in let first = c.in_ok-expire.ensures.counted in
    let budget = c.args.budget.now.left in let room1 = c.expire.new.budget.left in
    let nl = partial_match_trees c.in_ok-new_left.new_left.items in
    let f = c.in_ok-new_left.ensures.new in
    let room2 = c.step_alone.new.budget.left in let second = c.in_ok-new_left.ensures.counted in
    let left = ap (λ (y : List PartialMatch). length (kept k.left_window row.last (partial_match_trees y))) c.deref.ensures.value in
    let room3 = c.take_admitted.new.self.left in
    let third : room3 + length (kept k.left_window row.last nl) ≡ room2 = omega (arith, left, c.in_ok-take_admitted.ensures.taken) in
    let failed : c.step_right.result ≡ Err stop.OverLimit = search rules in
    over_right row truths ahead c.args.join l r z s k k refl kept_is refl nl f a budget room1 room2 room3 first second third
    (c.step_right.ensures.over_limit failed)

pub step_sides-returns-in_err-take_admitted-2-clause-over_limit : goal.step_sides-returns-in_err-take_admitted-2-clause-over_limit
step_sides-returns-in_err-take_admitted-2-clause-over_limit t c = λ e a.
    let row = c.args.row.now in let truths = c.args.truths.now in let ahead = pending_lefts_of c.args.pending_lefts.now.items in
    let l = node_state c.args.left.now in let r = node_state c.args.right.now in let s = side_stores c.args.sides.now in let z = a_join c.args.join l r s in
    let k = side_stores c.expire.new.self in
    let kept_is = c.in_ok-expire.ensures.kept in let first = c.in_ok-expire.ensures.counted in
    let budget = c.args.budget.now.left in let room1 = c.expire.new.budget.left in
    let nl = partial_match_trees c.in_ok-new_left.new_left.items in
    let f = c.in_ok-new_left.ensures.new in
    let room2 = c.step_alone.new.budget.left in let second = c.in_ok-new_left.ensures.counted in
    let left = ap (λ (y : List PartialMatch). length (kept k.left_window row.last (partial_match_trees y))) c.deref.ensures.value in
    let room3 = c.take_admitted.new.self.left in
    let third : room3 + length (kept k.left_window row.last nl) ≡ room2 = omega (arith, left, c.in_ok-take_admitted.ensures.taken) in
    let m = side_stores c.step_right.new.sides in let same = c.in_ok-new_right.ensures.sides in
    let nr = partial_match_trees c.in_ok-new_right.new_right.items in
    let g = c.in_ok-new_right.ensures.new in
    let room4 = c.step_right.new.budget.left in let fourth = c.in_ok-new_right.ensures.counted in
    let right = ap (λ (y : List PartialMatch). length (kept m.right_window row.last (partial_match_trees y))) c.deref-2.ensures.value in
    let failed : c.take_admitted-2.result ≡ Err stop.OverLimit = search rules in
    over_right_held row truths ahead c.args.join l r z s k m refl kept_is same nl nr f g budget room1 room2 room3 room4 first second third fourth (omega (arith, right, c.take_admitted-2.ensures.over_limit failed))

pub step_sides-returns-in_err-new-clause-over_limit : goal.step_sides-returns-in_err-new-clause-over_limit
step_sides-returns-in_err-new-clause-over_limit t c = λ e a.
    let row = c.args.row.now in let truths = c.args.truths.now in let ahead = pending_lefts_of c.args.pending_lefts.now.items in
    let l = node_state c.args.left.now in let r = node_state c.args.right.now in let s = side_stores c.args.sides.now in let z = a_join c.args.join l r s in
    let k = side_stores c.expire.new.self in
    let kept_is = c.in_ok-expire.ensures.kept in let first = c.in_ok-expire.ensures.counted in
    let budget = c.args.budget.now.left in let room1 = c.expire.new.budget.left in
    let nl = partial_match_trees c.in_ok-new_left.new_left.items in
    let f = c.in_ok-new_left.ensures.new in
    let room2 = c.step_alone.new.budget.left in let second = c.in_ok-new_left.ensures.counted in
    let left = ap (λ (y : List PartialMatch). length (kept k.left_window row.last (partial_match_trees y))) c.deref.ensures.value in
    let room3 = c.take_admitted.new.self.left in
    let third : room3 + length (kept k.left_window row.last nl) ≡ room2 = omega (arith, left, c.in_ok-take_admitted.ensures.taken) in
    let m = side_stores c.step_right.new.sides in let same = c.in_ok-new_right.ensures.sides in
    let nr = partial_match_trees c.in_ok-new_right.new_right.items in
    let g = c.in_ok-new_right.ensures.new in
    let room4 = c.step_right.new.budget.left in let fourth = c.in_ok-new_right.ensures.counted in
    let right = ap (λ (y : List PartialMatch). length (kept m.right_window row.last (partial_match_trees y))) c.deref-2.ensures.value in
    let room5 = c.take_admitted-2.new.self.left in
    let fifth : room5 + length (kept m.right_window row.last nr) ≡ room4 = omega (arith, right, c.in_ok-take_admitted-2.ensures.taken) in
    let pending_lefts = ap pending_lefts_of (c.deref-3.ensures.value ∙ c.in_ok-new_right.ensures.pending_lefts) in
    let failed : c.join.result ≡ Err stop.OverLimit = search rules in
    let over = c.join.ensures.over_limit failed in
    let counted = join_counted row truths ahead c.args.join l r z s k m refl kept_is same nl nr f g budget room1 room2 room3 room4 room5 first second third fourth fifth in
    let new = ap (λ y. length (needed row.last y (joins_both c.args.join m nl nr))) pending_lefts ∙ ap length (join_is row truths ahead c.args.join l r z s k m refl kept_is same nl nr f g) in
    omega (arith, over, counted, new)

pub step_sides-returns-clause-new : goal.step_sides-returns-clause-new
step_sides-returns-clause-new t c =
    let row = c.args.row.now in let truths = c.args.truths.now in let ahead = pending_lefts_of c.args.pending_lefts.now.items in
    let l = node_state c.args.left.now in let r = node_state c.args.right.now in let s = side_stores c.args.sides.now in let z = a_join c.args.join l r s in
    let k = side_stores c.expire.new.self in
    let kept_is = c.in_ok-expire.ensures.kept in
    let nl = partial_match_trees c.in_ok-new_left.new_left.items in
    let f = c.in_ok-new_left.ensures.new in
    let m = side_stores c.step_right.new.sides in let same = c.in_ok-new_right.ensures.sides in
    let nr = partial_match_trees c.in_ok-new_right.new_right.items in
    let g = c.in_ok-new_right.ensures.new in
    let pending_lefts = ap pending_lefts_of (c.deref-3.ensures.value ∙ c.in_ok-new_right.ensures.pending_lefts) in
    c.in_ok-new.ensures.new ∙ ap (λ y. needed row.last y (joins_both c.args.join m nl nr)) pending_lefts ∙ join_is row truths ahead c.args.join l r z s k m refl kept_is same nl nr f g

pub step_sides-returns-clause-kept : goal.step_sides-returns-clause-kept
step_sides-returns-clause-kept t c =
    let row = c.args.row.now in let truths = c.args.truths.now in let ahead = pending_lefts_of c.args.pending_lefts.now.items in
    let l = node_state c.args.left.now in let r = node_state c.args.right.now in let s = side_stores c.args.sides.now in let z = a_join c.args.join l r s in
    let k = side_stores c.expire.new.self in
    let kept_is = c.in_ok-expire.ensures.kept in
    let nl = partial_match_trees c.in_ok-new_left.new_left.items in
    let f = c.in_ok-new_left.ensures.new in
    let m = side_stores c.step_right.new.sides in let same = c.in_ok-new_right.ensures.sides in
    let nr = partial_match_trees c.in_ok-new_right.new_right.items in
    let g = c.in_ok-new_right.ensures.new in
    join_kept row truths ahead c.args.join l r z s k m refl kept_is same nl nr f g (node_state c.step_alone.new.node) (node_state c.step_right.new.right) (side_stores c.join.new.self)
    c.in_ok-new_left.ensures.kept c.in_ok-new_right.ensures.kept c.in_ok-new.ensures.kept

pub step_sides-returns-clause-counted : goal.step_sides-returns-clause-counted
step_sides-returns-clause-counted t c =
    let row = c.args.row.now in let truths = c.args.truths.now in let ahead = pending_lefts_of c.args.pending_lefts.now.items in
    let l = node_state c.args.left.now in let r = node_state c.args.right.now in let s = side_stores c.args.sides.now in let z = a_join c.args.join l r s in
    let k = side_stores c.expire.new.self in
    let kept_is = c.in_ok-expire.ensures.kept in let first = c.in_ok-expire.ensures.counted in
    let budget = c.args.budget.now.left in let room1 = c.expire.new.budget.left in
    let nl = partial_match_trees c.in_ok-new_left.new_left.items in
    let f = c.in_ok-new_left.ensures.new in
    let room2 = c.step_alone.new.budget.left in let second = c.in_ok-new_left.ensures.counted in
    let left = ap (λ (y : List PartialMatch). length (kept k.left_window row.last (partial_match_trees y))) c.deref.ensures.value in
    let room3 = c.take_admitted.new.self.left in
    let third : room3 + length (kept k.left_window row.last nl) ≡ room2 = omega (arith, left, c.in_ok-take_admitted.ensures.taken) in
    let m = side_stores c.step_right.new.sides in let same = c.in_ok-new_right.ensures.sides in
    let nr = partial_match_trees c.in_ok-new_right.new_right.items in
    let g = c.in_ok-new_right.ensures.new in
    let room4 = c.step_right.new.budget.left in let fourth = c.in_ok-new_right.ensures.counted in
    let right = ap (λ (y : List PartialMatch). length (kept m.right_window row.last (partial_match_trees y))) c.deref-2.ensures.value in
    let room5 = c.take_admitted-2.new.self.left in
    let fifth : room5 + length (kept m.right_window row.last nr) ≡ room4 = omega (arith, right, c.in_ok-take_admitted-2.ensures.taken) in
    join_counted row truths ahead c.args.join l r z s k m refl kept_is same nl nr f g budget room1 room2 room3 room4 room5 first second third fourth fifth

pub step_either-returns-in_err-step_first-clause-over_limit : goal.step_either-returns-in_err-step_first-clause-over_limit
step_either-returns-in_err-step_first-clause-over_limit t c = λ e a.
    let row = c.args.row.now in let truths = c.args.truths.now in let ahead = pending_lefts_of c.args.pending_lefts.now.items in
    let l = node_state c.args.left.now in let r = node_state c.args.right.now in let z = a_choice l r in
    let budget = c.args.budget.now.left in
    let none = ap length c.new-new.ensures.items in
    let failed : c.step_first.result ≡ Err stop.OverLimit = search rules in
    let over' = over_first row truths ahead l r z refl a budget 0 (λ b. let more = c.step_first.ensures.over_limit failed b in omega (arith, more, none)) in omega (arith, over')

pub step_either-returns-in_err-step_second-clause-over_limit : goal.step_either-returns-in_err-step_second-clause-over_limit
step_either-returns-in_err-step_second-clause-over_limit t c = λ e a.
    let row = c.args.row.now in let truths = c.args.truths.now in let ahead = pending_lefts_of c.args.pending_lefts.now.items in
    let l = node_state c.args.left.now in let r = node_state c.args.right.now in let z = a_choice l r in
    let budget = c.args.budget.now.left in
    let nl = needed row.last ahead (step_new row truths l) in
    let room1 = c.step_first.new.budget.left in let first = c.in_ok-step_first.ensures.counted in
    let pending_lefts = ap pending_lefts_of c.in_ok-step_first.ensures.pending_lefts in
    let none = ap length c.new-new.ensures.items in
    let mid = c.step_first.new.out.items in
    let long : length mid ≡ length c.new-new.result.items + length nl
    = sym (length-map mid partial_match_tree) ∙ ap length c.in_ok-step_first.ensures.new
    ∙ length-append (partial_match_trees c.new-new.result.items) (map (held_with (firsts 1)) nl)
    ∙ ap (λ k. k + length (map (held_with (firsts 1)) nl)) (length-map c.new-new.result.items partial_match_tree)
    ∙ ap (λ k. length c.new-new.result.items + k) (length-map nl (held_with (firsts 1))) in
    let failed : c.step_second.result ≡ Err stop.OverLimit = search rules in
    let over = subst (λ (x : List PendingLeftTrees). Admits row truths r → room1 < length mid + retained_at row truths x r) pending_lefts (c.step_second.ensures.over_limit failed) in
    let over' = over_second row truths ahead l r z refl a budget room1 0 first (λ b. let more = over b in omega (arith, long, more, none)) in omega (arith, over')

pub step_either-returns-clause-new : goal.step_either-returns-clause-new
step_either-returns-clause-new t c =
    let row = c.args.row.now in let truths = c.args.truths.now in let ahead = pending_lefts_of c.args.pending_lefts.now.items in
    let l = node_state c.args.left.now in let r = node_state c.args.right.now in let z = a_choice l r in
    let nl = needed row.last ahead (step_new row truths l) in
    let pending_lefts = ap pending_lefts_of c.in_ok-step_first.ensures.pending_lefts in
    let nr = needed row.last ahead (step_new row truths r) in
    let g = new_at row truths (needed row.last (pending_lefts_of c.step_first.new.pending_lefts.items) (step_new row truths r)) r r (pending_lefts_of c.step_first.new.pending_lefts.items) ahead refl pending_lefts refl in
    let mid = partial_match_trees c.step_first.new.out.items in let new = partial_match_trees c.step_second.new.out.items in
    let second = c.in_ok-step_second.ensures.new ∙ ap (λ y. mid ++ map (held_with (firsts 0)) (map (held_with Second) y)) g in
    choice_added 0 (partial_match_trees c.new-new.result.items) mid new nl nr c.in_ok-step_first.ensures.new second
    ∙ ap (λ y. partial_match_trees c.new-new.result.items ++ map (held_with (firsts 0)) y) (choice_is row truths ahead l r z refl nl nr refl refl)
    ∙ ap (λ y. partial_match_trees y ++ map (held_with (firsts 0)) (needed row.last ahead (step_new row truths z))) c.new-new.ensures.items
    ∙ under_none (needed row.last ahead (step_new row truths z))

pub step_either-returns-clause-counted : goal.step_either-returns-clause-counted
step_either-returns-clause-counted t c =
    let row = c.args.row.now in let truths = c.args.truths.now in let ahead = pending_lefts_of c.args.pending_lefts.now.items in
    let l = node_state c.args.left.now in let r = node_state c.args.right.now in let z = a_choice l r in
    let budget = c.args.budget.now.left in
    let room1 = c.step_first.new.budget.left in let first = c.in_ok-step_first.ensures.counted in
    choice_counted row truths ahead l r z refl budget room1 c.step_second.new.budget.left first c.in_ok-step_second.ensures.counted

pub step_first-returns-in_err-step_first-clause-over_limit : goal.step_first-returns-in_err-step_first-clause-over_limit
step_first-returns-in_err-step_first-clause-over_limit t c = λ e a.
    let row = c.args.row.now in let truths = c.args.truths.now in let ahead = pending_lefts_of c.args.pending_lefts.now.items in
    let l = node_state c.deref_mut.result.now in let r = node_state c.in-Either.right.value in let z = node_state c.args.node.now in
    let is = sym (choice_at c.in-Either.left.value c.in-Either.right.value c.deref_mut.result.now c.in-Either.right.value z c.deref_mut.ensures.value refl (ap node_state c.in-Either.is)) in
    let budget = c.args.budget.now.left in
    let failed : c.step_first.result ≡ Err stop.OverLimit = search rules in
    over_first row truths ahead l r z is a budget (length c.args.out.now.items) (λ b. let more = c.step_first.ensures.over_limit failed b in omega (arith, more))

pub step_first-returns-in_err-step_second-clause-over_limit : goal.step_first-returns-in_err-step_second-clause-over_limit
step_first-returns-in_err-step_second-clause-over_limit t c = λ e a.
    let row = c.args.row.now in let truths = c.args.truths.now in let ahead = pending_lefts_of c.args.pending_lefts.now.items in
    let l = node_state c.deref_mut.result.now in let r = node_state c.deref_mut-in-Either.result.now in let z = node_state c.args.node.now in
    let is = sym (choice_at c.in-Either.left.value c.in-Either.right.value c.deref_mut.result.now c.deref_mut-in-Either.result.now z c.deref_mut.ensures.value c.deref_mut-in-Either.ensures.value (ap node_state c.in-Either.is)) in
    let budget = c.args.budget.now.left in
    let nl = needed row.last ahead (step_new row truths l) in
    let room1 = c.step_first.new.budget.left in let first = c.in_ok-step_first.ensures.counted in
    let pending_lefts = ap pending_lefts_of c.in_ok-step_first.ensures.pending_lefts in
    let mid = c.step_first.new.out.items in
    let long : length mid ≡ length c.args.out.now.items + length nl
    = sym (length-map mid partial_match_tree) ∙ ap length c.in_ok-step_first.ensures.new
    ∙ length-append (partial_match_trees c.args.out.now.items) (map (held_with (firsts (c.args.count + 1))) nl)
    ∙ ap (λ k. k + length (map (held_with (firsts (c.args.count + 1))) nl)) (length-map c.args.out.now.items partial_match_tree)
    ∙ ap (λ k. length c.args.out.now.items + k) (length-map nl (held_with (firsts (c.args.count + 1)))) in
    let failed : c.step_second.result ≡ Err stop.OverLimit = search rules in
    let over = subst (λ (x : List PendingLeftTrees). Admits row truths r → room1 < length mid + retained_at row truths x r) pending_lefts (c.step_second.ensures.over_limit failed) in
    over_second row truths ahead l r z is a budget room1 (length c.args.out.now.items) first (λ b. let more = over b in omega (arith, long, more))

pub step_first-returns-in-Either-clause-new : goal.step_first-returns-in-Either-clause-new
step_first-returns-in-Either-clause-new t c =
    let row = c.args.row.now in let truths = c.args.truths.now in let ahead = pending_lefts_of c.args.pending_lefts.now.items in
    let l = node_state c.deref_mut.result.now in let r = node_state c.deref_mut-in-Either.result.now in let z = node_state c.args.node.now in
    let is = sym (choice_at c.in-Either.left.value c.in-Either.right.value c.deref_mut.result.now c.deref_mut-in-Either.result.now z c.deref_mut.ensures.value c.deref_mut-in-Either.ensures.value (ap node_state c.in-Either.is)) in
    let nl = needed row.last ahead (step_new row truths l) in
    let pending_lefts = ap pending_lefts_of c.in_ok-step_first.ensures.pending_lefts in
    let nr = needed row.last ahead (step_new row truths r) in
    let g = new_at row truths (needed row.last (pending_lefts_of c.step_first.new.pending_lefts.items) (step_new row truths r)) r r (pending_lefts_of c.step_first.new.pending_lefts.items) ahead refl pending_lefts refl in
    let mid = partial_match_trees c.step_first.new.out.items in let new = partial_match_trees c.step_second.new.out.items in
    let second = c.in_ok-step_second.ensures.new ∙ ap (λ y. mid ++ map (held_with (firsts c.args.count)) (map (held_with Second) y)) g in
    choice_added c.args.count (partial_match_trees c.args.out.now.items) mid new nl nr c.in_ok-step_first.ensures.new second
    ∙ ap (λ y. partial_match_trees c.args.out.now.items ++ map (held_with (firsts c.args.count)) y) (choice_is row truths ahead l r z is nl nr refl refl)

pub step_first-returns-in-Either-clause-counted : goal.step_first-returns-in-Either-clause-counted
step_first-returns-in-Either-clause-counted t c =
    let row = c.args.row.now in let truths = c.args.truths.now in let ahead = pending_lefts_of c.args.pending_lefts.now.items in
    let l = node_state c.deref_mut.result.now in let r = node_state c.deref_mut-in-Either.result.now in let z = node_state c.args.node.now in
    let is = sym (choice_at c.in-Either.left.value c.in-Either.right.value c.deref_mut.result.now c.deref_mut-in-Either.result.now z c.deref_mut.ensures.value c.deref_mut-in-Either.ensures.value (ap node_state c.in-Either.is)) in
    let budget = c.args.budget.now.left in
    let room1 = c.step_first.new.budget.left in let first = c.in_ok-step_first.ensures.counted in
    choice_counted row truths ahead l r z is budget room1 c.step_second.new.budget.left first c.in_ok-step_second.ensures.counted

pub step_second-returns-then-is_nonmatching-clause-new : goal.step_second-returns-then-is_nonmatching-clause-new
step_second-returns-then-is_nonmatching-clause-new t c =
    let nonmatching : IsNonmatchingChain c.args.truths.now (node_state c.args.node.now) = search rules in
    nonmatching_under c.args.row.now c.args.truths.now (node_state c.args.node.now) nonmatching c.args.count (pending_lefts_of c.args.pending_lefts.now.items) (partial_match_trees c.args.out.now.items)

pub step_second-returns-then-is_nonmatching-clause-kept : goal.step_second-returns-then-is_nonmatching-clause-kept
step_second-returns-then-is_nonmatching-clause-kept t c =
    let nonmatching : IsNonmatchingChain c.args.truths.now (node_state c.args.node.now) = search rules in
    nonmatching_state c.args.row.now c.args.truths.now (node_state c.args.node.now) nonmatching

pub step_second-returns-then-is_nonmatching-clause-counted : goal.step_second-returns-then-is_nonmatching-clause-counted
step_second-returns-then-is_nonmatching-clause-counted t c =
    let nonmatching : IsNonmatchingChain c.args.truths.now (node_state c.args.node.now) = search rules in
    nonmatching_counted c.args.row.now c.args.truths.now (node_state c.args.node.now) nonmatching c.args.budget.now.left

pub step_second-returns-in_err-take-clause-over_limit : goal.step_second-returns-in_err-take-clause-over_limit
step_second-returns-in_err-take-clause-over_limit t c = λ e a.
    let failed : c.take.result ≡ Err stop.OverLimit = search rules in
    omega (arith, c.len.ensures, c.take.ensures.over_limit failed)

pub step_second-returns-in_err-new-clause-over_limit : goal.step_second-returns-in_err-new-clause-over_limit
step_second-returns-in_err-new-clause-over_limit t c = λ e a.
    let failed : c.step.result ≡ Err stop.OverLimit = search rules in
    omega (arith, c.len.ensures, c.in_ok-take.ensures.taken, c.step.ensures.over_limit failed a)

pub step_second-give_back-requires : goal.step_second-give_back-requires
step_second-give_back-requires t c =
    omega (arith, c.in_ok-take.ensures.taken, c.len.ensures, c.len-2.ensures, c.in_ok-new.ensures.counted)

pub step_repeats-returns-in_err-new-clause-over_limit : goal.step_repeats-returns-in_err-new-clause-over_limit
step_repeats-returns-in_err-new-clause-over_limit t c = λ e a.
    let row = c.args.row.now in let truths = c.args.truths.now in let ahead = pending_lefts_of c.args.pending_lefts.now.items in
    let levels = c.args.levels.now in let xs = store_lists levels.stores.items in let count = levels.count in let w = levels.window in
    let part = node_state c.args.part.now in let z = levels_state part levels in
    let few : length xs ≤ count - 1 = omega (arith, length-map levels.stores.items store_list, levels.few) in
    let budget = c.args.budget.now.left in
    let failed : c.step_part.result ≡ Err stop.OverLimit = search rules in
    over_part row truths ahead part z count w xs refl few a budget
    (c.step_part.ensures.over_limit failed)

pub step_repeats-returns-in_err-answer-clause-over_limit : goal.step_repeats-returns-in_err-answer-clause-over_limit
step_repeats-returns-in_err-answer-clause-over_limit t c = λ e a.
    let row = c.args.row.now in let truths = c.args.truths.now in let ahead = pending_lefts_of c.args.pending_lefts.now.items in
    let levels = c.args.levels.now in let xs = store_lists levels.stores.items in let count = levels.count in let w = levels.window in
    let part = node_state c.args.part.now in let z = levels_state part levels in
    let few : length xs ≤ count - 1 = omega (arith, length-map levels.stores.items store_list, levels.few) in
    let budget = c.args.budget.now.left in
    let new = partial_match_trees c.deref.result.now in
    let f = ap partial_match_trees c.deref.ensures.value ∙ c.in_ok-new.ensures.new in
    let room1 = c.step_part.new.budget.left in let first = c.in_ok-new.ensures.counted in
    let pending_lefts = ap pending_lefts_of (c.deref-2.ensures.value ∙ c.in_ok-new.ensures.pending_lefts) in
    let failed : c.step.result ≡ Err stop.OverLimit = search rules in
    over_levels row truths ahead part z count w xs refl few new f a budget room1 first
    (subst (λ (y : List PendingLeftTrees). AdmitLevels w row.last (map (held_with Single) new) new (all_levels count xs) →
    room1 < held_count (levels_after w row.last (map (held_with Single) new) new (all_levels count xs))
    + length (needed_trees count row.last y (levels_new w row.last (map (held_with Single) new) new (all_levels count xs)))) pending_lefts (c.step.ensures.over_limit failed))

pub step_repeats-returns-clause-new : goal.step_repeats-returns-clause-new
step_repeats-returns-clause-new t c =
    let row = c.args.row.now in let truths = c.args.truths.now in let ahead = pending_lefts_of c.args.pending_lefts.now.items in
    let levels = c.args.levels.now in let xs = store_lists levels.stores.items in let count = levels.count in let w = levels.window in
    let part = node_state c.args.part.now in let z = levels_state part levels in
    let few : length xs ≤ count - 1 = omega (arith, length-map levels.stores.items store_list, levels.few) in
    let new = partial_match_trees c.deref.result.now in
    let f = ap partial_match_trees c.deref.ensures.value ∙ c.in_ok-new.ensures.new in
    let pending_lefts = ap pending_lefts_of (c.deref-2.ensures.value ∙ c.in_ok-new.ensures.pending_lefts) in
    c.in_ok-answer.ensures.new
    ∙ ap (λ y. needed_trees count row.last y (levels_new w row.last (map (held_with Single) new) new (all_levels count xs))) pending_lefts
    ∙ chain_is row truths ahead part z count w xs refl few new f

pub step_repeats-returns-clause-kept : goal.step_repeats-returns-clause-kept
step_repeats-returns-clause-kept t c =
    let row = c.args.row.now in let truths = c.args.truths.now in let ahead = pending_lefts_of c.args.pending_lefts.now.items in
    let levels = c.args.levels.now in let xs = store_lists levels.stores.items in let count = levels.count in let w = levels.window in
    let part = node_state c.args.part.now in let z = levels_state part levels in
    let few : length xs ≤ count - 1 = omega (arith, length-map levels.stores.items store_list, levels.few) in
    let new = partial_match_trees c.deref.result.now in
    let f = ap partial_match_trees c.deref.ensures.value ∙ c.in_ok-new.ensures.new in
    chain_kept row truths ahead part z count w xs refl few new f (node_state c.step_part.new.part) c.step.new.self.count c.step.new.self.window
    (all_levels c.step.new.self.count (store_lists c.step.new.self.stores.items))
    c.in_ok-new.ensures.kept c.in_ok-answer.ensures.count c.in_ok-answer.ensures.window c.in_ok-answer.ensures.kept

pub step_repeats-returns-clause-counted : goal.step_repeats-returns-clause-counted
step_repeats-returns-clause-counted t c =
    let row = c.args.row.now in let truths = c.args.truths.now in let ahead = pending_lefts_of c.args.pending_lefts.now.items in
    let levels = c.args.levels.now in let xs = store_lists levels.stores.items in let count = levels.count in let w = levels.window in
    let part = node_state c.args.part.now in let z = levels_state part levels in
    let few : length xs ≤ count - 1 = omega (arith, length-map levels.stores.items store_list, levels.few) in
    let budget = c.args.budget.now.left in
    let new = partial_match_trees c.deref.result.now in
    let f = ap partial_match_trees c.deref.ensures.value ∙ c.in_ok-new.ensures.new in
    let room1 = c.step_part.new.budget.left in let first = c.in_ok-new.ensures.counted in
    chain_counted row truths ahead part z count w xs refl few new f budget room1 c.step.new.budget.left first c.in_ok-answer.ensures.counted

pub step-returns-in_ok-new-in-Leaves-clause-new : goal.step-returns-in_ok-new-in-Leaves-clause-new
step-returns-in_ok-new-in-Leaves-clause-new t c =
    let row = c.args.row.now in let truths = c.args.truths.now in let leaves = c.in-Leaves.leaves in
    c.in_ok-new-in-Leaves.ensures
    ∙ ap (λ (y : List PendingLeft). needed row.last (pending_lefts_of y) (step_new row truths (leaves_state leaves.first leaves.more leaves.window))) c.deref.ensures.value
    ∙ sym (ap (λ y. needed row.last (pending_lefts_of c.args.pending_lefts.now.items) (step_new row truths y)) (ap node_state c.in-Leaves.is))

pub step-returns-in_ok-new-in-Leaves-clause-kept : goal.step-returns-in_ok-new-in-Leaves-clause-kept
step-returns-in_ok-new-in-Leaves-clause-kept t c =
    let leaves = c.in-Leaves.leaves in
    sym (leaves_stay c.args.row.now c.args.truths.now leaves.first leaves.more leaves.window)
    ∙ sym (ap (λ z. step_state c.args.row.now c.args.truths.now (node_state z)) c.in-Leaves.is)

pub step-returns-in_ok-new-in-Leaves-clause-counted : goal.step-returns-in_ok-new-in-Leaves-clause-counted
step-returns-in_ok-new-in-Leaves-clause-counted t c =
    let leaves = c.in-Leaves.leaves in let row = c.args.row.now in let truths = c.args.truths.now in
    let none : held_after row truths (node_state c.args.node.now) ≡ 0
    = ap (λ z. held_after row truths (node_state z)) c.in-Leaves.is ∙ leaves_count row truths leaves.first leaves.more leaves.window in
    omega (arith, none)

pub step_part-returns-in_err-new-in-0-clause-over_limit : goal.step_part-returns-in_err-new-in-0-clause-over_limit
step_part-returns-in_err-new-in-0-clause-over_limit t c = λ e a.
    let row = c.args.row.now in let truths = c.args.truths.now in let ahead = pending_lefts_of c.args.pending_lefts.now.items in
    let levels = c.args.levels.now in
    let is : pending_lefts_of c.push.new.self.items ≡ pending_lefts_part levels.count levels.window row.last ahead
    = ap pending_lefts_of c.in_ok-push-in-0.ensures.items ∙ pending_lefts_more c.args.pending_lefts.now.items c.no_pending_left.result ∙ ap (λ y. y ∷ ahead) c.no_pending_left.ensures
    ∙ sym (ap (λ n. pending_lefts_part n levels.window row.last ahead) c.in-0.is) in
    let failed : c.step.result ≡ Err stop.OverLimit = search rules in
    over_at row truths c.args.budget.now.left (node_state c.args.part.now) (node_state c.args.part.now) (pending_lefts_of c.push.new.self.items) (pending_lefts_part levels.count levels.window row.last ahead) refl is
    (c.step.ensures.over_limit failed) a

pub step_part-returns-in_ok-new-in-0-clause-new : goal.step_part-returns-in_ok-new-in-0-clause-new
step_part-returns-in_ok-new-in-0-clause-new t c =
    let row = c.args.row.now in let truths = c.args.truths.now in let ahead = pending_lefts_of c.args.pending_lefts.now.items in
    let levels = c.args.levels.now in
    let is : pending_lefts_of c.push.new.self.items ≡ pending_lefts_part levels.count levels.window row.last ahead
    = ap pending_lefts_of c.in_ok-push-in-0.ensures.items ∙ pending_lefts_more c.args.pending_lefts.now.items c.no_pending_left.result ∙ ap (λ y. y ∷ ahead) c.no_pending_left.ensures
    ∙ sym (ap (λ n. pending_lefts_part n levels.window row.last ahead) c.in-0.is) in
    new_at row truths (partial_match_trees c.in_ok-new-in-0.new.items) (node_state c.args.part.now) (node_state c.args.part.now) (pending_lefts_of c.push.new.self.items)
    (pending_lefts_part levels.count levels.window row.last ahead) refl is c.in_ok-new-in-0.ensures.new

pub step_right-returns-in_err-new-in-Then-clause-over_limit : goal.step_right-returns-in_err-new-in-Then-clause-over_limit
step_right-returns-in_err-new-in-Then-clause-over_limit t c = λ e a.
    let row = c.args.row.now in let truths = c.args.truths.now in let ahead = pending_lefts_of c.args.pending_lefts.now.items in
    let sides = c.args.sides.now in
    let is : pending_lefts_of c.push.new.self.items ≡ pending_lefts_right c.args.join (side_stores sides) ahead
    = ap pending_lefts_of c.in_ok-push-in-Then.ensures.items ∙ pending_lefts_more c.args.pending_lefts.now.items (record { left = c.replace-left.result; window = sides.right_window })
    ∙ ap (λ (y : Store). pending_left_trees (record { left = y; window = sides.right_window }) ∷ ahead) c.replace-left.ensures.value
    ∙ sym (ap (λ j. pending_lefts_right j (side_stores sides) ahead) c.in-Then.is) in
    let failed : c.step.result ≡ Err stop.OverLimit = search rules in
    over_at row truths c.args.budget.now.left (node_state c.args.right.now) (node_state c.args.right.now) (pending_lefts_of c.push.new.self.items) (pending_lefts_right c.args.join (side_stores sides) ahead) refl is
    (c.step.ensures.over_limit failed) a

pub step_right-returns-after-pop-clause-new : goal.step_right-returns-after-pop-clause-new
step_right-returns-after-pop-clause-new t c =
    let row = c.args.row.now in let truths = c.args.truths.now in let ahead = pending_lefts_of c.args.pending_lefts.now.items in
    let sides = c.args.sides.now in
    let is : pending_lefts_of c.push.new.self.items ≡ pending_lefts_right c.args.join (side_stores sides) ahead
    = ap pending_lefts_of c.in_ok-push-in-Then.ensures.items ∙ pending_lefts_more c.args.pending_lefts.now.items (record { left = c.replace-left.result; window = sides.right_window })
    ∙ ap (λ (y : Store). pending_left_trees (record { left = y; window = sides.right_window }) ∷ ahead) c.replace-left.ensures.value
    ∙ sym (ap (λ j. pending_lefts_right j (side_stores sides) ahead) c.in-Then.is) in
    new_at row truths (partial_match_trees c.in_ok-new-in-Then.new.items) (node_state c.args.right.now) (node_state c.args.right.now) (pending_lefts_of c.push.new.self.items)
    (pending_lefts_right c.args.join (side_stores sides) ahead) refl is c.in_ok-new-in-Then.ensures.new
