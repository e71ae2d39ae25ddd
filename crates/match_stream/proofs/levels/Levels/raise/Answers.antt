-- Where no level is above or nothing is new, nothing ascends; else the next level holds it.
use Rattle.std.proofs.Common.{◌≡◌, ℕ, zero, suc, ℤ, ◌+◌, ◌-◌, ◌<◌, ◌≤◌, ◌++◌, ◌∷◌, [], List, length, refl, sym, ◌∙◌, ap, arith, rules}
use Rattle.std.proofs.lemmas.List.{length-map}
use Rattle.match_pruning.specs.declared.window.Window.{Window}
use Rattle.match_pruning.specs.declared.partial_match.PartialMatch.{PartialMatch}
use Rattle.match_pruning.specs.PartialMatchTree.{PartialMatchTree}
use Rattle.match_pruning.specs.inner.PartialMatches.{partial_match_trees}
use Rattle.match_pruning.specs.inner.Steps.{kept, levels_above, all_levels, no_levels, risen, raised, repeated_sets}
use Rattle.match_stream.specs.inner.Nodes.{store_list, store_lists}
use Rattle.match_stream.specs.RetainedPart.{held_count}
use Rattle.match_stream.proofs.LevelLemmas.{raised_empty, raised_some}
use Rattle.match_stream.proofs.levels.Levels.raise.Goals as goal

-- ---- no level is above those that are made

none_above : (count : ℕ) (xs : List (List PartialMatchTree)) → count - 1 ≤ length xs → levels_above count xs ≡ 0
none_above count xs h = omega (arith, h)

full_kept : (w : Window) (t : ℤ) (count : ℕ) (xs : List (List PartialMatchTree)) (sets : List PartialMatchTree) → count - 1 ≤ length xs →
    all_levels count xs ≡ xs ++ raised w t (levels_above count xs) sets
full_kept w t count xs sets h = ap (λ k. xs ++ no_levels k) (none_above count xs h) ∙ sym (ap (λ k. xs ++ raised w t k sets) (none_above count xs h))

full_held : (w : Window) (t : ℤ) (count : ℕ) (xs : List (List PartialMatchTree)) (sets : List PartialMatchTree) → count - 1 ≤ length xs → held_count (raised w t (levels_above count xs) sets) ≡ 0
full_held w t count xs sets h = ap (λ k. held_count (raised w t k sets)) (none_above count xs h)

full_new : (count : ℕ) (xs : List (List PartialMatchTree)) (sets : List PartialMatchTree) → 0 < count → count - 1 ≤ length xs → sets ≡ repeated_sets count (risen (levels_above count xs) sets)
full_new zero xs sets some h = absurd (omega arith)
full_new (suc n) xs sets some h = sym (ap (λ k. risen k sets) (none_above (suc n) xs h))

pub returns-then-self-eq0-clause-kept : goal.returns-then-self-eq0-clause-kept
returns-then-self-eq0-clause-kept c =
    full_kept c.args.self.now.window c.args.now c.args.self.now.count (store_lists c.args.self.now.stores.items) (partial_match_trees c.args.sets.items) (omega (arith, c.if-self-eq0.true))

pub returns-then-self-eq0-clause-counted : goal.returns-then-self-eq0-clause-counted
returns-then-self-eq0-clause-counted c =
    let held = full_held c.args.self.now.window c.args.now c.args.self.now.count (store_lists c.args.self.now.stores.items) (partial_match_trees c.args.sets.items) (omega (arith, c.if-self-eq0.true)) in
    omega (arith, held)

pub returns-then-len-self-clause-new : goal.returns-then-len-self-clause-new
returns-then-len-self-clause-new c =
    let long = length-map c.args.self.now.stores.items store_list in
    full_new c.args.self.now.count (store_lists c.args.self.now.stores.items) (partial_match_trees c.args.sets.items) (omega (arith, c.if-self-eq0.false)) (omega (arith, c.if-len-self.true, c.len.ensures, long))

pub returns-then-len-self-clause-kept : goal.returns-then-len-self-clause-kept
returns-then-len-self-clause-kept c =
    let long = length-map c.args.self.now.stores.items store_list in
    full_kept c.args.self.now.window c.args.now c.args.self.now.count (store_lists c.args.self.now.stores.items) (partial_match_trees c.args.sets.items) (omega (arith, c.if-len-self.true, c.len.ensures, long))

pub returns-then-len-self-clause-counted : goal.returns-then-len-self-clause-counted
returns-then-len-self-clause-counted c =
    let long = length-map c.args.self.now.stores.items store_list in
    let held = full_held c.args.self.now.window c.args.now c.args.self.now.count (store_lists c.args.self.now.stores.items) (partial_match_trees c.args.sets.items) (omega (arith, c.if-len-self.true, c.len.ensures, long)) in
    omega (arith, held)

-- ---- nothing is new

empty_new : (count k : ℕ) (sets : List PartialMatch) → length sets ≡ 0 → partial_match_trees sets ≡ repeated_sets count (risen k (partial_match_trees sets))
empty_new zero k [] h = refl
empty_new (suc n) zero [] h = refl
empty_new (suc n) (suc k) [] h = refl
empty_new count k (x ∷ sets) h = absurd (omega arith)

empty_kept : (w : Window) (t : ℤ) (k : ℕ) (xs : List (List PartialMatchTree)) (sets : List PartialMatch) → length sets ≡ 0 → xs ++ no_levels k ≡ xs ++ raised w t k (partial_match_trees sets)
empty_kept w t zero xs [] h = refl
empty_kept w t (suc k) xs [] h = refl
empty_kept w t k xs (x ∷ sets) h = absurd (omega arith)

pub returns-then-is_empty-clause-new : goal.returns-then-is_empty-clause-new
returns-then-is_empty-clause-new c =
    let none : length c.args.sets.items ≡ 0 = search rules in
    empty_new c.args.self.now.count (levels_above c.args.self.now.count (store_lists c.args.self.now.stores.items)) c.args.sets.items none

pub returns-then-is_empty-clause-kept : goal.returns-then-is_empty-clause-kept
returns-then-is_empty-clause-kept c =
    let none : length c.args.sets.items ≡ 0 = search rules in
    let xs = store_lists c.args.self.now.stores.items in
    empty_kept c.args.self.now.window c.args.now (levels_above c.args.self.now.count xs) xs c.args.sets.items none

pub returns-then-is_empty-clause-counted : goal.returns-then-is_empty-clause-counted
returns-then-is_empty-clause-counted c =
    let none : length c.args.sets.items ≡ 0 = search rules in
    let held = raised_empty c.args.self.now.window c.args.now (levels_above c.args.self.now.count (store_lists c.args.self.now.stores.items)) c.args.sets.items none in
    omega (arith, held)

pub returns-clause-counted : goal.returns-clause-counted
returns-clause-counted c =
    let xs = store_lists c.args.self.now.stores.items in
    let long = length-map c.args.self.now.stores.items store_list in
    let less : length xs + 1 < c.args.self.now.count = omega (arith, c.if-len-self.false, c.len.ensures, long, c.if-self-eq0.false) in
    let held = raised_some c.args.self.now.window c.args.now c.args.self.now.count xs (partial_match_trees c.args.sets.items) less in
    let same = ap (λ (z : List PartialMatch). length (kept c.args.self.now.window c.args.now (partial_match_trees z))) c.deref.ensures.value in
    omega (arith, held, same, c.in_ok-take_admitted.ensures.taken)
