-- One row at the levels that are made, and at the last one or above them.
use Rattle.std.proofs.Common.{◌≡◌, ◌+◌, ◌-◌, ◌<◌, ◌≤◌, ◌∷◌, [], ◌++◌, List, length, Vec, Global, Err, rules, sym, ◌∙◌, ap, subst, arith}
use Rattle.std.specs.Prelude.{map, ℕ, ℤ, Option, Some, None, IfSome, IfNone}
use Rattle.match_pruning.specs.declared.window.Window.{Window}
use Rattle.std.proofs.lemmas.List.{length-map}
use Rattle.match_bindings.specs.BindTree.{Single}
use Rattle.match_bindings.proofs.ListLemmas.{map_append}
use Rattle.match_pruning.specs.declared.stop.Stop.TheVariants as stop
use Rattle.match_pruning.specs.declared.store.Store.{Store}
use Rattle.match_pruning.specs.PartialMatchTree.{PartialMatchTree}
use Rattle.match_stream.specs.RetainedPart.{held_count}
use Rattle.match_pruning.specs.inner.PartialMatches.{partial_match_trees}
use Rattle.match_pruning.specs.inner.Steps.{held_with, levels_new, levels_after, all_levels, repeated_sets, risen}
use Rattle.match_pruning.specs.inner.Needed.{needed_trees}
use Rattle.match_pruning.specs.inner.PendingLefts.{pending_lefts_of}
use Rattle.match_stream.specs.inner.Totals.{AdmitLevels}
use Rattle.match_stream.specs.inner.Nodes.{store_list, store_lists}
use Rattle.match_stream.proofs.LevelLemmas.{Made, length_after, last_new, last_after, all_made, last_counted, above_counted, all_new, all_after, risen_chosen, last_full, none_full, admit_part, admit_last}
use Rattle.match_stream.proofs.levels.Levels.step.Goals as goal

taken : (stores : Vec Store Global) (all : Vec Store Global) (rest : List Store) (last : Store) → all ≡ stores → all.items ≡ rest ++ last ∷ [] → store_lists stores.items ≡ store_lists rest ++ store_list last ∷ []
taken stores all rest last is split = ap (λ (v : Vec Store Global). store_lists v.items) (sym is) ∙ ap store_lists split ∙ map_append store_list rest (last ∷ [])

either : {G : Type 0} {P : Store → Type 0} {Q : Type 0} (o : Option Store) → IfSome o P → IfNone o Q → ((last : Store) → P last → G) → (Q → G) → G
either (Some last) p q f g = f last p
either None p q f g = g q

made_by : (w : Window) (t : ℤ) (f g n : List PartialMatchTree) (ys made : List (List PartialMatchTree)) (sets : List PartialMatchTree) (left budget : ℕ) → f ≡ g →
    made ≡ levels_after w t f n ys → sets ≡ levels_new w t f n ys → left + held_count (levels_after w t f n ys) ≡ budget → Made w t g n ys made sets left budget
made_by w t f g n ys made sets left budget e kept new repeated_sets =
    subst (λ (z : List PartialMatchTree). Made w t z n ys made sets left budget) e (record { kept = kept; new = new; counted = repeated_sets })

pub returns-in_err-made-clause-over_limit : goal.returns-in_err-made-clause-over_limit
returns-in_err-made-clause-over_limit c = λ e a.
    let w = c.args.self.now.window in let t = c.args.now in let n = partial_match_trees c.args.new.now in let f = map (held_with Single) n in
    let count = c.args.self.now.count in let xs = store_lists c.args.self.now.stores.items in
    let budget = c.args.budget.now.left in
    let ys = store_lists c.last_made-last.new.stores.items in
    let g = partial_match_trees c.in_ok-first.first.items in
    let failed : c.step_made.result ≡ Err stop.OverLimit = search rules in
    let same : g ≡ f = c.in_ok-first.ensures in
    let over : AdmitLevels w t f n ys → budget < held_count (levels_after w t f n ys) + length (levels_new w t f n ys)
    = subst (λ (z : List PartialMatchTree). AdmitLevels w t z n ys → budget < held_count (levels_after w t z n ys) + length (levels_new w t z n ys)) same (c.step_made.ensures.over_limit failed) in
    let some = c.step_made.ensures.some failed in
    let long = length-map c.last_made-last.new.stores.items store_list in
    let least : budget < held_count (levels_after w t f n (all_levels count xs)) =
    either c.last_made-last.result c.last_made-last.ensures.last c.last_made-last.ensures.none
    (λ last k.
    let whole = taken c.args.self.now.stores c.replace-stores.result c.last_made-last.new.stores.items last c.replace-stores.ensures.value k.0 in
    let b = subst (λ (z : List (List PartialMatchTree)). AdmitLevels w t f n (all_levels count z)) whole a in
    let h : length ys + 2 ≡ count = omega (arith, long, k.1) in
    subst (λ (z : List (List PartialMatchTree)). budget < held_count (levels_after w t f n (all_levels count z))) (sym whole)
    (last_full w t f n count ys (store_list last) budget h (over (admit_last w t f n count ys (store_list last) h b)) b))
    (λ k.
    let same_stores : ys ≡ xs = ap store_lists k.0 ∙ ap (λ (v : Vec Store Global). store_lists v.items) c.replace-stores.ensures.value in
    let more : 2 ≤ count → length ys + 1 < count = λ h. (let less = k.1 h in let len = ap length k.0 in omega (arith, less, len, long)) in
    let few = c.args.self.now.few in
    let all = length-map c.args.self.now.stores.items store_list in
    let len = ap length same_stores in
    let b = subst (λ (z : List (List PartialMatchTree)). AdmitLevels w t f n (all_levels count z)) (sym same_stores) a in
    subst (λ (z : List (List PartialMatchTree)). budget < held_count (levels_after w t f n (all_levels count z))) same_stores
    (none_full w t f n count ys budget (omega (arith, some, long)) (omega (arith, few, all, len)) more (over (admit_part w t f n ys _ b)) b)) in
    omega (arith, least)

pub invariant_of-self-2 : goal.invariant_of-self-2
invariant_of-self-2 c = record {
  few = (let long = sym (length-map c.in_ok-made.made.items store_list) ∙ ap length c.in_ok-made.ensures.kept
      ∙ length_after c.args.self.now.window c.args.now (partial_match_trees c.in_ok-first.first.items) (partial_match_trees c.args.new.now) (store_lists c.last_made-last.new.stores.items)
      ∙ length-map c.last_made-last.new.stores.items store_list in
      let few = c.args.self.now.few in
      let least : length c.last_made-last.new.stores.items ≤ c.args.self.now.count - 1 = either c.last_made-last.result c.last_made-last.ensures.last c.last_made-last.ensures.none
      (λ last k. omega (arith, k.1))
      (λ k. let len = ap length k.0 in let all = ap (λ (v : Vec Store Global). length v.items) c.replace-stores.ensures.value in omega (arith, len, all, few)) in
      omega (arith, long, least));
}

pub step_last-requires : goal.step_last-requires
step_last-requires c =
    let long = sym (length-map c.in_ok-made.made.items store_list) ∙ ap length c.in_ok-made.ensures.kept
    ∙ length_after c.args.self.now.window c.args.now (partial_match_trees c.in_ok-first.first.items) (partial_match_trees c.args.new.now) (store_lists c.last_made-last.new.stores.items)
    ∙ length-map c.last_made-last.new.stores.items store_list in
    omega (arith, long, c.in-Some.ensures.last.1)

pub returns-in_err-answer-in-Some-clause-over_limit : goal.returns-in_err-answer-in-Some-clause-over_limit
returns-in_err-answer-in-Some-clause-over_limit c = λ e a.
    let w = c.args.self.now.window in let t = c.args.now in let n = partial_match_trees c.args.new.now in let f = map (held_with Single) n in
    let count = c.args.self.now.count in let ahead = pending_lefts_of c.args.pending_lefts.now in
    let ys = store_lists c.last_made-last.new.stores.items in let x = store_list c.in-Some.store in
    let made = store_lists c.in_ok-made.made.items in let sets = partial_match_trees c.in_ok-made.sets.items in
    let whole = taken c.args.self.now.stores c.replace-stores.result c.last_made-last.new.stores.items c.in-Some.store c.replace-stores.ensures.value c.in-Some.ensures.last.0 in
    let h : length ys + 2 ≡ count = omega (arith, length-map c.last_made-last.new.stores.items store_list, c.in-Some.ensures.last.1) in
    let m = made_by w t (partial_match_trees c.in_ok-first.first.items) f n ys made sets c.step_made.new.budget.left c.args.budget.now.left c.in_ok-first.ensures
    c.in_ok-made.ensures.kept c.in_ok-made.ensures.new c.in_ok-made.ensures.counted in
    let failed : c.step_last.result ≡ Err stop.OverLimit = search rules in
    let over = c.step_last.ensures.over_limit failed in
    let all = last_counted w t f n count ys x made sets c.step_made.new.budget.left c.args.budget.now.left h m in
    let held = ap (λ z. held_count (levels_after w t f n (all_levels count z))) whole in
    let new = ap length (last_new w t ahead f n count ys x h ∙ ap (λ z. needed_trees count t ahead (levels_new w t f n (all_levels count z))) (sym whole)) in
    omega (arith, over, all, held, new)

pub returns-in_err-answer-in-None-clause-over_limit : goal.returns-in_err-answer-in-None-clause-over_limit
returns-in_err-answer-in-None-clause-over_limit c = λ e a.
    let w = c.args.self.now.window in let t = c.args.now in let n = partial_match_trees c.args.new.now in let f = map (held_with Single) n in
    let count = c.args.self.now.count in let xs = store_lists c.args.self.now.stores.items in
    let made = store_lists c.in_ok-made.made.items in let sets = partial_match_trees c.in_ok-made.sets.items in
    let same : store_lists c.last_made-last.new.stores.items ≡ xs = ap store_lists c.in-None.ensures.none.0 ∙ ap (λ (v : Vec Store Global). store_lists v.items) c.replace-stores.ensures.value in
    let m = subst (λ (z : List (List PartialMatchTree)). Made w t f n z made sets c.step_made.new.budget.left c.args.budget.now.left) same
    (made_by w t (partial_match_trees c.in_ok-first.first.items) f n (store_lists c.last_made-last.new.stores.items) made sets c.step_made.new.budget.left c.args.budget.now.left c.in_ok-first.ensures
    c.in_ok-made.ensures.kept c.in_ok-made.ensures.new c.in_ok-made.ensures.counted) in
    let failed : c.raise.result ≡ Err stop.OverLimit = search rules in
    let over = c.raise.ensures.over_limit failed in
    let all = above_counted w t f n count xs made sets c.step_made.new.budget.left c.args.budget.now.left m in
    omega (arith, over, all)

pub returns-in_ok-answer-in-Some-clause-new : goal.returns-in_ok-answer-in-Some-clause-new
returns-in_ok-answer-in-Some-clause-new c =
    let w = c.args.self.now.window in let t = c.args.now in let n = partial_match_trees c.args.new.now in let f = map (held_with Single) n in
    let count = c.args.self.now.count in let ahead = pending_lefts_of c.args.pending_lefts.now in
    let ys = store_lists c.last_made-last.new.stores.items in let x = store_list c.in-Some.store in
    let whole = taken c.args.self.now.stores c.replace-stores.result c.last_made-last.new.stores.items c.in-Some.store c.replace-stores.ensures.value c.in-Some.ensures.last.0 in
    let h : length ys + 2 ≡ count = omega (arith, length-map c.last_made-last.new.stores.items store_list, c.in-Some.ensures.last.1) in
    c.in_ok-answer-in-Some.ensures.new ∙ last_new w t ahead f n count ys x h ∙ ap (λ z. needed_trees count t ahead (levels_new w t f n (all_levels count z))) (sym whole)

pub returns-in_ok-answer-in-Some-clause-kept : goal.returns-in_ok-answer-in-Some-clause-kept
returns-in_ok-answer-in-Some-clause-kept c =
    let w = c.args.self.now.window in let t = c.args.now in let n = partial_match_trees c.args.new.now in let f = map (held_with Single) n in
    let count = c.args.self.now.count in
    let ys = store_lists c.last_made-last.new.stores.items in let x = store_list c.in-Some.store in
    let made = store_lists c.in_ok-made.made.items in let sets = partial_match_trees c.in_ok-made.sets.items in
    let whole = taken c.args.self.now.stores c.replace-stores.result c.last_made-last.new.stores.items c.in-Some.store c.replace-stores.ensures.value c.in-Some.ensures.last.0 in
    let h : length ys + 2 ≡ count = omega (arith, length-map c.last_made-last.new.stores.items store_list, c.in-Some.ensures.last.1) in
    let m = made_by w t (partial_match_trees c.in_ok-first.first.items) f n ys made sets c.step_made.new.budget.left c.args.budget.now.left c.in_ok-first.ensures
    c.in_ok-made.ensures.kept c.in_ok-made.ensures.new c.in_ok-made.ensures.counted in
    ap (λ k. all_levels k (store_lists c.step_last.new.self.stores.items)) c.in_ok-answer-in-Some.ensures.count
    ∙ all_made w t f n count ys x (store_lists c.step_last.new.self.stores.items) h
    (c.in_ok-answer-in-Some.ensures.kept ∙ last_after w t f n count ys x made sets h m.kept m.new)
    ∙ ap (λ z. levels_after w t f n (all_levels count z)) (sym whole)

pub returns-in_ok-answer-in-Some-clause-counted : goal.returns-in_ok-answer-in-Some-clause-counted
returns-in_ok-answer-in-Some-clause-counted c =
    let w = c.args.self.now.window in let t = c.args.now in let n = partial_match_trees c.args.new.now in let f = map (held_with Single) n in
    let count = c.args.self.now.count in
    let ys = store_lists c.last_made-last.new.stores.items in let x = store_list c.in-Some.store in
    let made = store_lists c.in_ok-made.made.items in let sets = partial_match_trees c.in_ok-made.sets.items in
    let whole = taken c.args.self.now.stores c.replace-stores.result c.last_made-last.new.stores.items c.in-Some.store c.replace-stores.ensures.value c.in-Some.ensures.last.0 in
    let h : length ys + 2 ≡ count = omega (arith, length-map c.last_made-last.new.stores.items store_list, c.in-Some.ensures.last.1) in
    let m = made_by w t (partial_match_trees c.in_ok-first.first.items) f n ys made sets c.step_made.new.budget.left c.args.budget.now.left c.in_ok-first.ensures
    c.in_ok-made.ensures.kept c.in_ok-made.ensures.new c.in_ok-made.ensures.counted in
    let all = last_counted w t f n count ys x made sets c.step_made.new.budget.left c.args.budget.now.left h m in
    let held = ap (λ z. held_count (levels_after w t f n (all_levels count z))) whole in
    omega (arith, all, held, c.in_ok-answer-in-Some.ensures.counted)

pub returns-in_ok-answer-in-None-clause-new : goal.returns-in_ok-answer-in-None-clause-new
returns-in_ok-answer-in-None-clause-new c =
    let w = c.args.self.now.window in let t = c.args.now in let n = partial_match_trees c.args.new.now in let f = map (held_with Single) n in
    let count = c.args.self.now.count in let ahead = pending_lefts_of c.args.pending_lefts.now in let xs = store_lists c.args.self.now.stores.items in
    let made = store_lists c.in_ok-made.made.items in let sets = partial_match_trees c.in_ok-made.sets.items in
    let same : store_lists c.last_made-last.new.stores.items ≡ xs = ap store_lists c.in-None.ensures.none.0 ∙ ap (λ (v : Vec Store Global). store_lists v.items) c.replace-stores.ensures.value in
    let m = subst (λ (z : List (List PartialMatchTree)). Made w t f n z made sets c.step_made.new.budget.left c.args.budget.now.left) same
    (made_by w t (partial_match_trees c.in_ok-first.first.items) f n (store_lists c.last_made-last.new.stores.items) made sets c.step_made.new.budget.left c.args.budget.now.left c.in_ok-first.ensures
    c.in_ok-made.ensures.kept c.in_ok-made.ensures.new c.in_ok-made.ensures.counted) in
    let long : length made ≡ length xs = ap length m.kept ∙ length_after w t f n xs in
    let all = length-map c.args.self.now.stores.items store_list in
    let few = c.args.self.now.few in
    let value = ap (λ (v : Vec Store Global). length v.items) c.replace-stores.ensures.value in
    let more : 2 ≤ count → length xs + 1 < count = λ k. (let less = c.in-None.ensures.none.1 k in omega (arith, less, all, value)) in
    let up = all_new w t f n count xs made sets m.kept m.new in
    c.in_ok-answer-in-None.ensures.new
    ∙ ap (λ k. repeated_sets count (risen (count - 1 - k) sets)) long
    ∙ risen_chosen w t ahead f n count xs sets (omega (arith, few, all)) more (ap (λ k. risen (count - 1 - k) sets) (sym long) ∙ up)

pub returns-in_ok-answer-in-None-clause-kept : goal.returns-in_ok-answer-in-None-clause-kept
returns-in_ok-answer-in-None-clause-kept c =
    let w = c.args.self.now.window in let t = c.args.now in let n = partial_match_trees c.args.new.now in let f = map (held_with Single) n in
    let count = c.args.self.now.count in let xs = store_lists c.args.self.now.stores.items in
    let made = store_lists c.in_ok-made.made.items in let sets = partial_match_trees c.in_ok-made.sets.items in
    let same : store_lists c.last_made-last.new.stores.items ≡ xs = ap store_lists c.in-None.ensures.none.0 ∙ ap (λ (v : Vec Store Global). store_lists v.items) c.replace-stores.ensures.value in
    let m = subst (λ (z : List (List PartialMatchTree)). Made w t f n z made sets c.step_made.new.budget.left c.args.budget.now.left) same
    (made_by w t (partial_match_trees c.in_ok-first.first.items) f n (store_lists c.last_made-last.new.stores.items) made sets c.step_made.new.budget.left c.args.budget.now.left c.in_ok-first.ensures
    c.in_ok-made.ensures.kept c.in_ok-made.ensures.new c.in_ok-made.ensures.counted) in
    c.in_ok-answer-in-None.ensures.kept ∙ all_after w t f n count xs made sets m.kept m.new

pub returns-in_ok-answer-in-None-clause-counted : goal.returns-in_ok-answer-in-None-clause-counted
returns-in_ok-answer-in-None-clause-counted c =
    let w = c.args.self.now.window in let t = c.args.now in let n = partial_match_trees c.args.new.now in let f = map (held_with Single) n in
    let count = c.args.self.now.count in let xs = store_lists c.args.self.now.stores.items in
    let made = store_lists c.in_ok-made.made.items in let sets = partial_match_trees c.in_ok-made.sets.items in
    let same : store_lists c.last_made-last.new.stores.items ≡ xs = ap store_lists c.in-None.ensures.none.0 ∙ ap (λ (v : Vec Store Global). store_lists v.items) c.replace-stores.ensures.value in
    let m = subst (λ (z : List (List PartialMatchTree)). Made w t f n z made sets c.step_made.new.budget.left c.args.budget.now.left) same
    (made_by w t (partial_match_trees c.in_ok-first.first.items) f n (store_lists c.last_made-last.new.stores.items) made sets c.step_made.new.budget.left c.args.budget.now.left c.in_ok-first.ensures
    c.in_ok-made.ensures.kept c.in_ok-made.ensures.new c.in_ok-made.ensures.counted) in
    let all = above_counted w t f n count xs made sets c.step_made.new.budget.left c.args.budget.now.left m in
    omega (arith, all, c.in_ok-answer-in-None.ensures.counted)
