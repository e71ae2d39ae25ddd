use Rattle.std.proofs.Common.{◌≡◌, ◌++◌, ◌∷◌, [], Err, length, rules, sym, ◌∙◌, ap, arith, subst, append_assoc}
use Rattle.match_pruning.specs.declared.stop.Stop.TheVariants as stop
use Rattle.match_stream.specs.RetainedPart.{held_count}
use Rattle.match_pruning.specs.inner.PartialMatches.{partial_match_trees}
use Rattle.match_pruning.specs.inner.Steps.{levels_new, levels_after, stored, match_joins, kept}
use Rattle.match_pruning.specs.declared.join.Join.TheVariants as join
use Rattle.match_stream.specs.inner.Totals.{AdmitLevels}
use Rattle.match_stream.specs.inner.Nodes.{store_list, store_lists}
use Rattle.match_bindings.proofs.ListLemmas.{map_append}
use Rattle.match_stream.proofs.LevelLemmas.{after_more, new_more, held_more, made_full}
use Rattle.match_pruning.proofs.NeededLemmas.{needed_all}
use Rattle.match_stream.proofs.level_step.step_made.Goals as goal

pub loop-store-preserved : goal.loop-store-preserved
loop-store-preserved c =
    let w = c.args.window.now in let t = c.args.now in
    let first = partial_match_trees c.args.first.items in let new = partial_match_trees c.args.new.now in
    let made = store_lists c.loop-store.made.items in let sets = partial_match_trees c.loop-store.sets.items in
    let xs = store_lists c.loop-store.yielded in let x = store_list c.in-Some.store in
    let split : store_lists (c.loop-store.yielded ++ c.in-Some.store ∷ []) ≡ xs ++ x ∷ [] = map_append store_list c.loop-store.yielded (c.in-Some.store ∷ []) in
    record {
      kept = ap store_lists c.in_ok-push.ensures.items
          ∙ map_append store_list c.loop-store.made.items (c.step_level.new.level ∷ [])
          ∙ ap (λ z. made ++ z ∷ []) c.in_ok-above.ensures.kept
          ∙ after_more w t first new xs x made sets c.loop-store.invariant.kept c.loop-store.invariant.new
          ∙ ap (levels_after w t first new) (sym split);
      new = c.in_ok-above.ensures.new ∙ needed_all t _ ∙ new_more w t first new xs x ∙ ap (levels_new w t first new) (sym split);
      counted = (let more = ap held_count (ap (levels_after w t first new) split ∙ sym (after_more w t first new xs x made sets c.loop-store.invariant.kept c.loop-store.invariant.new)) ∙ held_more made (stored w t x sets) in
          let before = ap held_count c.loop-store.invariant.kept in
          omega (arith, more, before, c.loop-store.invariant.counted, c.in_ok-above.ensures.counted));
      rest = append_assoc c.loop-store.yielded (c.in-Some.store ∷ []) c.next.new.self.rest.items
          ∙ sym (ap (λ z. c.loop-store.yielded ++ z) c.in-Some.ensures.steps.0) ∙ c.loop-store.invariant.rest;
    }

pub returns-in_err-above-clause-over_limit : goal.returns-in_err-above-clause-over_limit
returns-in_err-above-clause-over_limit c = λ e a.
    let w = c.args.window.now in let t = c.args.now in
    let first = partial_match_trees c.args.first.items in let new = partial_match_trees c.args.new.now in
    let ys = store_lists c.loop-store.yielded in let x = store_list c.in-Some.store in let rest = store_lists c.next.new.self.rest.items in
    let failed : c.step_level.result ≡ Err stop.OverLimit = search rules in
    let over = c.step_level.ensures.over_limit failed in
    let split : c.args.stores.items ≡ c.loop-store.yielded ++ c.in-Some.store ∷ c.next.new.self.rest.items
    = sym c.loop-store.invariant.rest ∙ ap (λ z. c.loop-store.yielded ++ z) c.in-Some.ensures.steps.0 in
    let whole : store_lists c.args.stores.items ≡ ys ++ x ∷ rest = ap store_lists split ∙ map_append store_list c.loop-store.yielded (c.in-Some.store ∷ c.next.new.self.rest.items) in
    let sets = ap (λ z. length (stored w t x z)) c.loop-store.invariant.new in
    let all = ap length (needed_all t (match_joins join.Repeats (kept w t x) new)) in
    let full = made_full w t first new ys x rest c.args.budget.now.left c.loop-store.budget.left c.loop-store.invariant.counted (omega (arith, over, sets, all)) (subst (AdmitLevels w t first new) whole a) in
    let held = ap (λ z. held_count (levels_after w t first new z)) whole in
    let last = ap (λ z. length (levels_new w t first new z)) whole in
    omega (arith, full, held, last)
