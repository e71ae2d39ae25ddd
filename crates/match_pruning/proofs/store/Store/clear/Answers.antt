use Rattle.std.proofs.Common.{◌≡◌, ◌≤ℤ◌, List, get_or, sym, ◌∙◌, ap, subst, arith}
use Rattle.std.specs.Prelude.{ℤ, true, false, slice_get}
use Rattle.std.specs.List.{sum_by}
use Rattle.match_pruning.specs.declared.partial_match.PartialMatch.{PartialMatch}
use Rattle.match_pruning.specs.inner.Heaps.{time_at}
use Rattle.match_pruning.specs.inner.Retains.{retains}
use Rattle.match_pruning.specs.inner.PartialMatches.{partial_match_tree, partial_match_trees}
use Rattle.match_pruning.proofs.OldestLemmas.{all_kept}
use Rattle.match_pruning.proofs.HeapLemmas.{first_is_earliest, first_of, same_kept, same_without}
use Rattle.match_pruning.proofs.store.Store.clear.Goals as goal

pub loop-first-init : goal.loop-first-init
loop-first-init c = record {
  heaped = c.heapify.ensures.heaped;
  same = same_kept c.args.window.now c.args.now (partial_match_trees c.args.self.now.held.items) (partial_match_trees c.heapify.new.self.held.items) c.heapify.ensures.same;
}

pub returns-then-is_retained : goal.returns-then-is_retained
returns-then-is_retained c = λ weight.
    let store = c.loop-first.self in let first = c.in-Some.first.now in
    let is : (d : PartialMatch) → first ≡ get_or store.held.items 0 d = λ d. first_of store.held.items first d (c.in-Some.ensures.value ∙ ap (λ (y : List PartialMatch). slice_get y 0) c.deref.ensures.value) in
    let retains_now : retains c.args.window.now first.earliest c.args.now ≡ true = sym c.is_retained.ensures ∙ c.if-is_retained.true in
    ap (sum_by weight) (all_kept c.args.window.now first.earliest c.args.now store.held.items retains_now
    (λ i d inside. subst (λ (e : ℤ). e ≤ℤ (get_or store.held.items i d).earliest) (sym (ap (λ (x : PartialMatch). x.earliest) (is d)))
    (first_is_earliest (time_at store.held.items d) store.heaped i (store.heap d) (omega (arith, inside, c.loop-first.invariant.heaped)))))
    ∙ c.loop-first.invariant.same weight

pub loop-first-preserved : goal.loop-first-preserved
loop-first-preserved c =
    let store = c.loop-first.self in let first = c.in-Some.first.now in
    let is : first ≡ get_or store.held.items 0 first = first_of store.held.items first first (c.in-Some.ensures.value ∙ ap (λ (y : List PartialMatch). slice_get y 0) c.deref.ensures.value) in
    let gone : retains c.args.window.now (get_or store.held.items 0 first).earliest c.args.now ≡ false =
    ap (λ (x : PartialMatch). retains c.args.window.now x.earliest c.args.now) (sym is) ∙ sym c.is_retained.ensures ∙ c.if-is_retained.false in
    record {
      heaped = c.drop_first.ensures.heaped;
      same = λ weight. same_without c.args.window.now c.args.now (partial_match_tree (get_or store.held.items 0 first)) (partial_match_trees store.held.items) (partial_match_trees c.drop_first.new.self.held.items) gone
          (c.drop_first.ensures.others first) weight ∙ c.loop-first.invariant.same weight;
    }
