use Rattle.std.proofs.Common.{◌<◌, ◌+◌, ◌-◌, ◌/◌, length, sym, ◌∙◌, refl, arith}
use Rattle.match_pruning.specs.inner.Heaps.{IsChild, time_at}
use Rattle.match_pruning.proofs.HeapLemmas.{parent_of, ascend_begins, ascend_on, ascend_tops, ascend_rests, times_swapped, same_swapped}
use Rattle.match_pruning.proofs.RetainsLemmas.{lt_false}
use Rattle.match_bindings.proofs.IsBindingLemmas.{lt_true}
use Rattle.match_pruning.proofs.heap.sift_up.Goals as goal

pub loop-at-init : goal.loop-at-init
loop-at-init c = record {
  below = omega arith;
  many = refl;
  ascends = λ d. ascend_begins (time_at c.args.held.now d) c.args.place (c.requires.heap d);
  same = λ weight. refl;
}

pub loop-at-preserved : goal.loop-at-preserved
loop-at-preserved c =
    let held = c.loop-at.held in let at = c.loop-at.at in let parent = (at - 1) / 4 in let new = c.swap.new.self in
    let some : 0 < at = c.loop-at-test.true in
    let child : IsChild parent at = parent_of at some in
    let below : parent < at = (let low = child.0 in omega (arith, low)) in
    let inside : at < length held = omega (arith, c.loop-at.invariant.below, c.loop-at.invariant.many, c.requires.inside) in
    record {
      below = omega (arith, below, c.loop-at.invariant.below);
      many = c.swap.ensures.len ∙ c.loop-at.invariant.many;
      ascends = λ d. ascend_on (time_at held d) (time_at new d) (c.args.place + 1) at parent child (omega (arith, c.loop-at.invariant.below))
          (times_swapped held new parent at d (omega (arith, below, inside)) inside c.swap.ensures.after)
          (lt_true (time_at held d at) (time_at held d parent) (sym (c.is_earlier.ensures d) ∙ c.if-not-is_earlier.false))
          (c.loop-at.invariant.ascends d);
      same = λ weight. same_swapped held new c.swap.ensures.permutation weight ∙ c.loop-at.invariant.same weight;
    }

pub returns-then-not-is_earlier-clause-heap : goal.returns-then-not-is_earlier-clause-heap
returns-then-not-is_earlier-clause-heap c = λ d.
    let held = c.loop-at.held in let at = c.loop-at.at in let parent = (at - 1) / 4 in
    ascend_rests (time_at held d) (c.args.place + 1) at parent (parent_of at c.loop-at-test.true)
    (lt_false (time_at held d at) (time_at held d parent) (sym (c.is_earlier.ensures d) ∙ c.if-not-is_earlier.true))
    (c.loop-at.invariant.ascends d)

pub returns-then-not-is_earlier-clause-same : goal.returns-then-not-is_earlier-clause-same
returns-then-not-is_earlier-clause-same c = c.loop-at.invariant.same

pub returns-clause-heap : goal.returns-clause-heap
returns-clause-heap c = λ d. ascend_tops (time_at c.loop-at.held d) (c.args.place + 1) c.loop-at.at (omega (arith, c.loop-at-test.false)) (c.loop-at.invariant.ascends d)

pub returns-clause-same : goal.returns-clause-same
returns-clause-same c = c.loop-at.invariant.same
