use Rattle.std.proofs.Common.{ℕ, ◌≡◌, ◌<◌, length, sym, ◌∙◌, refl, arith, subst}
use Rattle.match_pruning.specs.inner.Heaps.{time_at}
use Rattle.match_pruning.proofs.HeapLemmas.{sink_begins, sink_on, sink_rests, sink_ends, times_swapped, same_swapped}
use Rattle.match_pruning.proofs.RetainsLemmas.{lt_false}
use Rattle.match_bindings.proofs.IsBindingLemmas.{lt_true}
use Rattle.match_pruning.proofs.heap.sift_down.Goals as goal

pub loop-child-init : goal.loop-child-init
loop-child-init c = record {
  many = refl;
  sinks = λ d. sink_begins (time_at c.args.held.now d) (length c.args.held.now) 0 refl (c.requires d);
  same = λ weight. refl;
}

pub loop-child-preserved : goal.loop-child-preserved
loop-child-preserved c =
    let held = c.loop-child.held in let at = c.loop-child.at in let child = c.in-Some.child in let new = c.swap.new.self in
    let least = c.in-Some.ensures.some in
    let below : at < child = (let low = least.is_child.0 in omega (arith, low)) in
    let same : length new ≡ length held = c.swap.ensures.len in
    record {
      many = c.swap.ensures.len ∙ c.loop-child.invariant.many;
      sinks = λ d. subst (λ (n : ℕ). Rattle.match_pruning.proofs.HeapLemmas.Sinks (time_at new d) n child) (sym same)
          (sink_on (time_at held d) (time_at new d) (length held) at child least.is_child least.inside
          (times_swapped held new at child d (let inside = least.inside in omega (arith, below, inside)) least.inside c.swap.ensures.after)
          (lt_true (time_at held d child) (time_at held d at) (sym (c.is_earlier.ensures d) ∙ c.if-not-is_earlier.false))
          (least.earliest d) (c.loop-child.invariant.sinks d));
      same = λ weight. same_swapped held new c.swap.ensures.permutation weight ∙ c.loop-child.invariant.same weight;
    }

pub returns-then-not-is_earlier-clause-heap : goal.returns-then-not-is_earlier-clause-heap
returns-then-not-is_earlier-clause-heap c = λ d.
    let held = c.loop-child.held in let at = c.loop-child.at in let child = c.in-Some.child in
    sink_rests (time_at held d) (length held) at child
    (lt_false (time_at held d child) (time_at held d at) (sym (c.is_earlier.ensures d) ∙ c.if-not-is_earlier.true))
    (c.in-Some.ensures.some.earliest d) (c.loop-child.invariant.sinks d)

pub returns-then-not-is_earlier-clause-same : goal.returns-then-not-is_earlier-clause-same
returns-then-not-is_earlier-clause-same c = c.loop-child.invariant.same

pub returns-clause-heap : goal.returns-clause-heap
returns-clause-heap c = λ d. sink_ends (time_at c.loop-child.held d) (length c.loop-child.held) c.loop-child.at c.in_default.ensures.none (c.loop-child.invariant.sinks d)

pub returns-clause-same : goal.returns-clause-same
returns-clause-same c = c.loop-child.invariant.same
