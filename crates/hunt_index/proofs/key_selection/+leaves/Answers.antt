use Rattle.std.proofs.Common.{◌+◌, inr, List, Option, drop, sym, subst}
use Rattle.pattern_types.specs.declared.leaf.Leaf.{Leaf}
use Rattle.pattern_types.specs.PlainLeaf.{plain_leaf, leaves_of_list}
use Rattle.match_comparisons.specs.Tests.{HoldsAt, SomeHold}
use Rattle.hunt_index.specs.Definite.{IsDefinite}
use Rattle.hunt_index.specs.declared.index_key.IndexKey.{IndexKey}
use Rattle.hunt_index.specs.inner.IndexKeys.{AreIndexKeys, IndexKeys, AreSufficient, Sufficient}
use Rattle.match_comparisons.proofs.ContainsLemmas.{drop_next, drop_whole}
use Rattle.hunt_index.proofs.PartsLemmas.{StillAll, StillSome, StillSufficient, ok_all, ok_any, all_next, all_over, some_next, some_over, sufficient_any, sufficient_all, sufficient_none, sufficient_next, sufficient_never}
use Rattle.hunt_index.proofs.key_selection.+leaves.Goals as goal

pub index_keys_of-returns-in_ok-index_keys-in-Test-clause-sufficient : goal.index_keys_of-returns-in_ok-index_keys-in-Test-clause-sufficient
index_keys_of-returns-in_ok-index_keys-in-Test-clause-sufficient t c = rw c.in-Test.is c.in_ok-index_keys-in-Test.ensures.sufficient

pub index_keys_of-returns-in-All-clause-needed : goal.index_keys_of-returns-in-All-clause-needed
index_keys_of-returns-in-All-clause-needed t c = rw c.in-All.is (ok_all c.index_keys_of_all.result c.in-All.parts (rw c.as_slice.ensures at c.index_keys_of_all.ensures))

pub index_keys_of-returns-in-All-clause-sufficient : goal.index_keys_of-returns-in-All-clause-sufficient
index_keys_of-returns-in-All-clause-sufficient t c = rw c.in-All.is (sufficient_all c.index_keys_of_all.result c.in-All.parts)

pub index_keys_of-returns-in-Any-clause-sufficient : goal.index_keys_of-returns-in-Any-clause-sufficient
index_keys_of-returns-in-Any-clause-sufficient t c = rw c.in-Any.is (sufficient_any c.index_keys_of_some.result c.in-Any.parts (rw c.as_slice-in-Any.ensures at c.index_keys_of_some.ensures.sufficient))

pub index_keys_of-returns-in-Any-clause-needed : goal.index_keys_of-returns-in-Any-clause-needed
index_keys_of-returns-in-Any-clause-needed t c = rw c.in-Any.is (ok_any c.index_keys_of_some.result c.in-Any.parts (rw c.as_slice-in-Any.ensures at c.index_keys_of_some.ensures.needed))

pub index_keys_of_all-loop-part-preserved : goal.index_keys_of_all-loop-part-preserved
index_keys_of_all-loop-part-preserved t c =
    let i = c.loop-part.part-index in
    let parts = c.args.parts.now in
    let part = c.part-item.result in
    all_next parts (drop i parts) (drop (i + 1) parts) part c.loop-part.fewest c.in_ok-own.own c.more_selective-fewest.result
    (drop_next parts i part c.loop-part-test.true c.part-item.is) c.loop-part.invariant c.in_ok-own.ensures.needed c.more_selective-fewest.ensures

pub index_keys_of_all-returns : goal.index_keys_of_all-returns
index_keys_of_all-returns t c =
    let parts = c.args.parts.now in
    all_over parts c.loop-part.fewest (subst (λ (ls : List Leaf). StillAll parts ls c.loop-part.fewest) (drop_whole parts c.loop-part.part-index c.loop-part-test.false) c.loop-part.invariant)

pub index_keys_of_some-loop-part-preserved : goal.index_keys_of_some-loop-part-preserved
index_keys_of_some-loop-part-preserved t c =
    let i = c.loop-part.part-index in
    let parts = c.args.parts.now in
    let part = c.part-item.result in
    let is_own = c.in-Ok-Some.field-0-is in
    let own = c.as_slice.result.now in
    let sufficient = subst (λ (index_keys : List IndexKey). IsDefinite (plain_leaf part) → AreSufficient (λ objects root. HoldsAt objects root (plain_leaf part)) index_keys) (sym c.as_slice.ensures)
    (subst (λ (found : Option (List IndexKey)). IsDefinite (plain_leaf part) → Sufficient (λ objects root. HoldsAt objects root (plain_leaf part)) found) is_own c.in-Ok-Some.ensures.sufficient) in
    let cut = drop_next parts i part c.loop-part-test.true c.part-item.is in (
      some_next parts (drop i parts) (drop (i + 1) parts) part c.loop-part.index_keys.items c.as_slice.result.now c.extend_from_slice.new.self.items
          cut c.loop-part.invariant.0
          (subst (AreIndexKeys (λ objects root. HoldsAt objects root (plain_leaf part))) (sym c.as_slice.ensures)
          (subst (IndexKeys (λ objects root. HoldsAt objects root (plain_leaf part))) is_own c.in-Ok-Some.ensures.needed)) c.in_ok-extend_from_slice-in-Ok-Some.ensures.items,
      sufficient_next parts (drop i parts) (drop (i + 1) parts) part c.loop-part.index_keys.items cut c.loop-part.invariant.1 own c.extend_from_slice.new.self.items sufficient
          c.in_ok-extend_from_slice-in-Ok-Some.ensures.items,
    )

pub index_keys_of_some-loop-part-init : goal.index_keys_of_some-loop-part-init
index_keys_of_some-loop-part-init t c =
    let parts = c.args.parts.now in (
      λ objects root hold. inr hold,
      subst (StillSufficient parts parts) (sym c.new-index_keys.ensures.items) (sufficient_none parts),
    )

pub index_keys_of_some-returns-in-Ok-None-clause-sufficient : goal.index_keys_of_some-returns-in-Ok-None-clause-sufficient
index_keys_of_some-returns-in-Ok-None-clause-sufficient t c =
    let i = c.loop-part.part-index in
    let parts = c.args.parts.now in
    let part = c.part-item.result in
    sufficient_never parts (drop i parts) (drop (i + 1) parts) part c.loop-part.index_keys.items (drop_next parts i part c.loop-part-test.true c.part-item.is) c.loop-part.invariant.1
    (subst (λ (found : Option (List IndexKey)). IsDefinite (plain_leaf part) → Sufficient (λ objects root. HoldsAt objects root (plain_leaf part)) found) c.in-Ok-None.field-0-is c.in-Ok-None.ensures.sufficient)

pub index_keys_of_some-returns-clause-needed : goal.index_keys_of_some-returns-clause-needed
index_keys_of_some-returns-clause-needed t c =
    let parts = c.args.parts.now in
    let still = subst (λ (ls : List Leaf). StillSome parts ls c.loop-part.index_keys.items) (drop_whole parts c.loop-part.part-index c.loop-part-test.false) c.loop-part.invariant.0 in
    subst (AreIndexKeys (λ objects root. SomeHold objects root (leaves_of_list parts))) (sym c.from_vec.ensures) (some_over parts c.loop-part.index_keys.items still)

pub index_keys_of_some-returns-clause-sufficient : goal.index_keys_of_some-returns-clause-sufficient
index_keys_of_some-returns-clause-sufficient t c = λ definite.
    subst (AreSufficient (λ objects root. SomeHold objects root (leaves_of_list c.args.parts.now))) (sym c.from_vec.ensures) (c.loop-part.invariant.1 definite).sufficient
