use Rattle.std.proofs.Common.{rules, ℕ, ◌+◌, List, [], ◌∷◌, ◌++◌, drop, refl, sym, ap, subst, ◌∙◌}
use Rattle.stix_bundles.specs.Objects.{data_in}
use Rattle.pattern_types.specs.declared.leaf.Leaf.{Leaf, the_lemmas}
use Rattle.pattern_types.specs.PlainLeaf.{plain_leaf, leaves_of_list}
use Rattle.pattern_types.specs.Soundness.{IsSoundLeaf, AreSoundLeaves}
use Rattle.match_comparisons.specs.Tests.{HoldsAt, AllHold, SomeHold}
use Rattle.match_comparisons.specs.inner.Splits.{SplitsPositions}
use Rattle.match_comparisons.proofs.ContainsLemmas.{drop_next, drop_whole}
use Rattle.match_comparisons.proofs.SplitsLemmas.{StillHeld, StillFailed, all_next, some_next, all_over, some_over}
use Rattle.match_comparisons.proofs.LeavesLemmas.{sound_all, sound_any, ok_all, ok_any}
use Rattle.match_comparisons.proofs.split.+leaves.Goals as goal

pub split_by-split_by_all-requires : goal.split_by-split_by_all-requires
split_by-split_by_all-requires t c =
    let sound = sound_all c.in-All.parts (subst (λ (l : Leaf). IsSoundLeaf (plain_leaf l)) c.in-All.is c.requires) in
    (search (rules, the_lemmas), subst (λ (ls : List Leaf). AreSoundLeaves (leaves_of_list ls)) (sym c.as_slice.ensures) sound)

pub split_by-split_by_some-requires : goal.split_by-split_by_some-requires
split_by-split_by_some-requires t c =
    let sound = sound_any c.in-Any.parts (subst (λ (l : Leaf). IsSoundLeaf (plain_leaf l)) c.in-Any.is c.requires) in
    (search (rules, the_lemmas), subst (λ (ls : List Leaf). AreSoundLeaves (leaves_of_list ls)) (sym c.as_slice-in-Any.ensures) sound)

pub split_by-returns-in-Test : goal.split_by-returns-in-Test
split_by-returns-in-Test t c = rw c.in-Test.is c.split_by_test.ensures

pub split_by-returns-in-All : goal.split_by-returns-in-All
split_by-returns-in-All t c =
    rw c.in-All.is (ok_all c.split_by_all.result (data_in c.args.bundle.now) c.args.asked.now c.in-All.parts (rw c.as_slice.ensures at c.split_by_all.ensures))

pub split_by-returns-in-Any : goal.split_by-returns-in-Any
split_by-returns-in-Any t c =
    rw c.in-Any.is (ok_any c.split_by_some.result (data_in c.args.bundle.now) c.args.asked.now c.in-Any.parts (rw c.as_slice-in-Any.ensures at c.split_by_some.ensures))

pub split_by_all-loop-part-preserved : goal.split_by_all-loop-part-preserved
split_by_all-loop-part-preserved t c =
    let i = c.loop-part.part-index in
    let parts = c.args.parts.now in
    let part = c.part-item.result in
    let objects = data_in c.args.bundle.now in
    let later = drop (i + 1) parts in
    let here = drop_next parts i part c.loop-part-test.true c.part-item.is in
    let sound = subst (λ (ls : List Leaf). AreSoundLeaves (leaves_of_list ls)) here c.loop-part.invariant.0 in
    let still = subst (λ (ls : List Leaf). StillHeld (λ (at : ℕ). AllHold objects at (leaves_of_list parts)) (λ (at : ℕ). AllHold objects at (leaves_of_list ls))
    c.args.asked.now c.loop-part.held.items c.loop-part.failed.items) here c.loop-part.invariant.1 in
    let splits = subst (λ (held : List ℕ). SplitsPositions (λ (at : ℕ). HoldsAt objects at (plain_leaf part)) held c.in_ok-one.one) c.as_slice.ensures.value c.in_ok-one.ensures in (
      sound.1,
      all_next (λ (at : ℕ). AllHold objects at (leaves_of_list parts)) (λ (at : ℕ). AllHold objects at (leaves_of_list (part ∷ later))) (λ (at : ℕ). AllHold objects at (leaves_of_list later))
          (λ (at : ℕ). HoldsAt objects at (plain_leaf part)) c.args.asked.now c.loop-part.held.items c.loop-part.failed.items c.in_ok-one.one.held.items
          c.extend_from_slice.new.self.items c.in_ok-one.one splits (λ at. (λ all. all, λ all. all)) still refl
          (c.in_ok-extend_from_slice.ensures.items ∙ ap (λ (l : List ℕ). c.loop-part.failed.items ++ l) c.as_slice-in-loop-part.ensures.value),
    )

pub split_by_all-returns : goal.split_by_all-returns
split_by_all-returns t c =
    let parts = c.args.parts.now in
    let objects = data_in c.args.bundle.now in
    let over = drop_whole parts c.loop-part.part-index c.loop-part-test.false in
    let still = subst (λ (ls : List Leaf). StillHeld (λ (at : ℕ). AllHold objects at (leaves_of_list parts)) (λ (at : ℕ). AllHold objects at (leaves_of_list ls))
    c.args.asked.now c.loop-part.held.items c.loop-part.failed.items) over c.loop-part.invariant.1 in
    all_over (λ (at : ℕ). AllHold objects at (leaves_of_list parts)) (λ (at : ℕ). AllHold objects at (leaves_of_list [])) c.args.asked.now
    (record { held = c.loop-part.held; failed = c.loop-part.failed }) (λ at. tt) still

pub split_by_some-loop-part-preserved : goal.split_by_some-loop-part-preserved
split_by_some-loop-part-preserved t c =
    let i = c.loop-part.part-index in
    let parts = c.args.parts.now in
    let part = c.part-item.result in
    let objects = data_in c.args.bundle.now in
    let later = drop (i + 1) parts in
    let here = drop_next parts i part c.loop-part-test.true c.part-item.is in
    let sound = subst (λ (ls : List Leaf). AreSoundLeaves (leaves_of_list ls)) here c.loop-part.invariant.0 in
    let still = subst (λ (ls : List Leaf). StillFailed (λ (at : ℕ). SomeHold objects at (leaves_of_list parts)) (λ (at : ℕ). SomeHold objects at (leaves_of_list ls))
    c.args.asked.now c.loop-part.held.items c.loop-part.failed.items) here c.loop-part.invariant.1 in
    let splits = subst (λ (failed : List ℕ). SplitsPositions (λ (at : ℕ). HoldsAt objects at (plain_leaf part)) failed c.in_ok-one.one) c.as_slice.ensures.value c.in_ok-one.ensures in (
      sound.1,
      some_next (λ (at : ℕ). SomeHold objects at (leaves_of_list parts)) (λ (at : ℕ). SomeHold objects at (leaves_of_list (part ∷ later))) (λ (at : ℕ). SomeHold objects at (leaves_of_list later))
          (λ (at : ℕ). HoldsAt objects at (plain_leaf part)) c.args.asked.now c.loop-part.held.items c.loop-part.failed.items c.extend_from_slice.new.self.items
          c.in_ok-one.one.failed.items c.in_ok-one.one splits (λ at. (λ some. some, λ some. some)) still refl
          (c.in_ok-extend_from_slice.ensures.items ∙ ap (λ (l : List ℕ). c.loop-part.held.items ++ l) c.as_slice-in-loop-part.ensures.value),
    )

pub split_by_some-returns : goal.split_by_some-returns
split_by_some-returns t c =
    let parts = c.args.parts.now in
    let objects = data_in c.args.bundle.now in
    let over = drop_whole parts c.loop-part.part-index c.loop-part-test.false in
    let still = subst (λ (ls : List Leaf). StillFailed (λ (at : ℕ). SomeHold objects at (leaves_of_list parts)) (λ (at : ℕ). SomeHold objects at (leaves_of_list ls))
    c.args.asked.now c.loop-part.held.items c.loop-part.failed.items) over c.loop-part.invariant.1 in
    some_over (λ (at : ℕ). SomeHold objects at (leaves_of_list parts)) (λ (at : ℕ). SomeHold objects at (leaves_of_list [])) c.args.asked.now
    (record { held = c.loop-part.held; failed = c.loop-part.failed }) (λ at none. none) still
