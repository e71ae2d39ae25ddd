use Rattle.std.proofs.Common.{rules, List, sym, subst}
use Rattle.stix_bundles.specs.Objects.{data_in}
use Rattle.pattern_types.specs.declared.leaf.Leaf.{Leaf, the_lemmas}
use Rattle.pattern_types.specs.PlainLeaf.{plain_leaf, leaves_of_list}
use Rattle.pattern_types.specs.Soundness.{IsSoundLeaf, AreSoundLeaves}
use Rattle.match_comparisons.proofs.LeavesLemmas.{sound_all, sound_any}
use Rattle.hunt_engine.proofs.HoldingLemmas.{met_all, met_any}
use Rattle.hunt_engine.proofs.holding.+leaves.Goals as goal

pub holds_at-all_hold_at-requires : goal.holds_at-all_hold_at-requires
holds_at-all_hold_at-requires t c =
    let sound = sound_all c.in-All.parts (subst (λ (l : Leaf). IsSoundLeaf (plain_leaf l)) c.in-All.is c.requires) in
    (search (rules, the_lemmas), subst (λ (ls : List Leaf). AreSoundLeaves (leaves_of_list ls)) (sym c.as_slice.ensures) sound)

pub holds_at-some_hold_at-requires : goal.holds_at-some_hold_at-requires
holds_at-some_hold_at-requires t c =
    let sound = sound_any c.in-Any.parts (subst (λ (l : Leaf). IsSoundLeaf (plain_leaf l)) c.in-Any.is c.requires) in
    (search (rules, the_lemmas), subst (λ (ls : List Leaf). AreSoundLeaves (leaves_of_list ls)) (sym c.as_slice-in-Any.ensures) sound)

pub holds_at-returns-in-Test : goal.holds_at-returns-in-Test
holds_at-returns-in-Test t c = rw c.in-Test.is c.holds.ensures

pub holds_at-returns-in-All : goal.holds_at-returns-in-All
holds_at-returns-in-All t c =
    rw c.in-All.is (met_all c.all_hold_at.result (data_in c.args.bundle.now) c.args.root c.in-All.parts (rw c.as_slice.ensures at c.all_hold_at.ensures))

pub holds_at-returns-in-Any : goal.holds_at-returns-in-Any
holds_at-returns-in-Any t c =
    rw c.in-Any.is (met_any c.some_hold_at.result (data_in c.args.bundle.now) c.args.root c.in-Any.parts (rw c.as_slice-in-Any.ensures at c.some_hold_at.ensures))
