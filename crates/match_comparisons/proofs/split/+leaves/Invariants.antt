use Rattle.std.proofs.Common.{ℕ, drop}
use Rattle.stix_bundles.specs.Objects.{data_in}
use Rattle.pattern_types.specs.PlainLeaf.{leaves_of_list}
use Rattle.pattern_types.specs.Soundness.{AreSoundLeaves}
use Rattle.match_comparisons.specs.Tests.{AllHold, SomeHold}
use Rattle.match_comparisons.proofs.SplitsLemmas.{StillHeld, StillFailed}
use Rattle.match_comparisons.proofs.split.+leaves.Given as goal

abbrev pub invariant-split_by_all-loop-part : goal.invariant-split_by_all-loop-part
invariant-split_by_all-loop-part l = AreSoundLeaves (leaves_of_list (drop l.part-index l.parts))
    × StillHeld (λ (at : ℕ). AllHold (data_in l.bundle) at (leaves_of_list l.parts)) (λ (at : ℕ). AllHold (data_in l.bundle) at (leaves_of_list (drop l.part-index l.parts)))
    l.asked l.held.items l.failed.items

abbrev pub invariant-split_by_some-loop-part : goal.invariant-split_by_some-loop-part
invariant-split_by_some-loop-part l = AreSoundLeaves (leaves_of_list (drop l.part-index l.parts))
    × StillFailed (λ (at : ℕ). SomeHold (data_in l.bundle) at (leaves_of_list l.parts)) (λ (at : ℕ). SomeHold (data_in l.bundle) at (leaves_of_list (drop l.part-index l.parts)))
    l.asked l.held.items l.failed.items
