use Rattle.std.proofs.Common.{◌≤◌, reverse}
use Rattle.stix_bundles.specs.Objects.{data_in}
use Rattle.match_comparisons.specs.inner.Frames.{LeftIn, HasFrameSpace, weight}
use Rattle.match_comparisons.proofs.WalkLemmas.{Same}
use Rattle.match_comparisons.proofs.walk.next_value.Given as goal

abbrev pub invariant-loop-frame : goal.invariant-loop-frame
invariant-loop-frame l =
    HasFrameSpace (reverse l.frames.items) × (weight (reverse l.frames.items) ≤ weight (reverse l.initial.frames.items))
    × Same (LeftIn (data_in l.bundle) (reverse l.initial.frames.items)) (LeftIn (data_in l.bundle) (reverse l.frames.items))

abbrev pub decreases-loop-frame : goal.decreases-loop-frame
decreases-loop-frame l = weight (reverse l.frames.items)
