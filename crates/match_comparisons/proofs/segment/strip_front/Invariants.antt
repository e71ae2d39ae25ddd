use Rattle.std.proofs.Common.{ℕ, ◌↔◌, List, length}
use denote.Text.{Utf8}
use denote.Shadow.{shadow}
use Rattle.std.specs.Str.{chars}
use Rattle.match_comparisons.specs.Like.{any_run}
use Rattle.match_comparisons.specs.inner.Segments.{LacksCharacter, LeavesAfterPrefix}
use Rattle.match_comparisons.proofs.segment.strip_front.Given as goal

-- what is left of the segment leaves of what is left of the text what the whole segment leaves of the whole text
abbrev pub invariant-loop-expected : goal.invariant-loop-expected
invariant-loop-expected l =
    shadow (Utf8 l.text) × shadow (Utf8 l.segment) × LacksCharacter (chars l.segment) any_run
    × ((left : List ℕ) → LeavesAfterPrefix (chars l.whole_text) (chars l.whole_segment) left ↔ LeavesAfterPrefix (chars l.text) (chars l.segment) left)

abbrev pub decreases-loop-expected : goal.decreases-loop-expected
decreases-loop-expected l = length (chars l.segment)
