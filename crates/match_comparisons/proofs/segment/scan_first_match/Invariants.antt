use Rattle.std.proofs.Common.{ℕ, ◌↔◌, List, ◌∷◌, length}
use denote.Text.{Utf8}
use denote.Shadow.{shadow}
use Rattle.std.specs.Str.{chars}
use Rattle.match_comparisons.specs.Like.{any_run}
use Rattle.match_comparisons.specs.inner.Segments.{LeavesAfterPrefix}
use Rattle.match_comparisons.proofs.segment.scan_first_match.Given as goal

-- after a `%`, the segment leaves of what is left of the text what it leaves of the whole
abbrev pub invariant-loop-left : goal.invariant-loop-left
invariant-loop-left l =
    shadow (Utf8 l.text)
    × ((left : List ℕ) → LeavesAfterPrefix (chars l.whole_text) (any_run ∷ chars l.segment) left ↔ LeavesAfterPrefix (chars l.text) (any_run ∷ chars l.segment) left)

abbrev pub decreases-loop-left : goal.decreases-loop-left
decreases-loop-left l = length (chars l.text)
