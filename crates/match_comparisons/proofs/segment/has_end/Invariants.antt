use Rattle.std.proofs.Common.{◌↔◌, ◌∷◌, length}
use denote.Text.{Utf8}
use denote.Shadow.{shadow}
use Rattle.std.specs.Str.{chars}
use Rattle.match_comparisons.specs.Like.{any_run, IsLike}
use Rattle.match_comparisons.specs.inner.Segments.{LacksCharacter}
use Rattle.match_comparisons.proofs.segment.has_end.Given as goal

-- what is left of text and segment, before what fits already, stands for the whole of both
abbrev pub invariant-loop-before : goal.invariant-loop-before
invariant-loop-before l =
    shadow (Utf8 l.text) × shadow (Utf8 l.segment) × LacksCharacter (chars l.segment) any_run
    × (IsLike (chars l.whole_text) (any_run ∷ chars l.whole_segment) ↔ IsLike (chars l.text) (any_run ∷ chars l.segment))

abbrev pub decreases-loop-before : goal.decreases-loop-before
decreases-loop-before l = length (chars l.segment)
