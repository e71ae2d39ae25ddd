use Rattle.std.proofs.Common.{◌↔◌, ◌∷◌, length}
use denote.Text.{Utf8}
use denote.Shadow.{shadow}
use Rattle.std.specs.Str.{chars}
use Rattle.match_comparisons.specs.Like.{any_run, IsLike}
use Rattle.match_comparisons.proofs.matching.matches_after_run.Given as goal

-- after the last `%`, what is left of text and pattern stands for the whole of both
abbrev pub invariant-loop-segment : goal.invariant-loop-segment
invariant-loop-segment l =
    shadow (Utf8 l.text) × shadow (Utf8 l.pattern)
    × (IsLike (chars l.whole_text) (any_run ∷ chars l.whole_pattern) ↔ IsLike (chars l.text) (any_run ∷ chars l.pattern))

abbrev pub decreases-loop-segment : goal.decreases-loop-segment
decreases-loop-segment l = length (chars l.pattern)
