use Rattle.std.proofs.Common.{length}
use denote.Text.{Utf8}
use denote.Shadow.{shadow}
use Rattle.std.specs.Str.{chars}
use Rattle.match_comparisons.specs.Like.{any_run}
use Rattle.match_comparisons.specs.inner.Segments.{LacksCharacter}
use Rattle.match_comparisons.proofs.PlacesLemmas.{Reached}
use Rattle.match_comparisons.proofs.places.candidates.Given as goal

abbrev pub invariant-loop-expected : goal.invariant-loop-expected
invariant-loop-expected l =
    shadow (Utf8 l.text) × shadow (Utf8 l.segment) × LacksCharacter (chars l.segment) any_run
    × Reached (chars l.whole_text) (chars l.whole_segment) l.window (chars l.text) (chars l.segment) l.at l.places

abbrev pub decreases-loop-expected : goal.decreases-loop-expected
decreases-loop-expected l = length (chars l.segment)
