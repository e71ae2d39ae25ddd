use Rattle.std.proofs.Common.{length, ◌≤◌}
use denote.Text.{Utf8}
use denote.Shadow.{shadow}
use Rattle.std.specs.Str.{chars}
use Rattle.match_comparisons.specs.inner.Places.{SamePlaces}
use Rattle.match_comparisons.proofs.places.skip_misses.Given as goal

-- nothing before what is left of the text matches
abbrev pub invariant-loop-places : goal.invariant-loop-places
invariant-loop-places l =
    shadow (Utf8 l.text) × SamePlaces (chars l.whole_text) (chars l.text) (chars l.segment)
    × (length (chars l.text) ≤ length (chars l.whole_text))

abbrev pub decreases-loop-places : goal.decreases-loop-places
decreases-loop-places l = length (chars l.text)
