use Rattle.std.proofs.Common.{◌≡◌, length, drop}
use denote.Text.{Utf8}
use denote.Shadow.{shadow}
use Rattle.std.specs.Str.{chars}
use Rattle.match_comparisons.proofs.PlacesLemmas.{FilledTo}
use Rattle.match_comparisons.proofs.places.window_of.Given as goal

-- both halves of the window have the marks of the characters before `at`
abbrev pub invariant-loop-at : goal.invariant-loop-at
invariant-loop-at l =
    shadow (Utf8 l.text) × (length l.window ≡ 128) × (chars l.text ≡ drop l.at (chars l.whole_text))
    × FilledTo l.window (chars l.whole_text) l.at
