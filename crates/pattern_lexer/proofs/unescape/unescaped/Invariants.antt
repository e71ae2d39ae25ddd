use denote.Shadow.{shadow}
use denote.Text.{Utf8}
use Rattle.std.proofs.Common.{◌≡◌, ◌++◌, flat_map, length}
use Rattle.pattern_lexer.specs.Values.{escaped}
use Rattle.pattern_lexer.proofs.unescape.unescaped.Given as goal

abbrev pub invariant-loop-plain : goal.invariant-loop-plain
invariant-loop-plain l = record {
  so_far : l.text ≡ flat_map escaped l.words ++ l.rest;
  utf8 : shadow (Utf8 l.rest);
}

abbrev pub decreases-loop-plain : goal.decreases-loop-plain
decreases-loop-plain l = length l.rest
