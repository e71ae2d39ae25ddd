use Rattle.std.proofs.Common.{◌≡◌, ◌++◌}
use Rattle.std.specs.Prelude.{flat_map}
use Rattle.std.specs.Str.{encode_utf8_all}
use Rattle.pattern_lexer.specs.Values.{escaped}
use Rattle.pattern_writer.proofs.words.write_characters.Given as goal

abbrev pub invariant-loop-character : goal.invariant-loop-character
invariant-loop-character l = l.out ≡ l.fn.out ++ flat_map escaped (encode_utf8_all l.yielded)
