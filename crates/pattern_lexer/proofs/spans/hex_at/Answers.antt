use Rattle.pattern_lexer.specs.Values.{IsHexText}
use Rattle.pattern_lexer.proofs.SpansLemmas.{found_at}
use Rattle.pattern_lexer.proofs.spans.hex_at.Goals as goal

pub returns-in-Some : goal.returns-in-Some
returns-in-Some c = found_at IsHexText _ _ _ _ c.in-Some.ensures.some c.hex_of.ensures
