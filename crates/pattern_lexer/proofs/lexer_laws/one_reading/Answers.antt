use Rattle.pattern_lexer.proofs.TokensOfLemmas.{one_reading}
use Rattle.pattern_lexer.proofs.lexer_laws.one_reading.Goals as goal

pub returns : goal.returns
returns c = one_reading
