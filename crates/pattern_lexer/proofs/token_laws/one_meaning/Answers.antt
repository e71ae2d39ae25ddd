use Rattle.pattern_lexer.proofs.EscapesLemmas.{one_words, one_timestamp}
use Rattle.pattern_lexer.proofs.HasValueLemmas.{one_whole, one_hex, one_base}
use Rattle.pattern_lexer.proofs.token_laws.one_meaning.Goals as goal

pub returns-clause-string : goal.returns-clause-string
returns-clause-string c = one_words

pub returns-clause-timestamp : goal.returns-clause-timestamp
returns-clause-timestamp c = one_timestamp c.one_instant.ensures

pub returns-clause-integer : goal.returns-clause-integer
returns-clause-integer c = one_whole

pub returns-clause-hex : goal.returns-clause-hex
returns-clause-hex c = one_hex

pub returns-clause-binary : goal.returns-clause-binary
returns-clause-binary c = one_base
