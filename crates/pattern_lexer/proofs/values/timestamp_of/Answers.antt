use Rattle.pattern_lexer.proofs.QuotedLemmas.{no_moment}
use Rattle.pattern_lexer.proofs.values.timestamp_of.Goals as goal

pub returns-clause-none : goal.returns-clause-none
returns-clause-none c = no_moment _ _ _ _ c.ok.ensures.value (c.in_ok-time.ensures.some) c.read.ensures.only
