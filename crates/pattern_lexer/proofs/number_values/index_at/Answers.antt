use Rattle.std.proofs.Common.{pos}
use Rattle.pattern_lexer.proofs.number_values.index_at.Goals as goal

pub returns-in_default-clause-none : goal.returns-in_default-clause-none
returns-in_default-clause-none c = λ place b. c.in_default.ensures.none (pos place) b.whole
