use Rattle.std.proofs.Common.{length, ◌-◌}
use Rattle.pattern_lexer.specs.inner.Steps.{ReadUpTo}
use Rattle.pattern_lexer.proofs.lexer.tokens.Given as goal

abbrev pub invariant-loop-at : goal.invariant-loop-at
invariant-loop-at l = ReadUpTo l.text l.tokens l.at

abbrev pub decreases-loop-at : goal.decreases-loop-at
decreases-loop-at l = length l.text - l.at
