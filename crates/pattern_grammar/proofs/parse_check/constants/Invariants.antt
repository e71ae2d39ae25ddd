use Rattle.std.proofs.Common.{length}
use Rattle.pattern_grammar.specs.Grammar.{AreConstants}
use Rattle.pattern_grammar.specs.inner.Machine.{expects_constants, commas}
use Rattle.pattern_grammar.specs.inner.Machine.{Found, open_for}
use Rattle.pattern_grammar.proofs.parse_check.constants.Given as goal

abbrev pub invariant-loop-after : goal.invariant-loop-after
invariant-loop-after l = Found AreConstants expects_constants (open_for commas) l.fn.tokens l.constants l.rest

abbrev pub decreases-loop-after : goal.decreases-loop-after
decreases-loop-after l = length l.rest
