use Rattle.std.proofs.Common.{take}
use Rattle.pattern_grammar.specs.Depth.{NoneTooMany}
use Rattle.pattern_grammar.specs.inner.Machine.{CountsOf}
use Rattle.pattern_grammar.proofs.depth.first_too_many.Given as goal

abbrev pub invariant-loop-before : goal.invariant-loop-before
invariant-loop-before l = record {
  none_before : NoneTooMany (take l.before l.tokens);
  counted : CountsOf (take l.before l.tokens) l.counts;
}
