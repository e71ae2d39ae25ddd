use Rattle.std.proofs.Common.{◌+◌, ◌*◌, length, map}
use Rattle.pattern_grammar.specs.Grammar.{IsCand, IsCor}
use Rattle.pattern_grammar.specs.inner.Machine.{expects_cand, expects_cor, cands, cors}
use Rattle.pattern_grammar.specs.inner.Machine.{Found, open_for}
use Rattle.pattern_grammar.specs.Tree.{left_fold, conjunction, operand, all, any}
use Rattle.pattern_grammar.proofs.parse_comparison.+comparison.Given as goal

abbrev pub decreases-cor : goal.decreases-cor
decreases-cor l = 3 * length l.tokens.now + 2

abbrev pub decreases-cand : goal.decreases-cand
decreases-cand l = 3 * length l.tokens.now + 1

abbrev pub decreases-test : goal.decreases-test
decreases-test l = 3 * length l.tokens.now

abbrev pub invariant-cand-loop-after : goal.invariant-cand-loop-after
invariant-cand-loop-after l = Found IsCand expects_cand (open_for cands) l.fn.tokens (left_fold all (operand l.first) (map operand l.others)) l.rest

abbrev pub decreases-cand-loop-after : goal.decreases-cand-loop-after
decreases-cand-loop-after l = length l.rest

abbrev pub invariant-cor-loop-after : goal.invariant-cor-loop-after
invariant-cor-loop-after l = Found IsCor expects_cor (open_for cors) l.fn.tokens (left_fold any (conjunction l.first) (map conjunction l.others)) l.rest

abbrev pub decreases-cor-loop-after : goal.decreases-cor-loop-after
decreases-cor-loop-after l = length l.rest
