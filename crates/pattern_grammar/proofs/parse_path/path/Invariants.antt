use Rattle.std.proofs.Common.{length}
use Rattle.pattern_grammar.specs.Grammar.{IsPath}
use Rattle.pattern_grammar.specs.inner.Machine.{expects_path, steps}
use Rattle.pattern_grammar.specs.inner.Machine.{Found, open_for}
use Rattle.pattern_grammar.proofs.parse_path.path.Given as goal

abbrev pub invariant-loop-steps : goal.invariant-loop-steps
invariant-loop-steps l = Found IsPath expects_path (open_for steps) l.fn.tokens (record { root = l.root; steps = l.steps }) l.rest

abbrev pub decreases-loop-steps : goal.decreases-loop-steps
decreases-loop-steps l = length l.rest
