use Rattle.pattern_grammar.proofs.ExitLemmas.{passed, refused_in}
use Rattle.pattern_grammar.proofs.ChainLemmas.{stuck_further, found_further}
use Rattle.pattern_grammar.proofs.PathLemmas.{path_none, path_root, path_colon, path_begun, path_steps, step_shorter}
use Rattle.pattern_grammar.proofs.parse_path.path.Goals as goal

pub returns-in_default-clause-err : goal.returns-in_default-clause-err
returns-in_default-clause-err c = path_none c.in_default.ensures.none

pub returns-in_default-eat-clause-err : goal.returns-in_default-eat-clause-err
returns-in_default-eat-clause-err c = path_root _ c.in-Some.ensures.some c.in_default-eat.ensures.none

pub returns-in_default-eat-2-clause-err : goal.returns-in_default-eat-2-clause-err
returns-in_default-eat-2-clause-err c = path_colon _ _ c.in-Some.ensures.some c.in-Some-eat.ensures.some c.in_default-eat-2.ensures.none

pub loop-steps-init : goal.loop-steps-init
loop-steps-init c = rw (c.in_ok-push.ensures.ok, c.new-steps.ensures) (path_begun _ _ _ c.in-Some.ensures.some c.in-Some-eat.ensures.some c.in-Some-eat-2.ensures.some)

pub returns-in_err-next-clause-err : goal.returns-in_err-next-clause-err
returns-in_err-next-clause-err c = passed _ _ _ c.from_residual-in_err-next.ensures.1 (refused_in _ c.in_err-next.ensures.err (λ r. stuck_further path_steps _ c.loop-steps.invariant c.in-Some-eat-3.ensures.some))

pub loop-steps-smaller : goal.loop-steps-smaller
loop-steps-smaller c = step_shorter c.in_ok-next.ensures.ok

pub loop-steps-preserved : goal.loop-steps-preserved
loop-steps-preserved c = rw c.in_ok-push-2.ensures.ok (found_further path_steps _ c.loop-steps.invariant c.in-Some-eat-3.ensures.some c.in_ok-next.ensures.ok)
