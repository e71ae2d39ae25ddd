use Rattle.pattern_grammar.proofs.CheckLemmas.{constants_none, constants_begun, constants_stuck, constants_further}
use Rattle.pattern_grammar.proofs.parse_check.constants.Goals as goal

pub returns-in_default-clause-err : goal.returns-in_default-clause-err
returns-in_default-clause-err c = constants_none c.in_default.ensures.none

pub loop-after-init : goal.loop-after-init
loop-after-init c = rw (c.in_ok-push.ensures.ok, c.new-constants.ensures) (constants_begun _ c.in-Some.ensures.some)

pub returns-in_default-eat-2-clause-err : goal.returns-in_default-eat-2-clause-err
returns-in_default-eat-2-clause-err c = constants_stuck _ c.loop-after.invariant c.in-Some-eat.ensures.some c.in_default-eat-2.ensures.none

pub loop-after-preserved : goal.loop-after-preserved
loop-after-preserved c = rw c.in_ok-push-2.ensures.ok (constants_further _ _ c.loop-after.invariant c.in-Some-eat.ensures.some c.in-Some-eat-2.ensures.some)
