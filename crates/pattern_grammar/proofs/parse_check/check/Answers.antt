use Rattle.pattern_grammar.proofs.CheckLemmas.{equality_stuck, equality_found, order_stuck, order_found, textual_stuck, textual_found}
use Rattle.pattern_grammar.proofs.parse_check.check.Goals as goal

pub returns-in_default-eat-clause-err : goal.returns-in_default-eat-clause-err
returns-in_default-eat-clause-err c = equality_stuck _ c.in-Some.ensures.some c.in_default-eat.ensures.none

pub returns-in-Some-clause-ok : goal.returns-in-Some-clause-ok
returns-in-Some-clause-ok c = equality_found _ _ c.in-Some.ensures.some c.in-Some-eat.ensures.some

pub returns-in_default-eat-3-clause-err : goal.returns-in_default-eat-3-clause-err
returns-in_default-eat-3-clause-err c = order_stuck _ c.in-Some-eat-2.ensures.some c.in_default-eat-3.ensures.none

pub returns-in-Some-eat-2-clause-ok : goal.returns-in-Some-eat-2-clause-ok
returns-in-Some-eat-2-clause-ok c = order_found _ _ c.in-Some-eat-2.ensures.some c.in-Some-eat-3.ensures.some

pub returns-in_default-eat-5-clause-err : goal.returns-in_default-eat-5-clause-err
returns-in_default-eat-5-clause-err c = textual_stuck _ c.in-Some-eat-4.ensures.some c.in_default-eat-5.ensures.none

pub returns-in-Some-eat-4-clause-ok : goal.returns-in-Some-eat-4-clause-ok
returns-in-Some-eat-4-clause-ok c = textual_found _ _ c.in-Some-eat-4.ensures.some c.in-Some-eat-5.ensures.some
