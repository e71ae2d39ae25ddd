use Rattle.pattern_grammar.proofs.PathLemmas.{step_none, step_dot, step_named, step_square, step_unclosed, step_indexed}
use Rattle.pattern_grammar.proofs.parse_path.step.Goals as goal

pub returns-in_default-eat-clause-err : goal.returns-in_default-eat-clause-err
returns-in_default-eat-clause-err c = step_dot _ c.in-Some.ensures.some c.in_default-eat.ensures.none

pub returns-in-Some-clause-ok : goal.returns-in-Some-clause-ok
returns-in-Some-clause-ok c = step_named _ _ c.in-Some.ensures.some c.in-Some-eat.ensures.some

pub returns-in_default-eat-2-clause-err : goal.returns-in_default-eat-2-clause-err
returns-in_default-eat-2-clause-err c = step_none c.in_default.ensures.none c.in_default-eat-2.ensures.none

pub returns-in_default-eat-3-clause-err : goal.returns-in_default-eat-3-clause-err
returns-in_default-eat-3-clause-err c = step_square _ c.in-Some-eat-2.ensures.some c.in_default-eat-3.ensures.none

pub returns-in_default-eat-4-clause-err : goal.returns-in_default-eat-4-clause-err
returns-in_default-eat-4-clause-err c = step_unclosed _ _ c.in-Some-eat-2.ensures.some c.in-Some-eat-3.ensures.some c.in_default-eat-4.ensures.none

pub returns-clause-ok : goal.returns-clause-ok
returns-clause-ok c = step_indexed _ _ _ c.in-Some-eat-2.ensures.some c.in-Some-eat-3.ensures.some c.in-Some-eat-4.ensures.some
