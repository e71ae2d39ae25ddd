use Rattle.pattern_grammar.proofs.PatternLemmas.{qualifier_none, within_stuck, within_unended, within_found, repeats_stuck, repeats_unended, repeats_found, between_stuck, between_unstopped, between_unended, between_found}
use Rattle.pattern_grammar.proofs.parse_pattern.qualifier.Goals as goal

pub returns-in_default-eat-clause-err : goal.returns-in_default-eat-clause-err
returns-in_default-eat-clause-err c = within_stuck _ c.in-Some.ensures.some c.in_default-eat.ensures.none

pub returns-in_default-eat-2-clause-err : goal.returns-in_default-eat-2-clause-err
returns-in_default-eat-2-clause-err c = within_unended _ _ c.in-Some.ensures.some c.in-Some-eat.ensures.some c.in_default-eat-2.ensures.none

pub returns-in-Some-clause-ok : goal.returns-in-Some-clause-ok
returns-in-Some-clause-ok c = within_found _ _ _ c.in-Some.ensures.some c.in-Some-eat.ensures.some c.in-Some-eat-2.ensures.some

pub returns-in_default-eat-4-clause-err : goal.returns-in_default-eat-4-clause-err
returns-in_default-eat-4-clause-err c = repeats_stuck _ c.in-Some-eat-3.ensures.some c.in_default-eat-4.ensures.none

pub returns-in_default-eat-5-clause-err : goal.returns-in_default-eat-5-clause-err
returns-in_default-eat-5-clause-err c = repeats_unended _ _ c.in-Some-eat-3.ensures.some c.in-Some-eat-4.ensures.some c.in_default-eat-5.ensures.none

pub returns-in-Some-eat-3-clause-ok : goal.returns-in-Some-eat-3-clause-ok
returns-in-Some-eat-3-clause-ok c = repeats_found _ _ _ c.in-Some-eat-3.ensures.some c.in-Some-eat-4.ensures.some c.in-Some-eat-5.ensures.some

pub returns-in_default-eat-6-clause-err : goal.returns-in_default-eat-6-clause-err
returns-in_default-eat-6-clause-err c = qualifier_none c.in_default.ensures.none c.in_default-eat-3.ensures.none c.in_default-eat-6.ensures.none

pub returns-in_default-eat-7-clause-err : goal.returns-in_default-eat-7-clause-err
returns-in_default-eat-7-clause-err c = between_stuck _ c.in-Some-eat-6.ensures.some c.in_default-eat-7.ensures.none

pub returns-in_default-eat-8-clause-err : goal.returns-in_default-eat-8-clause-err
returns-in_default-eat-8-clause-err c = between_unstopped _ _ c.in-Some-eat-6.ensures.some c.in-Some-eat-7.ensures.some c.in_default-eat-8.ensures.none

pub returns-in_default-eat-9-clause-err : goal.returns-in_default-eat-9-clause-err
returns-in_default-eat-9-clause-err c = between_unended _ _ _ c.in-Some-eat-6.ensures.some c.in-Some-eat-7.ensures.some c.in-Some-eat-8.ensures.some c.in_default-eat-9.ensures.none

pub returns-clause-ok : goal.returns-clause-ok
returns-clause-ok c = between_found _ _ _ _ c.in-Some-eat-6.ensures.some c.in-Some-eat-7.ensures.some c.in-Some-eat-8.ensures.some c.in-Some-eat-9.ensures.some
