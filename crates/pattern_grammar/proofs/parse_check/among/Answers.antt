use Rattle.pattern_grammar.proofs.ExitLemmas.{passed, refused_in}
use Rattle.pattern_grammar.proofs.CheckLemmas.{check_none, among_open, among_stuck, among_unclosed, among_found}
use Rattle.pattern_grammar.proofs.parse_check.among.Goals as goal

pub returns-in_default-clause-err : goal.returns-in_default-clause-err
returns-in_default-clause-err c = check_none c.requires c.in_default.ensures.none

pub returns-in_default-eat-clause-err : goal.returns-in_default-eat-clause-err
returns-in_default-eat-clause-err c = among_open _ c.in-Some.ensures.some c.in_default-eat.ensures.none

pub returns-in_err-constants-clause-err : goal.returns-in_err-constants-clause-err
returns-in_err-constants-clause-err c = passed _ _ _ c.from_residual.ensures.1 (refused_in _ c.in_err-constants.ensures.err (λ r. among_stuck _ _ c.in-Some.ensures.some c.in-Some-eat.ensures.some))

pub returns-in_default-eat-2-clause-err : goal.returns-in_default-eat-2-clause-err
returns-in_default-eat-2-clause-err c = among_unclosed _ _ c.in-Some.ensures.some c.in-Some-eat.ensures.some c.in_ok-constants.ensures.ok c.in_default-eat-2.ensures.none

pub returns-clause-ok : goal.returns-clause-ok
returns-clause-ok c = among_found _ _ _ c.in-Some.ensures.some c.in-Some-eat.ensures.some c.in_ok-constants.ensures.ok c.in-Some-eat-2.ensures.some
