use Rattle.pattern_grammar.proofs.ExitLemmas.{passed, refused_in}
use Rattle.pattern_grammar.proofs.TestLemmas.{exists_stuck, exists_found, not_stuck, not_exists_stuck, not_exists_found}
use Rattle.pattern_grammar.proofs.parse_comparison.plain_test.Goals as goal

pub returns-in_err-path-clause-err : goal.returns-in_err-path-clause-err
returns-in_err-path-clause-err c = passed _ _ _ c.from_residual.ensures.1 (refused_in _ c.in_err-path.ensures.err (λ r. exists_stuck _ c.in-Some.ensures.some))

pub returns-in-Some-clause-ok : goal.returns-in-Some-clause-ok
returns-in-Some-clause-ok c = exists_found _ c.in-Some.ensures.some c.in_ok-path.ensures.ok

pub returns-in_default-eat-2-clause-err : goal.returns-in_default-eat-2-clause-err
returns-in_default-eat-2-clause-err c = not_stuck _ c.in-Some-eat.ensures.some c.in_default-eat-2.ensures.none

pub returns-in_err-path-2-clause-err : goal.returns-in_err-path-2-clause-err
returns-in_err-path-2-clause-err c = passed _ _ _ c.from_residual-in_err-path-2.ensures.1 (refused_in _ c.in_err-path-2.ensures.err (λ r. not_exists_stuck _ _ c.in-Some-eat.ensures.some c.in-Some-eat-2.ensures.some))

pub returns-in-Some-eat-clause-ok : goal.returns-in-Some-eat-clause-ok
returns-in-Some-eat-clause-ok c = not_exists_found _ _ c.in-Some-eat.ensures.some c.in-Some-eat-2.ensures.some c.in_ok-path-2.ensures.ok
