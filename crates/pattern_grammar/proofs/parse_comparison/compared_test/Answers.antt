use Rattle.pattern_grammar.proofs.ExitLemmas.{passed, refused_in}
use Rattle.pattern_grammar.proofs.TestLemmas.{compare_no_path, compare_not_stuck, compare_not_found, compare_stuck, compare_found}
use Rattle.pattern_grammar.proofs.parse_comparison.compared_test.Goals as goal
use Rattle.pattern_grammar.proofs.parse_comparison.compared_test.Goals.{in-Some, in-None}

pub returns-in_err-path-clause-err : goal.returns-in_err-path-clause-err
returns-in_err-path-clause-err c = passed _ _ _ c.from_residual.ensures.1 (refused_in _ c.in_err-path.ensures.err (λ r. compare_no_path c.requires))

pub returns-in_err-check-clause-err : goal.returns-in_err-check-clause-err
returns-in_err-check-clause-err c =
    passed _ _ _ c.from_residual-in_err-check.ensures.1
    (elim c.match-eat.branch [
      | in-Some w ↦ refused_in _ (rw w.negated-is at c.in_err-check.ensures.err) (λ r. compare_not_stuck _ c.requires c.in_ok-path.ensures.ok w.in-Some.ensures.some)
      | in-None w ↦ refused_in _ (rw w.negated-is at c.in_err-check.ensures.err) (λ r. compare_stuck c.requires c.in_ok-path.ensures.ok w.in-None.ensures.none)
    ])

pub returns-clause-ok : goal.returns-clause-ok
returns-clause-ok c =
    elim c.match-eat.branch [
      | in-Some w ↦ rw w.negated-is (compare_not_found _ c.requires c.in_ok-path.ensures.ok w.in-Some.ensures.some (rw w.negated-is at c.in_ok-check.ensures.ok))
      | in-None w ↦ rw w.negated-is (compare_found c.requires c.in_ok-path.ensures.ok w.in-None.ensures.none (rw w.negated-is at c.in_ok-check.ensures.ok))
    ]
