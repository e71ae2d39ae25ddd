use Rattle.std.proofs.Common.{◌+◌, ◌*◌, ◌<◌, length, arith}
use Rattle.pattern_grammar.proofs.ExitLemmas.{passed, refused_added, added, refused_in}
use Rattle.pattern_grammar.proofs.JoinedLemmas.{joined_more}
use Rattle.pattern_grammar.proofs.ChainLemmas.{stuck_first, stuck_later, found_first, found_later, begun_shorter, link_shorter, later_shorter}
use Rattle.pattern_grammar.proofs.TestLemmas.{bracket_stuck, bracket_unclosed, bracket_found, test_brackets, cand_chain, cor_chain}
use Rattle.pattern_grammar.proofs.parse_comparison.+comparison.Goals as goal

pub test-cor-requires : goal.test-cor-requires
test-cor-requires t c = let h : 3 * length c.in-Some.inside.now + 2 < t = omega (arith, c.decreases, begun_shorter _ c.in-Some.ensures.some) in (h, tt)

pub test-returns-in_err-tree-clause-err : goal.test-returns-in_err-tree-clause-err
test-returns-in_err-tree-clause-err t c = passed _ _ _ c.from_residual.ensures.1 (refused_in _ c.in_err-tree.ensures.err (λ r. bracket_stuck test_brackets _ c.in-Some.ensures.some))

pub test-returns-in_default-eat-clause-err : goal.test-returns-in_default-eat-clause-err
test-returns-in_default-eat-clause-err t c = bracket_unclosed test_brackets _ c.in-Some.ensures.some c.in_ok-tree.ensures.ok c.in_default-eat.ensures.none

pub test-returns-in-Some-clause-ok : goal.test-returns-in-Some-clause-ok
test-returns-in-Some-clause-ok t c = rw c.in_ok-operand.ensures (bracket_found test_brackets _ _ c.in-Some.ensures.some c.in_ok-tree.ensures.ok c.in-Some-eat.ensures.some)

pub cand-returns-in_err-first-clause-err : goal.cand-returns-in_err-first-clause-err
cand-returns-in_err-first-clause-err t c = passed _ _ _ c.from_residual.ensures.1 (refused_in _ c.in_err-first.ensures.err (λ r. stuck_first cand_chain))

pub cand-loop-after-init : goal.cand-loop-after-init
cand-loop-after-init t c = rw c.new-others.ensures (found_first cand_chain c.in_ok-first.ensures.ok)

pub cand-test-requires-in-Some : goal.cand-test-requires-in-Some
cand-test-requires-in-Some t c = let h : 3 * length c.in-Some.after.now < t = omega (arith, c.decreases, later_shorter _ c.loop-after.invariant c.in-Some.ensures.some) in (h, tt)

pub cand-returns-in-Err-clause-err : goal.cand-returns-in-Err-clause-err
cand-returns-in-Err-clause-err t c = refused_added _ _ c.test-in-Some.ensures.err c.in-Err.ensures.err (λ r. stuck_later cand_chain _ c.loop-after.invariant c.in-Some.ensures.some)

pub cand-loop-after-smaller : goal.cand-loop-after-smaller
cand-loop-after-smaller t c = added c.test-in-Some.result c.test-in-Some.ensures.ok c.in-Ok.ensures.ok (λ x p q. rw q.1 (link_shorter _ c.in-Some.ensures.some p))

pub cand-loop-after-preserved : goal.cand-loop-after-preserved
cand-loop-after-preserved t c = added c.test-in-Some.result c.test-in-Some.ensures.ok c.in-Ok.ensures.ok (λ x p q. rw (q.0, joined_more, q.1) (found_later cand_chain _ c.loop-after.invariant c.in-Some.ensures.some p))

pub cor-returns-in_err-first-clause-err : goal.cor-returns-in_err-first-clause-err
cor-returns-in_err-first-clause-err t c = passed _ _ _ c.from_residual.ensures.1 (refused_in _ c.in_err-first.ensures.err (λ r. stuck_first cor_chain))

pub cor-loop-after-init : goal.cor-loop-after-init
cor-loop-after-init t c = rw c.new-others.ensures (found_first cor_chain c.in_ok-first.ensures.ok)

pub cor-cand-requires-in-Some : goal.cor-cand-requires-in-Some
cor-cand-requires-in-Some t c = let h : 3 * length c.in-Some.after.now + 1 < t = omega (arith, c.decreases, later_shorter _ c.loop-after.invariant c.in-Some.ensures.some) in (h, tt)

pub cor-returns-in-Err-clause-err : goal.cor-returns-in-Err-clause-err
cor-returns-in-Err-clause-err t c = refused_added _ _ c.cand-in-Some.ensures.err c.in-Err.ensures.err (λ r. stuck_later cor_chain _ c.loop-after.invariant c.in-Some.ensures.some)

pub cor-loop-after-smaller : goal.cor-loop-after-smaller
cor-loop-after-smaller t c = added c.cand-in-Some.result c.cand-in-Some.ensures.ok c.in-Ok.ensures.ok (λ x p q. rw q.1 (link_shorter _ c.in-Some.ensures.some p))

pub cor-loop-after-preserved : goal.cor-loop-after-preserved
cor-loop-after-preserved t c = added c.cand-in-Some.result c.cand-in-Some.ensures.ok c.in-Ok.ensures.ok (λ x p q. rw (q.0, joined_more, q.1) (found_later cor_chain _ c.loop-after.invariant c.in-Some.ensures.some p))
