use Rattle.std.proofs.Common.{◌+◌, ◌*◌, ◌<◌, length, arith}
use Rattle.pattern_grammar.proofs.ExitLemmas.{passed, refused_added, added, refused_in}
use Rattle.pattern_grammar.proofs.JoinedLemmas.{joined_more}
use Rattle.pattern_grammar.proofs.ChainLemmas.{stuck_first, stuck_later, stuck_further, found_first, found_later, found_further, begun_shorter, link_shorter, later_shorter}
use Rattle.pattern_grammar.proofs.TestLemmas.{bracket_stuck, bracket_unclosed, bracket_found}
use Rattle.pattern_grammar.proofs.PatternLemmas.{start_brackets, unit_first, unit_stuck, unit_qualifiers, qualifier_shorter, ands_chain, ors_chain, pattern_chain}
use Rattle.pattern_grammar.proofs.parse_pattern.+pattern.Goals as goal

pub start-whole-requires : goal.start-whole-requires
start-whole-requires t c = let h : 5 * length c.in-Some.inside.now + 4 < t = omega (arith, c.decreases, begun_shorter _ c.in-Some.ensures.some) in (h, tt)

pub start-returns-in_err-tree-clause-err : goal.start-returns-in_err-tree-clause-err
start-returns-in_err-tree-clause-err t c = passed _ _ _ c.from_residual.ensures.1 (refused_in _ c.in_err-tree.ensures.err (λ r. bracket_stuck start_brackets _ c.in-Some.ensures.some))

pub start-returns-in_default-eat-clause-err : goal.start-returns-in_default-eat-clause-err
start-returns-in_default-eat-clause-err t c = bracket_unclosed start_brackets _ c.in-Some.ensures.some c.in_ok-tree.ensures.ok c.in_default-eat.ensures.none

pub start-returns-in-Some-clause-ok : goal.start-returns-in-Some-clause-ok
start-returns-in-Some-clause-ok t c = bracket_found start_brackets _ _ c.in-Some.ensures.some c.in_ok-tree.ensures.ok c.in-Some-eat.ensures.some

pub unit-returns-in_err-tree-clause-err : goal.unit-returns-in_err-tree-clause-err
unit-returns-in_err-tree-clause-err t c = passed _ _ _ c.from_residual.ensures.1 (refused_in _ c.in_err-tree.ensures.err (λ r. unit_stuck))

pub unit-loop-limit-init : goal.unit-loop-limit-init
unit-loop-limit-init t c = unit_first c.in_ok-tree.ensures.ok

pub unit-returns-in-Err-clause-err : goal.unit-returns-in-Err-clause-err
unit-returns-in-Err-clause-err t c = refused_in _ c.in-Err.ensures.err (λ r. stuck_further unit_qualifiers _ c.loop-limit.invariant c.in-Some.ensures.some)

pub unit-loop-limit-smaller : goal.unit-loop-limit-smaller
unit-loop-limit-smaller t c = qualifier_shorter c.in-Ok.ensures.ok

pub unit-loop-limit-preserved : goal.unit-loop-limit-preserved
unit-loop-limit-preserved t c = rw c.in_ok-tree-in-Ok.ensures (found_further unit_qualifiers _ c.loop-limit.invariant c.in-Some.ensures.some c.in-Ok.ensures.ok)

pub ands-returns-in_err-first-clause-err : goal.ands-returns-in_err-first-clause-err
ands-returns-in_err-first-clause-err t c = passed _ _ _ c.from_residual.ensures.1 (refused_in _ c.in_err-first.ensures.err (λ r. stuck_first ands_chain))

pub ands-loop-after-init : goal.ands-loop-after-init
ands-loop-after-init t c = rw c.new-others.ensures (found_first ands_chain c.in_ok-first.ensures.ok)

pub ands-unit-requires-in-Some : goal.ands-unit-requires-in-Some
ands-unit-requires-in-Some t c = let h : 5 * length c.in-Some.after.now + 1 < t = omega (arith, c.decreases, later_shorter _ c.loop-after.invariant c.in-Some.ensures.some) in (h, tt)

pub ands-returns-in-Err-clause-err : goal.ands-returns-in-Err-clause-err
ands-returns-in-Err-clause-err t c = refused_added _ _ c.unit-in-Some.ensures.err c.in-Err.ensures.err (λ r. stuck_later ands_chain _ c.loop-after.invariant c.in-Some.ensures.some)

pub ands-loop-after-smaller : goal.ands-loop-after-smaller
ands-loop-after-smaller t c = added c.unit-in-Some.result c.unit-in-Some.ensures.ok c.in-Ok.ensures.ok (λ x p q. rw q.1 (link_shorter _ c.in-Some.ensures.some p))

pub ands-loop-after-preserved : goal.ands-loop-after-preserved
ands-loop-after-preserved t c = added c.unit-in-Some.result c.unit-in-Some.ensures.ok c.in-Ok.ensures.ok (λ x p q. rw (q.0, joined_more, q.1) (found_later ands_chain _ c.loop-after.invariant c.in-Some.ensures.some p))

pub ors-returns-in_err-first-clause-err : goal.ors-returns-in_err-first-clause-err
ors-returns-in_err-first-clause-err t c = passed _ _ _ c.from_residual.ensures.1 (refused_in _ c.in_err-first.ensures.err (λ r. stuck_first ors_chain))

pub ors-loop-after-init : goal.ors-loop-after-init
ors-loop-after-init t c = rw c.new-others.ensures (found_first ors_chain c.in_ok-first.ensures.ok)

pub ors-ands-requires-in-Some : goal.ors-ands-requires-in-Some
ors-ands-requires-in-Some t c = let h : 5 * length c.in-Some.after.now + 2 < t = omega (arith, c.decreases, later_shorter _ c.loop-after.invariant c.in-Some.ensures.some) in (h, tt)

pub ors-returns-in-Err-clause-err : goal.ors-returns-in-Err-clause-err
ors-returns-in-Err-clause-err t c = refused_added _ _ c.ands-in-Some.ensures.err c.in-Err.ensures.err (λ r. stuck_later ors_chain _ c.loop-after.invariant c.in-Some.ensures.some)

pub ors-loop-after-smaller : goal.ors-loop-after-smaller
ors-loop-after-smaller t c = added c.ands-in-Some.result c.ands-in-Some.ensures.ok c.in-Ok.ensures.ok (λ x p q. rw q.1 (link_shorter _ c.in-Some.ensures.some p))

pub ors-loop-after-preserved : goal.ors-loop-after-preserved
ors-loop-after-preserved t c = added c.ands-in-Some.result c.ands-in-Some.ensures.ok c.in-Ok.ensures.ok (λ x p q. rw (q.0, joined_more, q.1) (found_later ors_chain _ c.loop-after.invariant c.in-Some.ensures.some p))

pub whole-returns-in_err-first-clause-err : goal.whole-returns-in_err-first-clause-err
whole-returns-in_err-first-clause-err t c = passed _ _ _ c.from_residual.ensures.1 (refused_in _ c.in_err-first.ensures.err (λ r. stuck_first pattern_chain))

pub whole-loop-after-init : goal.whole-loop-after-init
whole-loop-after-init t c = rw c.new-others.ensures (found_first pattern_chain c.in_ok-first.ensures.ok)

pub whole-ors-requires-in-Some : goal.whole-ors-requires-in-Some
whole-ors-requires-in-Some t c = let h : 5 * length c.in-Some.after.now + 3 < t = omega (arith, c.decreases, later_shorter _ c.loop-after.invariant c.in-Some.ensures.some) in (h, tt)

pub whole-returns-in-Err-clause-err : goal.whole-returns-in-Err-clause-err
whole-returns-in-Err-clause-err t c = refused_added _ _ c.ors-in-Some.ensures.err c.in-Err.ensures.err (λ r. stuck_later pattern_chain _ c.loop-after.invariant c.in-Some.ensures.some)

pub whole-loop-after-smaller : goal.whole-loop-after-smaller
whole-loop-after-smaller t c = added c.ors-in-Some.result c.ors-in-Some.ensures.ok c.in-Ok.ensures.ok (λ x p q. rw q.1 (link_shorter _ c.in-Some.ensures.some p))

pub whole-loop-after-preserved : goal.whole-loop-after-preserved
whole-loop-after-preserved t c = added c.ors-in-Some.result c.ors-in-Some.ensures.ok c.in-Ok.ensures.ok (λ x p q. rw (q.0, joined_more, q.1) (found_later pattern_chain _ c.loop-after.invariant c.in-Some.ensures.some p))
