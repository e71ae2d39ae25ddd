use Rattle.pattern_reader.proofs.OutcomeLemmas.{of_ok, of_err}
use Rattle.pattern_reader.proofs.CheckLemmas.{test_outcome}
use Rattle.pattern_reader.proofs.checks.test_of.Goals as goal

pub returns-in-Ok : goal.returns-in-Ok
returns-in-Ok c = of_ok (λ h. h) (test_outcome c.valid_block.ensures c.args.text.now c.args.tree.now _ _ _ c.in_ok-path.ensures c.in_ok-check_of.ensures (rw (c.ok_or-check.ensures.value, c.refusal_of.ensures) at c.in-Ok.ensures))

pub returns-in-Err : goal.returns-in-Err
returns-in-Err c = of_err (test_outcome c.valid_block.ensures c.args.text.now c.args.tree.now _ _ _ c.in_ok-path.ensures c.in_ok-check_of.ensures (rw (c.ok_or-check.ensures.value, c.refusal_of.ensures) at c.in-Err.ensures))
