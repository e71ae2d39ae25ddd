use Rattle.match_run.proofs.PendingLemmas.{cut-of-all, fails_so}
use Rattle.match_run.proofs.lines.add_lines.Goals as goal

pub returns-in_err-add_line-clause-err : goal.returns-in_err-add_line-clause-err
returns-in_err-add_line-clause-err g c text first way =
    fails_so c.from_residual.result (cut-of-all text c.args.binds.now c.loop-bind.bind-index c.bind-item.result first _ c.loop-bind-test.true c.bind-item.is
    (c.in_err-add_line.ensures.err _ first (c.loop-bind.invariant.way text first way)))
