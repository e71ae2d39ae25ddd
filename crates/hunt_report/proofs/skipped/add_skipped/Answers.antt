use Rattle.match_run.proofs.PendingLemmas.{fails_so}
use Rattle.hunt_report.specs.Lines.{skipped_line}
use Rattle.hunt_report.proofs.skipped.add_skipped.Goals as goal

pub returns-in_err-line-clause-err : goal.returns-in_err-line-clause-err
returns-in_err-line-clause-err g c before first way =
    fails_so c.from_residual.result (c.parts_are_buffered.ensures.prefix before c.args.pending.now (skipped_line c.args.skipped.now) first _ way)
