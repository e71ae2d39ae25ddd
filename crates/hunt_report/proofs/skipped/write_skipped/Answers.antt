use Rattle.match_run.proofs.PendingLemmas.{fails_so}
use Rattle.std.proofs.Common.{[], ◌∙◌}
use Rattle.hunt_report.specs.Lines.{skipped_line}
use Rattle.hunt_report.proofs.LinesLemmas.{way_here, cut_here}
use Rattle.hunt_report.proofs.skipped.write_skipped.Goals as goal

pub returns-in_err-add_skipped-clause-err : goal.returns-in_err-add_skipped-clause-err
returns-in_err-add_skipped-clause-err g c =
    fails_so c.from_residual.result (cut_here skipped_line c.args.skipped.now c.loop-indicator.indicator-index c.indicator-item.result c.loop-indicator-test.true c.indicator-item.is [] _ _
    (c.in_err-add_skipped.ensures.err _ _ c.loop-indicator.invariant.way))

pub loop-indicator-preserved : goal.loop-indicator-preserved
loop-indicator-preserved g c = record {
  way = way_here skipped_line c.args.skipped.now c.loop-indicator.indicator-index c.indicator-item.result c.loop-indicator-test.true c.indicator-item.is [] _ _ _
      (c.in_ok-add_skipped.ensures.ok _ _ c.loop-indicator.invariant.way);
  quiet = c.in_ok-add_skipped.ensures.causes.quiet (λ failed. cc failed) ∙ c.loop-indicator.invariant.quiet;
}
