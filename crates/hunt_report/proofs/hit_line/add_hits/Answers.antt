use Rattle.std.proofs.Common.{◌∙◌}
use Rattle.match_run.proofs.PendingLemmas.{fails_so}
use Rattle.hunt_report.specs.Lines.{hit_line}
use Rattle.hunt_report.proofs.LinesLemmas.{way_here, cut_here}
use Rattle.hunt_report.proofs.hit_line.add_hits.Goals as goal

pub returns-in_err-add_hit-clause-err : goal.returns-in_err-add_hit-clause-err
returns-in_err-add_hit-clause-err g c before first way =
    fails_so c.from_residual.result (cut_here (hit_line c.args.hunted.now) c.args.hits.now c.loop-hit.hit-index c.hit-item.result c.loop-hit-test.true c.hit-item.is before first _
    (c.in_err-add_hit.ensures.err _ first (c.loop-hit.invariant.way before first way)))

pub loop-hit-preserved : goal.loop-hit-preserved
loop-hit-preserved g c = record {
  way = λ before first way.
      way_here (hit_line c.args.hunted.now) c.args.hits.now c.loop-hit.hit-index c.hit-item.result c.loop-hit-test.true c.hit-item.is before _ first _
      (c.in_ok-add_hit.ensures.ok _ first (c.loop-hit.invariant.way before first way));
  quiet = c.in_ok-add_hit.ensures.causes.quiet (λ failed. cc failed) ∙ c.loop-hit.invariant.quiet;
}
