use Rattle.std.proofs.Common.{◌≡◌, ℕ, List, [], Option, take}
use Rattle.match_run.specs.Buffered.{IsBuffered}
use Rattle.hunt_report.specs.inner.Reporting.{ReportsSoFar}
use Rattle.hunt_report.proofs.report.add_sightings.Given as goal

abbrev pub invariant-loop-at : goal.invariant-loop-at
invariant-loop-at g l = record {
  reports : (first : Option (List ℕ)) → IsBuffered [] l.fn.pending first (g.O.Sink.written l.fn.output)
      → ReportsSoFar l.moment (take l.at l.hunted) (take l.at l.hit_summaries) l.begun l.pending first (g.O.Sink.written l.output);
  quiet : g.O.Sink.faults l.output ≡ g.O.Sink.faults l.fn.output;
}
