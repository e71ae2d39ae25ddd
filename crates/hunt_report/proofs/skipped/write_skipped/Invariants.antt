use Rattle.std.proofs.Common.{◌≡◌, take}
use Rattle.match_run.specs.Buffered.{IsBuffered}
use Rattle.hunt_report.specs.Lines.{skipped_lines}
use Rattle.hunt_report.proofs.skipped.write_skipped.Given as goal

abbrev pub invariant-loop-indicator : goal.invariant-loop-indicator
invariant-loop-indicator g l = record {
  way : IsBuffered (skipped_lines (take l.indicator-index l.skipped)) l.pending (g.O.Sink.written l.fn.output) (g.O.Sink.written l.output);
  quiet : g.O.Sink.faults l.output ≡ g.O.Sink.faults l.fn.output;
}
