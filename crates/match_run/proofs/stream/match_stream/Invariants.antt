use Rattle.std.proofs.Common.{◌≡◌}
use Rattle.flow_edges.specs.Streams.{streams}
use Rattle.match_run.specs.inner.MatchRuns.{RunsSo, turns_left}
use Rattle.match_run.proofs.stream.match_stream.Given as goal

abbrev pub invariant-bundles : goal.invariant-bundles
invariant-bundles g l = record {
  pattern : l.matcher.pattern ≡ l.fn.matcher.pattern;
  most : l.matcher.retained_limit ≡ l.fn.matcher.retained_limit;
  runs : RunsSo l.fn.mode l.fn.matcher.pattern l.fn.matcher.retained_limit (streams (g.I.Source.left l.fn.input) (g.I.Source.began l.fn.input) (g.O.Sink.written l.fn.output))
      (streams (g.I.Source.left l.input) (g.I.Source.began l.input) (g.O.Sink.written l.output)) l.reader l.matcher l.tally;
  read_quiet : g.I.Source.faults l.input ≡ g.I.Source.faults l.fn.input;
  write_quiet : g.O.Sink.faults l.output ≡ g.O.Sink.faults l.fn.output;
}

abbrev pub decreases-bundles : goal.decreases-bundles
decreases-bundles g l = turns_left l.reader.stage
