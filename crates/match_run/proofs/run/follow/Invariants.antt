use Rattle.std.proofs.Common.{◌≡◌, ℕ, List, Option}
use Rattle.match_input.specs.Reading.{BundleOf}
use Rattle.match_run.specs.Reading.{HasRead, room_in}
use Rattle.match_run.specs.inner.WatchRuns.{RunsSo}
use Rattle.match_run.proofs.run.follow.Given as goal

abbrev pub invariant-bundles : goal.invariant-bundles
invariant-bundles g l = record {
  runs : (first : Option (List ℕ)) (earlier : List BundleOf)
      → HasRead first l.fn.reader (g.I.Source.left l.fn.input) (g.I.Source.began l.fn.input) earlier
      → RunsSo g.W.Watcher.sees first earlier l.fn.watcher l.watcher (g.O.Sink.written l.fn.output) (g.O.Sink.written l.output) l.reader
      (g.I.Source.left l.input) (g.I.Source.began l.input);
  ready : g.W.Watcher.ready l.watcher;
  seen : g.W.Watcher.seen l.watcher ≡ l.reader.observations;
  last : g.W.Watcher.last l.watcher ≡ l.reader.last;
  read_quiet : g.I.Source.faults l.input ≡ g.I.Source.faults l.fn.input;
  write_quiet : g.O.Sink.faults l.output ≡ g.O.Sink.faults l.fn.output;
}

abbrev pub decreases-bundles : goal.decreases-bundles
decreases-bundles g l = room_in l.reader.stage
