use Rattle.std.proofs.Common.{◌≡◌, ◌≤◌, ◌*◌, ◌-◌, ◌^◌}
use Rattle.taxii_client.specs.Environment.{link_view}
use Rattle.taxii_client.specs.declared.pull.TheConstants.{MAX_PAGES}
use Rattle.command_pull.specs.Pulling.{pull_environment}
use Rattle.command_pull.proofs.RunLemmas.{RunsSo}
use Rattle.command_pull.proofs.pulling.pull_all.Given as goal

abbrev pub invariant-pages : goal.invariant-pages
invariant-pages g l = record {
  runs : RunsSo (link_view g.D.Link.Source.left g.D.Link.Sink.written g.D.Link.Source.faults g.D.Link.Sink.faults) l.fn.target
      (pull_environment (g.D.Dial.observable l.fn.dial) (g.D.Dial.faults l.fn.dial) (g.O.Sink.written l.fn.output))
      (pull_environment (g.D.Dial.observable l.dial) (g.D.Dial.faults l.dial) (g.O.Sink.written l.output)) l.pull l.skipped;
  few : l.skipped ≤ l.pull.pages * 2 ^ 64;
  quiet : g.O.Sink.faults l.output ≡ g.O.Sink.faults l.fn.output;
}

abbrev pub decreases-pages : goal.decreases-pages
decreases-pages g l = MAX_PAGES - l.pull.pages
