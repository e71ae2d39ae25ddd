use Rattle.std.proofs.Common.{◌≡◌, ◌+◌, take, drop}
use Rattle.stix_bundles.specs.Objects.{data_in}
use Rattle.match_run.specs.Reading.{MayFollow}
use Rattle.command_alerts.specs.inner.Seeing.{IsReadyAlerter, SeesSoFar}
use Rattle.command_alerts.proofs.alerter.Alerter.report_all.Given as goal

abbrev pub invariant-loop-at : goal.invariant-loop-at
invariant-loop-at g l = record {
  ready : IsReadyAlerter l.self;
  sees : SeesSoFar (data_in l.batch.bundle) (take l.at l.observations) l.fn.self l.self l.pending
      (g.O.Sink.written l.fn.output) (g.O.Sink.written l.output);
  follow : MayFollow l.self.watch.last (l.self.watch.rows + 1) (drop l.at l.observations);
  quiet : g.O.Sink.faults l.output ≡ g.O.Sink.faults l.fn.output;
}
