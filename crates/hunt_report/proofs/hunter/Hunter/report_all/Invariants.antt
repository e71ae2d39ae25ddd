use Rattle.std.proofs.Common.{◌≡◌, ◌+◌, take, drop}
use Rattle.stix_bundles.specs.Objects.{data_in}
use Rattle.match_run.specs.Reading.{MayFollow}
use Rattle.hunt_engine.specs.Memo.{brackets_of, IsSoundMemo}
use Rattle.hunt_report.specs.Hunting.{patterns_of, IsReadyHunter}
use Rattle.hunt_report.specs.inner.HitReporting.{TakesSoFar}
use Rattle.hunt_report.proofs.hunter.Hunter.report_all.Given as goal

abbrev pub invariant-loop-observation : goal.invariant-loop-observation
invariant-loop-observation g l = record {
  ready : IsReadyHunter l.self;
  right : IsSoundMemo (data_in l.batch.bundle) (brackets_of (patterns_of l.self.hunted)) l.memo;
  sees : TakesSoFar (data_in l.batch.bundle) (take l.observation-index l.observations) l.fn.self l.self l.pending
      (g.O.Sink.written l.fn.output) (g.O.Sink.written l.output);
  follow : MayFollow l.self.engine.last (l.self.engine.rows + 1) (drop l.observation-index l.observations);
  quiet : g.O.Sink.faults l.output ≡ g.O.Sink.faults l.fn.output;
}
