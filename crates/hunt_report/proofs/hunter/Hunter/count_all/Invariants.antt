use Rattle.std.proofs.Common.{◌≡◌, drop, length}
use Rattle.hunt_report.specs.inner.Noting.{all_noted, AreBefore}
use Rattle.hunt_report.proofs.hunter.Hunter.count_all.Given as goal

abbrev pub invariant-loop-hit : goal.invariant-loop-hit
invariant-loop-hit l = record {
  hunted : l.self.hunted ≡ l.fn.self.hunted;
  engine : l.self.engine ≡ l.fn.self.engine;
  count : length l.self.hit_summaries ≡ length l.fn.self.hit_summaries;
  before : AreBefore l.last l.self.hit_summaries;
  noted : all_noted l.last (drop l.hit-index l.hits) l.self.hit_summaries ≡ all_noted l.last l.hits l.fn.self.hit_summaries;
}
