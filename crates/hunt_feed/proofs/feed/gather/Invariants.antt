use Rattle.std.proofs.Common.{◌≡◌, ◌-◌, ◌≤◌, None}
use Rattle.flow_lines.specs.Lines.{lines_start, lines_remaining}
use Rattle.flow_lines.specs.declared.refusal.TheConstants.{MAX_INPUT}
use Rattle.hunt_feed.specs.inner.Ends.{GathersSoFar}
use Rattle.hunt_feed.proofs.feed.gather.Given as goal

abbrev pub invariant-objects : goal.invariant-objects
invariant-objects g l = record {
  unrefused : l.lines.refusal ≡ None;
  within : l.lines.given ≤ MAX_INPUT;
  so : GathersSoFar (lines_remaining lines_start (g.S.Source.left l.fn.source)) (lines_remaining l.lines (g.S.Source.left l.source)) l.gathering;
  quiet : g.S.Source.faults l.source ≡ g.S.Source.faults l.fn.source;
}

abbrev pub decreases-objects : goal.decreases-objects
decreases-objects g l = MAX_INPUT - l.lines.given
