use Rattle.std.proofs.Common.{◌≡◌, ◌≤◌, ◌+◌, ◌-◌, ◌*◌, ◌^◌}
use Rattle.taxii_client.specs.Environment.{link_view}
use Rattle.taxii_client.specs.declared.pull.TheConstants.{MAX_PAGES}
use Rattle.taxii_client.specs.Filling.{copy_environment}
use Rattle.taxii_client.proofs.CopyLemmas.{CopiesSoFar}
use Rattle.taxii_client.proofs.copying.copy.Given as goal

abbrev pub invariant-attempts : goal.invariant-attempts
invariant-attempts g l = record {
  so : CopiesSoFar (link_view g.D.Link.Source.left g.D.Link.Sink.written g.D.Link.Source.faults g.D.Link.Sink.faults) (record { target = l.fn.target; file = l.fn.file; tries = l.fn.tries })
      (copy_environment (g.D.Dial.observable l.fn.dial) (g.D.Dial.faults l.fn.dial) (g.K.Keeper.kept l.fn.keeper) (g.C.Clock.moments l.fn.clock))
      (copy_environment (g.D.Dial.observable l.dial) (g.D.Dial.faults l.dial) (g.K.Keeper.kept l.keeper) (g.C.Clock.moments l.clock)) l.pull l.mirror l.lost l.totals;
  pages : l.totals.pages ≡ l.pull.pages;
  added : l.totals.added ≤ l.pull.pages * 2 ^ 64;
  present : l.totals.present ≤ l.pull.pages * 2 ^ 64;
  skipped : l.totals.skipped ≤ l.pull.pages * 2 ^ 64;
  quiet : g.K.Keeper.faults l.keeper ≡ g.K.Keeper.faults l.fn.keeper;
}

abbrev pub decreases-attempts : goal.decreases-attempts
decreases-attempts g l = (MAX_PAGES - l.pull.pages) + (l.fn.tries - l.lost)
