use Rattle.std.proofs.Common.{◌≡◌, ◌-◌, ◌<◌}
use Rattle.taxii_store.specs.Agreement.{Agrees, without_rows}
use Rattle.taxii_server.specs.declared.connection.TheConstants.{MAX_REQUESTS}
use Rattle.taxii_server.specs.Environment.{client_view}
use Rattle.taxii_server.specs.inner.Receiving.{IsReceivedInTime}
use Rattle.taxii_server.proofs.SoFarLemmas.{SoFar}
use Rattle.taxii_server.proofs.connection.serve_link.Given as goal

abbrev pub invariant-loop-request : goal.invariant-loop-request
invariant-loop-request g l = record {
  so_far : SoFar l.fn.server.config l.fn.server.state (record { moments = g.C.Clock.moments l.fn.clock; faults = g.K.Keeper.faults l.fn.keeper })
      (client_view g.L.Source.left g.L.Source.began g.L.Sink.written g.L.Source.faults g.L.Sink.faults l.fn.link)
      l.receiver l.requests l.server.state (record { moments = g.C.Clock.moments l.clock; faults = g.K.Keeper.faults l.keeper })
      (g.L.Source.left l.link) (g.L.Sink.written l.link);
  in_time : IsReceivedInTime (g.L.Source.left l.fn.link) (g.L.Source.left l.link) (g.L.Source.began l.link) l.requests;
  few : l.requests < MAX_REQUESTS;
  agrees : Agrees (g.K.Keeper.kept l.keeper) l.server.state.library;
  keeper : without_rows (g.K.Keeper.kept l.keeper) ≡ without_rows (g.K.Keeper.kept l.fn.keeper);
  config : l.server.config ≡ l.fn.server.config;
  read_faults : g.L.Source.faults l.link ≡ g.L.Source.faults l.fn.link;
  write_faults : g.L.Sink.faults l.link ≡ g.L.Sink.faults l.fn.link;
}

abbrev pub decreases-loop-request : goal.decreases-loop-request
decreases-loop-request g l = MAX_REQUESTS - l.requests
