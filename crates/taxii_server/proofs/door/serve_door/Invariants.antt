use Rattle.std.proofs.Common.{◌-◌, ◌≡◌, ◌≤◌}
use Rattle.taxii_store.specs.Agreement.{Agrees, without_rows}
use Rattle.taxii_server.specs.Environment.{client_view}
use Rattle.taxii_server.specs.inner.Serving.{SoFar}
use Rattle.taxii_server.proofs.door.serve_door.Given as goal

abbrev pub invariant-loop-served : goal.invariant-loop-served
invariant-loop-served g l = record {
  agrees : Agrees (g.K.Keeper.kept l.keeper) l.server.state.library;
  keeper : without_rows (g.K.Keeper.kept l.keeper) ≡ without_rows (g.K.Keeper.kept l.fn.keeper);
  config : l.server.config ≡ l.fn.server.config;
  so_far : SoFar (client_view g.D.Link.Source.left g.D.Link.Source.began g.D.Link.Sink.written g.D.Link.Source.faults g.D.Link.Sink.faults)
      l.fn.server.config l.fn.server.state l.server.state l.port
      (record { moments = g.C.Clock.moments l.fn.clock; faults = g.K.Keeper.faults l.fn.keeper }) (record { moments = g.C.Clock.moments l.clock; faults = g.K.Keeper.faults l.keeper })
      (g.D.Door.observable l.fn.door) (g.D.Door.observable l.door) l.served;
  most : l.served.connections ≤ l.connections;
  quiet : g.D.Door.faults l.door ≡ g.D.Door.faults l.fn.door;
}

abbrev pub decreases-loop-served : goal.decreases-loop-served
decreases-loop-served g l = l.connections - l.served.connections
