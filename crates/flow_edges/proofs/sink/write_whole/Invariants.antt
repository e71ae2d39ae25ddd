use Rattle.std.proofs.Common.{◌≡◌, length}
use Rattle.flow_edges.proofs.Writing.{IsPartWay}
use Rattle.flow_edges.proofs.sink.write_whole.Given as goal

abbrev pub invariant-loop-rest : goal.invariant-loop-rest
invariant-loop-rest g l = record {
  way : IsPartWay l.bytes l.rest (g.S.Sink.written l.fn.sink) (g.S.Sink.written l.sink);
  quiet : g.S.Sink.faults l.sink ≡ g.S.Sink.faults l.fn.sink;
  unread : g.S.Sink.other l.sink ≡ g.S.Sink.other l.fn.sink;
}

abbrev pub decreases-loop-rest : goal.decreases-loop-rest
decreases-loop-rest g l = length l.rest
