use Rattle.std.proofs.Common.{◌≡◌, take}
use Rattle.flow_edges.specs.Flow.{written_with, joined_slices}
use Rattle.flow_edges.proofs.pieces.write_all_vectored.Given as goal

abbrev pub invariant-loop-piece : goal.invariant-loop-piece
invariant-loop-piece g l = record {
  done : g.S.Sink.written l.sink ≡ written_with (joined_slices (take l.piece-index l.pieces)) (g.S.Sink.written l.fn.sink);
  quiet : g.S.Sink.faults l.sink ≡ g.S.Sink.faults l.fn.sink;
  unread : g.S.Sink.other l.sink ≡ g.S.Sink.other l.fn.sink;
}
