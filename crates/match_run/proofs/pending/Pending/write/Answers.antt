use Rattle.std.proofs.Common.{rules}
use Rattle.flow_edges.specs.Flow.{WritesPrefix}
use Rattle.match_run.proofs.PendingLemmas.{fails_so}
use Rattle.match_run.proofs.BufferedLemmas.{way-cut}
use Rattle.match_run.proofs.pending.Pending.write.Goals as goal

pub returns-in_err-write_whole-clause-err : goal.returns-in_err-write_whole-clause-err
returns-in_err-write_whole-clause-err g c before first way =
    let cut : WritesPrefix c.args.self.now (g.O.Sink.written c.args.output.now) (g.O.Sink.written c.write_whole.new.sink) = search rules in
    fails_so c.from_residual.result (way-cut before c.args.self.now first (g.O.Sink.written c.args.output.now) (g.O.Sink.written c.write_whole.new.sink) way cut)
