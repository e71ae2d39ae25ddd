use Rattle.std.proofs.Common.{ℕ, List, ◌++◌, sym, subst}
use Rattle.match_run.proofs.PendingLemmas.{fails_so}
use Rattle.match_run.specs.Buffered.{IsBuffered}
use Rattle.match_run.proofs.BufferedLemmas.{way-more, way-all, way-stopped}
use Rattle.match_run.proofs.pending.Pending.add.Goals as goal

pub returns-in_err-push-clause-err : goal.returns-in_err-push-clause-err
returns-in_err-push-clause-err g c before first way =
    fails_so c.from_residual.result (way-stopped before c.args.self.now c.args.text.now first (g.O.Sink.written c.args.output.now) way)

pub returns-clause-ok : goal.returns-clause-ok
returns-clause-ok g c before first way =
    let text = before ++ c.args.text.now in
    let all = way-more before c.args.self.now c.args.text.now first (g.O.Sink.written c.args.output.now) way in
    let pushed = subst (λ (p : List ℕ). IsBuffered text p first (g.O.Sink.written c.args.output.now)) (sym c.in_ok-push.ensures) all in
    subst (λ (p : List ℕ). IsBuffered text p first (g.O.Sink.written c.write.new.output)) (sym c.in_ok-write.ensures.ok.0)
    (way-all text first (g.O.Sink.written c.write.new.output) (c.in_ok-write.ensures.all text first pushed))
