use Rattle.match_run.proofs.PendingLemmas.{on_ok}
use Rattle.match_run.specs.Reading.{bundle_of}
use Rattle.hunt_report.specs.Hunting.{BeginsBundle, StopsInBundle}
use Rattle.hunt_report.specs.inner.HitReporting.{HasCutHitLines}
use Rattle.hunt_report.proofs.HunterLemmas.{ready-after, rows-after, last-after}
use Rattle.hunt_report.proofs.HitReportingLemmas.{see-cut, see-all, see-part, see-fault}
use Rattle.hunt_report.proofs.hunter.HunterWatcher.see.Goals as goal

pub returns-then-has_cut_lines-clause-end : goal.returns-then-has_cut_lines-clause-end
returns-then-has_cut_lines-clause-end g c =
    see-cut c.args.self.now (bundle_of c.args.batch.now) c.report_all-told.new.pending (g.O.Sink.written c.args.output.now) (g.O.Sink.written c.report_all-told.new.output)
    c.report_all-told.result (c.has_cut_lines.ensures.0 c.if-has_cut_lines.true) c.report_all-told.ensures.end

pub returns-in_err-write-clause-end : goal.returns-in_err-write-clause-end
returns-in_err-write-clause-end g c =
    let before = c.args.self.now in
    let bundle = bundle_of c.args.batch.now in
    let first = g.O.Sink.written c.args.output.now in
    let uncut : ¬ HasCutHitLines c.report_all-told.result = λ cut. let yes = c.has_cut_lines.ensures.1 cut in let no = c.if-has_cut_lines.false in cc in
    see-fault (StopsInBundle before bundle) (BeginsBundle before bundle) first (g.O.Sink.written c.write.new.output)
    c.from_residual.result c.from_residual.ensures.1
    (see-part before bundle c.report_all-told.new.pending first (g.O.Sink.written c.report_all-told.new.output) c.report_all-told.new.self (g.O.Sink.written c.write.new.output)
    (λ text way. c.in_err-write.ensures.err text first way) c.report_all-told.result uncut c.report_all-told.ensures.sees c.report_all-told.ensures.end)

pub returns-clause-sees : goal.returns-clause-sees
returns-clause-sees g c =
    let first = g.O.Sink.written c.args.output.now in
    on_ok c.report_all-told.result (λ far. (far.text, far.takes, c.in_ok-write.ensures.all far.text first far.way)) c.report_all-told.ensures.sees

pub returns-clause-ready : goal.returns-clause-ready
returns-clause-ready g c =
    on_ok c.report_all-told.result (λ far. ready-after _ c.args.self.now c.report_all-told.new.self far.text c.requires.ready far.takes) c.report_all-told.ensures.sees

pub returns-clause-seen : goal.returns-clause-seen
returns-clause-seen g c =
    on_ok c.report_all-told.result (λ far. rows-after (bundle_of c.args.batch.now).objects c.args.batch.now.observations c.args.self.now c.report_all-told.new.self far.text c.requires.ready far.takes)
    c.report_all-told.ensures.sees

pub returns-clause-last : goal.returns-clause-last
returns-clause-last g c =
    on_ok c.report_all-told.result (λ far. last-after (bundle_of c.args.batch.now).objects c.args.batch.now.observations c.args.self.now c.report_all-told.new.self far.text c.requires.ready far.takes)
    c.report_all-told.ensures.sees

pub returns-clause-end : goal.returns-clause-end
returns-clause-end g c =
    let first = g.O.Sink.written c.args.output.now in
    let uncut : ¬ HasCutHitLines c.report_all-told.result = λ cut. let yes = c.has_cut_lines.ensures.1 cut in let no = c.if-has_cut_lines.false in cc in
    see-all c.args.self.now (bundle_of c.args.batch.now) c.report_all-told.new.pending first (g.O.Sink.written c.report_all-told.new.output) (g.O.Sink.written c.write.new.output)
    (λ text way. c.in_ok-write.ensures.all text first way) c.report_all-told.result uncut c.report_all-told.ensures.end
