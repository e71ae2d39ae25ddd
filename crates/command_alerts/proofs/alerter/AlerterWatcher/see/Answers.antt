use Rattle.stix_bundles.specs.Objects.{data_in}
use Rattle.match_run.specs.Reading.{bundle_of}
use Rattle.command_alerts.specs.inner.Seeing.{SeesFirstOfBundle}
use Rattle.command_alerts.proofs.SeeingLemmas.{all-seen, ends-fault, rows-after, last-after}
use Rattle.command_alerts.proofs.alerter.AlerterWatcher.see.Goals as goal

pub returns-in_err-write-clause-end : goal.returns-in_err-write-clause-end
returns-in_err-write-clause-end g c =
    let far = c.in_ok-report_all.ensures.sees in
    let seen = all-seen (data_in c.args.batch.now.bundle) c.args.batch.now.observations c.args.self.now c.report_all.new.self far.text far.sees in
    let cut = c.in_err-write.ensures.err far.text (g.O.Sink.written c.args.output.now) far.way in
    ends-fault _ (SeesFirstOfBundle c.args.self.now (bundle_of c.args.batch.now)) (g.O.Sink.written c.args.output.now) (g.O.Sink.written c.write.new.output)
    c.from_residual-in_err-write.result c.from_residual-in_err-write.ensures.1 (far.text, seen, cut)

pub returns-clause-seen : goal.returns-clause-seen
returns-clause-seen g c =
    let far = c.in_ok-report_all.ensures.sees in
    rows-after (data_in c.args.batch.now.bundle) c.args.batch.now.observations c.args.self.now c.report_all.new.self far.text c.requires.ready far.sees

pub returns-clause-last : goal.returns-clause-last
returns-clause-last g c =
    let far = c.in_ok-report_all.ensures.sees in
    last-after (data_in c.args.batch.now.bundle) c.args.batch.now.observations c.args.self.now c.report_all.new.self far.text c.requires.ready far.sees
