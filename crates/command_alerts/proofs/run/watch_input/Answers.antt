use Rattle.std.proofs.Common.{ℕ, [], sym, subst}
use Rattle.flow_edges.specs.Streams.{streams}
use Rattle.match_input.specs.Ahead.{InputReaderState}
use Rattle.alert_window.specs.WatchState.{WatchRepresents}
use Rattle.match_run.specs.Reading.{HasRead}
use Rattle.command_alerts.specs.Telling.{AnswersAlerts}
use Rattle.command_alerts.specs.inner.Seeing.{AlerterState}
use Rattle.command_alerts.proofs.EndLemmas.{end-reported}
use Rattle.command_alerts.proofs.run.watch_input.Goals as goal

pub follow-requires-clause-reads : goal.follow-requires-clause-reads
follow-requires-clause-reads g c =
    let left = g.I.Source.left c.args.input.now in
    let began = g.I.Source.began c.args.input.now in
    (left, [], subst (λ (r : InputReaderState). HasRead left r left began []) (sym c.in_ok-reader.ensures) (c.begins_with_none.ensures left began))

pub returns-clause-end : goal.returns-clause-end
returns-clause-end g c =
    let left = g.I.Source.left c.args.input.now in
    let began = g.I.Source.began c.args.input.now in
    let written = g.O.Sink.written c.args.output.now in
    let before = streams left began written in
    let after = streams (g.I.Source.left c.follow.new.input) (g.I.Source.began c.follow.new.input) (g.O.Sink.written c.follow.new.output) in
    let start = c.new-alerter.result in
    let read = subst (λ (r : InputReaderState). HasRead left r left began []) (sym c.in_ok-reader.ensures) (c.begins_with_none.ensures left began) in
    let represents = subst (λ (s : AlerterState). WatchRepresents s.watch []) (sym c.new-alerter.ensures) c.in_ok-watch.ensures.represents in
    let reported = end-reported c.alerts_persist.ensures start (record { represents = represents; order = tt }) left began written c.follow.new.watcher after c.follow.result
    (c.follow.ensures.end left [] read) in
    let of_pattern = subst (λ (s : AlerterState). AnswersAlerts s.pattern s.watch.n s.watch.x before after c.follow.result) c.new-alerter.ensures reported in
    let of_n = subst (λ (n : ℕ). AnswersAlerts c.args.pattern.now n c.in_ok-watch.watch.x before after c.follow.result) c.in_ok-watch.ensures.n of_pattern in
    subst (λ (x : ℕ). AnswersAlerts c.args.pattern.now c.args.request.n x before after c.follow.result) c.in_ok-watch.ensures.x of_n
