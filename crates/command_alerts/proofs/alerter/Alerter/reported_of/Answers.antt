use Rattle.std.proofs.Common.{◌≡◌, ◌+◌, Bool, [], ◌∷◌, Vec, ℕ, Global, Result, Err, IfOk, refl, sym, ap, subst, ◌∙◌}
use Rattle.flow_values.specs.declared.no_memory.NoMemory.{NoMemory}
use Rattle.alert_window.specs.WatchState.{AnswersAlertRow, with_window_row}
use Rattle.command_alerts.specs.inner.Seeing.{AlerterState, TakesLogRows, alert_row}
use Rattle.command_alerts.proofs.SeeingLemmas.{if_ok, no-fall, takes-alert, takes-other}
use Rattle.command_alerts.proofs.alerter.Alerter.reported_of.Goals.{in-Ok-true, in-Ok-false, in-Err-NoMemory}
use Rattle.command_alerts.proofs.alerter.Alerter.reported_of.Goals as goal

pub unreachable-requires : goal.unreachable-requires
unreachable-requires c =
    let was = c.in-Err-OutOfOrder in
    let falls = (was.ensures.out_of_order was.field-0-0 was.field-0-1).0 (ap Err was.field-0-is) in
    no-fall c.args.self.now.watch.last c.args.observation.now.last was.field-0-0 was.field-0-1 c.requires.order (ap (λ (s : AlerterState). s.watch.last) (sym c.self.view_is) ∙ falls.0) falls.1 falls.2

pub returns : goal.returns
returns c =
    let old : AlerterState = record { pattern = c.self.inside.pattern.now; watch = c.self.inside.watch } in
    let new : AlerterState = record { pattern = c.self.inside.pattern.now; watch = c.take.new.self } in
    let o = c.args.observation.now in
    let holds = c.args.holds in
    let number : o.number ≡ old.watch.rows + 1 = subst (λ (s : AlerterState). o.number ≡ s.watch.rows + 1) (sym c.self.view_is) c.requires.number in
    let reported = λ (r : Result (Vec ℕ Global) NoMemory). IfOk r (λ text. TakesLogRows (alert_row o holds ∷ []) old new text.items) in
    subst (λ (s : AlerterState). IfOk c.match-take.result (λ text. TakesLogRows (alert_row o holds ∷ []) s new text.items)) c.self.view_is
    (elim c.match-take.branch [
      | in-Ok-true w ↦ subst reported (sym w.result-is) (if_ok w.line_of.result (λ line is. takes-alert old new o holds refl c.take.ensures.kept number line.items
          (λ log represents order. subst (λ (alert : Bool). AnswersAlertRow old.watch new.watch (with_window_row log o.first o.last holds) alert) w.in-Ok-true.field-0-test
          (w.in-Ok-true.ensures.answers log represents order)) is) w.line_of.ensures)
      | in-Ok-false w ↦ subst reported (sym w.result-is) (subst (TakesLogRows (alert_row o holds ∷ []) old new) (sym w.new.ensures.items)
          (takes-other old new o holds refl c.take.ensures.kept number
          (λ log represents order. subst (λ (alert : Bool). AnswersAlertRow old.watch new.watch (with_window_row log o.first o.last holds) alert) w.in-Ok-false.field-0-test
          (w.in-Ok-false.ensures.answers log represents order))))
      | in-Err-NoMemory w ↦ subst reported (sym w.result-is) tt
    ])
