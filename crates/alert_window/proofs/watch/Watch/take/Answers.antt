-- A row at which the bracket holds is kept, and tells whether it is an alert; another is none.
use Rattle.std.proofs.Common.{◌≡◌, ◌≤◌, ◌+◌, ◌≤ℤ◌, ℤ, ℕ, Bool, false, List, IsTrue, ◌↔◌, Some, refl, sym, ◌∙◌, ap, subst}
use Rattle.std.specs.BTreeSet.{insert_key}
use Rattle.alert_window.specs.declared.matching_row.MatchingRow.{MatchingRow}
use Rattle.alert_window.specs.MatchingRows.{row_cmp}
use Rattle.alert_window.specs.WatchState.{WatchState, AnswersAlertRow, with_window_row}
use Rattle.alert_window.specs.inner.Kept.{keep, IsCountReached}
use Rattle.alert_window.specs.contracts.watch.Watch.{the_view}
use Rattle.alert_window.proofs.TakeLemmas.{Follows, not_later, answer_matching, answer_other}
use Rattle.alert_window.proofs.watch.Watch.take.Goals as goal
use Rattle.alert_window.proofs.watch.Watch.take.Goals.{in_default-via-in-None-1, in_default-via-in-Some+else-lt, then-holds+in_ok-alert, else-holds}

pub returns-2-clause-answers : goal.returns-2-clause-answers
returns-2-clause-answers c = λ log represents order.
    let before = c.args.self.now in
    let after : WatchState = the_view (record {
      seconds = c.self-2.inside.seconds;
      rows = c.self.inside.rows + 1;
      last = Some c.args.last;
      kept = c.self-2.inside.kept;
    }) in
    let some : 1 ≤ before.n = subst (λ (s : WatchState). 1 ≤ s.n) c.self.view_is c.self.invariant in
    let rows : after.rows ≡ before.rows + 1 = ap (λ (s : WatchState). s.rows + 1) c.self.view_is in
    let last_of : c.self.inside.last ≡ before.last = ap (λ (s : WatchState). s.last) c.self.view_is in
    let later : (b : ℤ) → before.last ≡ Some b → b ≤ℤ c.args.last = λ b e.
    elim c.in_default.branch [
      | in_default-via-in-None-1 w ↦ absurd (cc)
      | in_default-via-in-Some+else-lt w ↦
          let same : w.in-Some.before ≡ b = cc in
          subst (λ (t : ℤ). t ≤ℤ c.args.last) same (not_later c.args.last w.in-Some.before w.if-lt.ensures)
    ]
    in
    elim c.if-holds.branch [
      | then-holds+in_ok-alert w ↦
          let kept_then : after.kept ≡ w.keep.new.self.kept = ap (λ (s : WatchState). s.kept) (c.self-2.view_is ∙ w.self-is) in
          let joined = c.self-2.view_is ∙ w.self-is ∙ w.in_ok-alert.ensures.kept in
          let follows : Follows before after c.args.last = record { n = ap (λ (s : WatchState). s.n) joined; rows = rows; last_is = refl } in
          let kept : after.kept ≡ keep before.n (insert_key row_cmp before.kept (record { first = c.args.first; number = before.rows + 1 })) =
          ap (λ (s : WatchState). s.kept) joined ∙ ap (λ (k : ℕ). keep before.n (insert_key row_cmp before.kept (record { first = c.args.first; number = k }))) rows
          in
          let reached : IsTrue c.if-holds.alert ↔ IsCountReached before.n before.x after.kept c.args.first c.args.last =
          subst (λ (kept : List MatchingRow). IsTrue c.if-holds.alert ↔ IsCountReached before.n before.x kept c.args.first c.args.last) (sym kept_then)
          (subst (λ (answer : Bool). IsTrue answer ↔ IsCountReached before.n before.x w.keep.new.self.kept c.args.first c.args.last) (sym w.alert-is) w.in_ok-alert.ensures.reached)
          in
          subst (λ (h : Bool). AnswersAlertRow before after (with_window_row log c.args.first c.args.last h) c.if-holds.alert) (sym w.if-holds.true)
          (answer_matching before after log c.args.first c.args.last c.if-holds.alert some represents order c.requires.span later follows kept reached)
      | else-holds w ↦
          let joined = c.self-2.view_is ∙ w.self-is in
          let follows : Follows before after c.args.last = record { n = ap (λ (s : WatchState). s.n) joined; rows = rows; last_is = refl } in
          let kept : after.kept ≡ before.kept = ap (λ (s : WatchState). s.kept) joined in
          subst (λ (h : Bool). AnswersAlertRow before after (with_window_row log c.args.first c.args.last h) c.if-holds.alert) (sym w.if-holds.false)
          (subst (λ (answer : Bool). AnswersAlertRow before after (with_window_row log c.args.first c.args.last false) answer) (sym (w.alert-is ∙ w.if-holds.false))
          (answer_other before after log c.args.first c.args.last some represents order c.requires.span later follows kept))
    ]
