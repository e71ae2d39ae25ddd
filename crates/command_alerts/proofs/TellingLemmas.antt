-- What is reported of rows: of more of them, and over a longer log.
use Rattle.std.proofs.Common.{◌≡◌, ◌↔◌, inl, inr, ℕ, suc, ◌+◌, ◌≤◌, ◌<◌, List, [], ◌∷◌, ◌++◌, length, refl, sym, ap, subst, ◌∙◌, append_assoc, length-append, arith}
use Rattle.std.proofs.lemmas.List.{append-nil}
use Rattle.match_bindings.specs.declared.log_entry.LogEntry.{LogEntry}
use Rattle.alert_window.specs.Alert.{IsAlert}
use Rattle.command_alerts.specs.Alerts.{ReportsAlertRow, ReportsRows}
use Rattle.command_alerts.specs.inner.Seeing.{AlerterState, IsBehind, ReportsBehind, TakesLogRows}

-- the law on alerts and longer logs
abbrev pub AlertsStay : Type 0
AlertsStay = (n x number : ℕ) (log more : List LogEntry) → number ≤ length log → IsAlert n x (log ++ more) number ↔ IsAlert n x log number

-- two ways to be an alert that agree on the rows
row-same : (P Q : ℕ → Type 0) (number : ℕ) (row : LogEntry) (text : List ℕ) → P number ↔ Q number → ReportsAlertRow P number row text → ReportsAlertRow Q number row text
row-same P Q number row text same (inl (alert, line)) = inl (same.0 alert, line)
row-same P Q number row text same (inr (none, is)) = inr ((λ alert. none (same.1 alert)), is)

pub rows-same : (P Q : ℕ → Type 0) (number : ℕ) (rows : List LogEntry) (text : List ℕ)
    → ((i : ℕ) → number ≤ i → i < number + length rows → P i ↔ Q i) → ReportsRows P number rows text → ReportsRows Q number rows text
rows-same P Q number [] text same reports = reports
rows-same P Q number (row ∷ rows) text same (own, later, reports, others, is) = (
  own,
  later,
  row-same P Q number row own (same number (omega arith) (omega arith)) reports,
  rows-same P Q (number + 1) rows later (λ i least most. same i (omega arith) (omega arith)) others,
  is,
)

-- rows and others after them
pub rows-append : (P : ℕ → Type 0) (number : ℕ) (rows others : List LogEntry) (text more : List ℕ)
    → ReportsRows P number rows text → ReportsRows P (number + length rows) others more → ReportsRows P number (rows ++ others) (text ++ more)
rows-append P number [] others text more reports behind =
    let none : number + 0 ≡ number = omega arith in
    subst (λ (t : List ℕ). ReportsRows P number others (t ++ more)) (sym reports) (subst (λ (i : ℕ). ReportsRows P i others more) none behind)
rows-append P number (row ∷ rows) others text more (own, later, reports, rest, is) behind =
    let next : number + suc (length rows) ≡ (number + 1) + length rows = omega arith in (
      own,
      later ++ more,
      reports,
      rows-append P (number + 1) rows others later more rest (subst (λ (i : ℕ). ReportsRows P i others more) next behind),
      ap (λ (t : List ℕ). t ++ more) is ∙ append_assoc own later more,
    )

-- one row
pub row-alone : (P : ℕ → Type 0) (number : ℕ) (row : LogEntry) (text : List ℕ) → ReportsAlertRow P number row text → ReportsRows P number (row ∷ []) text
row-alone P number row text reports = (text, [], reports, refl, sym (append-nil text))

-- what is reported of rows after a log, and of others after these
pub behind-more : AlertsStay → (n x : ℕ) (log rows others : List LogEntry) (text more : List ℕ)
    → ReportsRows (IsAlert n x (log ++ rows)) (length log + 1) rows text
    → ReportsRows (IsAlert n x ((log ++ rows) ++ others)) (length (log ++ rows) + 1) others more
    → ReportsRows (IsAlert n x (log ++ (rows ++ others))) (length log + 1) (rows ++ others) (text ++ more)
behind-more stay n x log rows others text more reports behind =
    let whole = append_assoc log rows others in
    let first = rows-same (IsAlert n x (log ++ rows)) (IsAlert n x ((log ++ rows) ++ others)) (length log + 1) rows text
    (λ i least most. let same = stay n x i (log ++ rows) others (omega (arith, length-append log rows)) in (same.1, same.0)) reports in
    let next : length (log ++ rows) + 1 ≡ (length log + 1) + length rows = omega (arith, length-append log rows) in
    subst (λ (l : List LogEntry). ReportsRows (IsAlert n x l) (length log + 1) (rows ++ others) (text ++ more)) whole
    (rows-append (IsAlert n x ((log ++ rows) ++ others)) (length log + 1) rows others text more first
    (subst (λ (i : ℕ). ReportsRows (IsAlert n x ((log ++ rows) ++ others)) i others more) next behind))

-- no rows
pub takes-none : (state : AlerterState) → TakesLogRows [] state state []
takes-none state = record {
  pattern_is = refl;
  n_is = refl;
  x_is = refl;
  reports = λ log behind. record { behind = subst (IsBehind state.watch) (sym (append-nil log)) behind; reports = refl };
}

-- rows and then others
pub takes-more : AlertsStay → (rows others : List LogEntry) (before between after : AlerterState) (text more : List ℕ)
    → TakesLogRows rows before between text → TakesLogRows others between after more → TakesLogRows (rows ++ others) before after (text ++ more)
takes-more stay rows others before between after text more takes then = record {
  pattern_is = then.pattern_is ∙ takes.pattern_is;
  n_is = then.n_is ∙ takes.n_is;
  x_is = then.x_is ∙ takes.x_is;
  reports = λ log behind. go log behind;
}
  where
    go : (log : List LogEntry) → IsBehind before.watch log → ReportsBehind before.watch.n before.watch.x log (rows ++ others) after.watch (text ++ more)
    go log behind =
        let here = takes.reports log behind in
        let there = then.reports (log ++ rows) here.behind in record {
          behind = subst (IsBehind after.watch) (append_assoc log rows others) there.behind;
          reports = behind-more stay before.watch.n before.watch.x log rows others text more here.reports
              (subst (λ (n : ℕ). ReportsRows (IsAlert n before.watch.x ((log ++ rows) ++ others)) (length (log ++ rows) + 1) others more) takes.n_is
              (subst (λ (x : ℕ). ReportsRows (IsAlert between.watch.n x ((log ++ rows) ++ others)) (length (log ++ rows) + 1) others more) takes.x_is there.reports));
        }
