-- What is seen of observations, one more at a time, and what a watch then stands for.
use Rattle.std.proofs.Common.{◌≡◌, inl, inr, ℕ, ◌+◌, ℤ, ◌<ℤ◌, Bool, true, false, List, [], ◌∷◌, ◌++◌, length, Option, Some, Result, Ok, Err, IfOk, IfErr, IsErrAnd, refl, sym, ap, subst, ◌∙◌, append_assoc, length-append, arith}
use Rattle.std.proofs.lemmas.List.{append-nil}
use Rattle.serde_json.specs.Data.{Data}
use Rattle.stix_bundles.specs.declared.observation.Observation.{Observation}
use Rattle.pattern_types.specs.declared.pattern.Pattern.{Pattern}
use Rattle.pattern_types.specs.PlainPattern.{PlainPattern, plain_pattern}
use Rattle.pattern_types.specs.Soundness.{IsSoundPattern}
use Rattle.match_comparisons.specs.Truths.{AreTruths}
use Rattle.match_bindings.specs.declared.log_entry.LogEntry.{LogEntry}
use Rattle.match_bindings.specs.Log.{IsInOrder}
use Rattle.match_stream.specs.MatcherState.{Falls}
use Rattle.match_input.specs.Line.{last_after}
use Rattle.match_run.specs.declared.see_end.SeeEnd.{SeeEnd}
use Rattle.match_run.specs.declared.see_end.SeeEnd.TheVariants.{WriteFault}
use Rattle.match_run.specs.Reading.{MayFollow}
use Rattle.match_run.specs.Watching.{BreaksOff, EndsSeeing}
use Rattle.match_run.proofs.ReadingLemmas.{last_after-append}
use Rattle.match_run.specs.Entries.{AreEntriesOf}
use Rattle.match_run.proofs.LogLemmas.{entries_of-more, entries_of-length}
use Rattle.alert_window.specs.Alert.{IsAlert}
use Rattle.alert_window.specs.WatchState.{WatchRepresents, AnswersAlertRow, with_window_row, window_end}
use Rattle.command_alerts.specs.Tasks.{IsOneLeaf}
use Rattle.command_alerts.specs.Alerts.{IsAlertLine, ReportsAlertRow}
use Rattle.command_alerts.specs.inner.Seeing.{AlerterState, IsBehind, IsReadyAlerter, TakesLogRows, Sees, SeesFirst, alert_row}
use Rattle.command_alerts.proofs.TellingLemmas.{AlertsStay, row-alone, takes-none, takes-more}

-- a value of which more is known
pub if_ok : {T E : Type 0} {P Q : T → Type 0} (answer : Result T E) → ((value : T) → P value → Q value) → IfOk answer P → IfOk answer Q
if_ok (Ok value) each fact = each value fact
if_ok (Err refusal) each fact = tt

-- times that don't fall
pub no-fall : (before : Option ℤ) (last time now : ℤ) → ¬ (Falls before last) → before ≡ Some time → now ≡ last → ¬ (now <ℤ time)
no-fall before last time now none is same falls = none (subst (λ (l : Option ℤ). Falls l last) (sym is) (subst (λ (t : ℤ). t <ℤ time) same falls))

-- a row that the watch answered, as it reports of it
module _ (before after : AlerterState) (o : Observation) (holds : Bool) (same : after.pattern ≡ before.pattern)
    (kept : (after.watch.n ≡ before.watch.n) × (after.watch.x ≡ before.watch.x)) (number : o.number ≡ before.watch.rows + 1) where
  abbrev Answers : Bool → Type 0
  Answers alert = (log : List LogEntry) → WatchRepresents before.watch log → IsInOrder log
      → AnswersAlertRow before.watch after.watch (with_window_row log o.first o.last holds) alert

  takes : (text : List ℕ)
      → ((log : List LogEntry) → IsBehind before.watch log → IsBehind after.watch (log ++ alert_row o holds ∷ [])
      × ReportsAlertRow (IsAlert before.watch.n before.watch.x (log ++ alert_row o holds ∷ [])) (length log + 1) (alert_row o holds) text)
      → TakesLogRows (alert_row o holds ∷ []) before after text
  takes text reports = record {
    pattern_is = same;
    n_is = kept.0;
    x_is = kept.1;
    reports = λ log behind. record {
      behind = (reports log behind).0;
      reports = row-alone (IsAlert before.watch.n before.watch.x (log ++ alert_row o holds ∷ [])) (length log + 1) (alert_row o holds) text (reports log behind).1;
    };
  }

  pub takes-alert : (line : List ℕ) → Answers true → IsAlertLine o.number o.last line → TakesLogRows (alert_row o holds ∷ []) before after line
  takes-alert line answers is = takes line (λ log behind.
      let answer = answers log behind.represents behind.order in
      let count : length (log ++ alert_row o holds ∷ []) ≡ length log + 1 = omega (arith, length-append log (alert_row o holds ∷ [])) in
      let own : o.number ≡ length log + 1 = number ∙ ap (λ (k : ℕ). k + 1) behind.represents.rows in (
        record { represents = answer.represents; order = answer.order },
        inl (
          subst (IsAlert before.watch.n before.watch.x (log ++ alert_row o holds ∷ [])) count (answer.alert.0 refl),
          subst (λ (k : ℕ). IsAlertLine k o.last line) own is,
        ),
      ))

  pub takes-other : Answers false → TakesLogRows (alert_row o holds ∷ []) before after []
  takes-other answers = takes [] (λ log behind.
      let answer = answers log behind.represents behind.order in
      let count : length (log ++ alert_row o holds ∷ []) ≡ length log + 1 = omega (arith, length-append log (alert_row o holds ∷ [])) in (
        record { represents = answer.represents; order = answer.order },
        inr (
          (λ alert. let yes = answer.alert.1 (subst (IsAlert before.watch.n before.watch.x (log ++ alert_row o holds ∷ [])) (sym count) alert) in cc),
          refl,
        ),
      ))

-- no observation
pub sees-none : (objects : List Data) (state : AlerterState) → Sees objects [] state state []
sees-none objects state = record { rows = []; entries = refl; takes = takes-none state }

-- one more
pub sees-more : AlertsStay → (objects : List Data) (observations : List Observation) (o : Observation) (holds : Bool) (before between after : AlerterState)
    (text more : List ℕ) → Sees objects observations before between text → AreTruths objects o.roots (plain_pattern before.pattern) (holds ∷ [])
    → TakesLogRows (alert_row o holds ∷ []) between after more → Sees objects (observations ++ o ∷ []) before after (text ++ more)
sees-more stay objects observations o holds before between after text more sees are takes = record {
  rows = sees.rows ++ alert_row o holds ∷ [];
  entries = entries_of-more (plain_pattern before.pattern) objects observations sees.rows o (holds ∷ []) sees.entries are;
  takes = takes-more stay sees.rows (alert_row o holds ∷ []) before between after text more sees.takes takes;
}

-- ---- what is true after some observations

last_of-more : (log : List LogEntry) (row : LogEntry) → window_end (log ++ row ∷ []) ≡ Some row.last
last_of-more [] row = refl
last_of-more (first ∷ []) row = refl
last_of-more (first ∷ next ∷ log) row = last_of-more (next ∷ log) row

last-entries : (p : PlainPattern) (objects : List Data) (observations : List Observation) (log rows : List LogEntry)
    → AreEntriesOf p objects observations rows → window_end (log ++ rows) ≡ last_after (window_end log) observations
last-entries p objects [] log rows entries = ap (λ (l : List LogEntry). window_end (log ++ l)) entries ∙ ap window_end (append-nil log)
last-entries p objects (o ∷ observations) log rows (truths, rest, are, others, is) =
    let row : LogEntry = record { first = o.first; last = o.last; truths = truths } in
    ap (λ (l : List LogEntry). window_end (log ++ l)) is
    ∙ sym (ap window_end (append_assoc log (row ∷ []) rest))
    ∙ last-entries p objects observations (log ++ row ∷ []) rest others
    ∙ ap (λ (last : Option ℤ). last_after last observations) (last_of-more log row)
    ∙ sym (last_after-append (window_end log) (o ∷ []) observations)

-- one is ready again
pub ready-after : (objects : List Data) (observations : List Observation) (before after : AlerterState) (text : List ℕ)
    → IsReadyAlerter before → Sees objects observations before after text → IsReadyAlerter after
ready-after objects observations before after text ready sees = record {
  sound = subst (λ (p : Pattern). IsSoundPattern (plain_pattern p)) (sym sees.takes.pattern_is) ready.sound;
  one = subst IsOneLeaf (sym sees.takes.pattern_is) ready.one;
  log = ready.log ++ sees.rows;
  behind = (sees.takes.reports ready.log ready.behind).behind;
}

pub rows-after : (objects : List Data) (observations : List Observation) (before after : AlerterState) (text : List ℕ)
    → IsReadyAlerter before → Sees objects observations before after text → after.watch.rows ≡ before.watch.rows + length observations
rows-after objects observations before after text ready sees =
    let represents = (sees.takes.reports ready.log ready.behind).behind.represents in
    omega (
      arith,
      represents.rows,
      ready.behind.represents.rows,
      length-append ready.log sees.rows,
      entries_of-length (plain_pattern before.pattern) objects observations sees.rows sees.entries,
    )

pub last-after : (objects : List Data) (observations : List Observation) (before after : AlerterState) (text : List ℕ)
    → IsReadyAlerter before → Sees objects observations before after text → after.watch.last ≡ last_after before.watch.last observations
last-after objects observations before after text ready sees =
    let represents = (sees.takes.reports ready.log ready.behind).behind.represents in
    represents.last ∙ last-entries (plain_pattern before.pattern) objects observations ready.log sees.rows sees.entries
    ∙ ap (λ (last : Option ℤ). last_after last observations) (sym ready.behind.represents.last)

-- what may follow after one row
pub follow-after : (before after : AlerterState) (o : Observation) (holds : Bool) (text : List ℕ) (observations : List Observation)
    → IsReadyAlerter before → TakesLogRows (alert_row o holds ∷ []) before after text
    → MayFollow (Some o.last) ((before.watch.rows + 1) + 1) observations → MayFollow after.watch.last (after.watch.rows + 1) observations
follow-after before after o holds text observations ready takes follow =
    let represents = (takes.reports ready.log ready.behind).behind.represents in
    let rows : after.watch.rows ≡ before.watch.rows + 1 = omega (arith, represents.rows, ready.behind.represents.rows, length-append ready.log (alert_row o holds ∷ [])) in
    let last : after.watch.last ≡ Some o.last = represents.last ∙ last_of-more ready.log (alert_row o holds) in
    subst (λ (l : Option ℤ). MayFollow l (after.watch.rows + 1) observations) (sym last)
    (subst (λ (n : ℕ). MayFollow (Some o.last) (n + 1) observations) (sym rows) follow)

-- ---- the truth of one bracket

pub one-truth : (objects : List Data) (roots : List ℕ) (p : Pattern) (truths : List Bool) → IsOneLeaf p → AreTruths objects roots (plain_pattern p) truths
    → length truths ≡ 1
one-truth objects roots p truths one are =
    let is = subst (λ (q : PlainPattern). AreTruths objects roots q truths) one.1 are in
    ap length is.1

-- ---- what is reported of a bundle is cut

-- this text of all that is reported was seen, and of it a prefix is written
pub all-seen : (objects : List Data) (observations : List Observation) (before after : AlerterState) (text : List ℕ)
    → Sees objects observations before after text → SeesFirst objects observations before text
all-seen objects observations before after text sees = record {
  seen = observations;
  later = [];
  observations_are = sym (append-nil observations);
  after = after;
  sees = sees;
}

-- a write failed
pub ends-fault : {T S : Type 0} (stops : S → List ℕ → Type 0) (begins : List ℕ → Type 0) (first after : Option (List ℕ)) (answer : Result T (SeeEnd S))
    → IsErrAnd answer (λ end. end ≡ WriteFault) → BreaksOff begins first after → IfErr answer (EndsSeeing stops begins first after)
ends-fault stops begins first after (Ok value) is cut = absurd is
ends-fault stops begins first after (Err end) is cut = subst (λ (e : SeeEnd _). EndsSeeing stops begins first after e) (sym is) cut
