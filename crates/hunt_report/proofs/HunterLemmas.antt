-- What a hunter hunted over: one row more, and what it reports of observations.
use Rattle.std.proofs.Common.{◌≡◌, ℕ, zero, suc, ◌+◌, ◌<◌, ℤ, ◌≤ℤ◌, ◌<ℤ◌, Option, Some, None, List, [], ◌∷◌, ◌++◌, length, refl, sym, ap, subst, ◌∙◌, append_assoc, length-append, arith}
use Rattle.std.specs.Prelude.{◌≢◌, All, slice_get, slice_index_or}
use Rattle.std.proofs.lemmas.List.{append-nil, length-map, map-append}
use Rattle.std.proofs.lemmas.Grind.{flat_map-append}
use Rattle.std.proofs.lemmas.Int.{by_lt_z, ints}
use Rattle.std.proofs.lemmas.Option.{slice_get_within, slice_get-get_or}
use Rattle.serde_json.specs.Data.{Data}
use Rattle.stix_bundles.specs.declared.observation.Observation.{Observation}
use Rattle.pattern_types.specs.declared.pattern.Pattern.{Pattern}
use Rattle.pattern_types.specs.PlainLeaf.{PlainLeaf}
use Rattle.pattern_types.specs.PlainPattern.{PlainPattern, plain_pattern}
use Rattle.match_bindings.specs.declared.log_entry.LogEntry.{LogEntry}
use Rattle.match_bindings.specs.NumberedPattern.{numbered_pattern}
use Rattle.match_bindings.specs.Log.{IsInOrder}
use Rattle.match_stream.specs.MatcherState.{Falls}
use Rattle.match_stream.specs.Answer.{IsWithinLimit}
use Rattle.match_input.specs.Line.{last_after}
use Rattle.match_run.specs.Matching.{IsNeverOverLimit}
use Rattle.match_run.proofs.LogLemmas.{never_over_limit-more}
use Rattle.match_run.specs.Reading.{MayFollow}
use Rattle.match_run.proofs.ReadingLemmas.{last_after-append}
use Rattle.hunt_feed.specs.declared.hunted.Hunted.{Hunted}
use Rattle.hunt_engine.specs.declared.found.Hit.{Hit}
use Rattle.hunt_engine.specs.declared.refusal.EngineRefusal.{EngineRefusal}
use Rattle.hunt_engine.specs.declared.refusal.EngineRefusal.TheVariants as refusal
use Rattle.hunt_engine.specs.Memo.{brackets_of, IsSoundMemo}
use Rattle.hunt_engine.specs.EngineLog.{ObservationRow, engine_row, IsLogOf, last_of_rows}
use Rattle.hunt_engine.specs.EngineState.{EngineState, EngineRepresents}
use Rattle.hunt_engine.specs.EngineAnswer.{binds_at, ReportsRow, IsFirstOverLimit}
use Rattle.hunt_report.proofs.PlaceLemmas.{there, get_right}
use Rattle.hunt_report.specs.declared.hit_summary.HitSummary.{HitSummary}
use Rattle.hunt_report.specs.declared.over_limit.OverLimit.{OverLimit}
use Rattle.hunt_report.specs.Rows.{rows_over}
use Rattle.hunt_report.specs.Lines.{hit_line, hits_text}
use Rattle.hunt_report.specs.HitSummaries.{IsHitSummary}
use Rattle.hunt_report.specs.Hunting.{HunterState, patterns_of, IsHuntable, HuntsOver, IsReadyHunter, TakesRows, TakesFirst, TakesUpTo}
use Rattle.hunt_report.specs.inner.Noting.{all_noted, AreBefore}
use Rattle.hunt_report.specs.inner.HitReporting.{TakesHuntRow, IsHuntOverLimitAt, end_of_engine, EndsAtHuntedRow}
use Rattle.hunt_report.proofs.HitsLemmas.{OneLog, log_ends, log_continues, row_ends, answers-more}
use Rattle.hunt_report.proofs.HitSummaryLemmas.{IsNotable, hit_summary-rows, hit_summaries-hits, length-all_noted}

-- ---- no rows

never_over_limit-none : (p : Pattern) (retained_limit : ℕ) → IsNeverOverLimit p retained_limit []
never_over_limit-none p retained_limit [] more row e = absurd (cc)
never_over_limit-none p retained_limit (first ∷ rows) more row e = absurd (cc)

pub hunts-none : (hunter : HunterState) → hunter.engine.patterns ≡ patterns_of hunter.hunted → EngineRepresents hunter.engine []
    → length hunter.hit_summaries ≡ length hunter.hunted → ((place : ℕ) (hit_summary : Option HitSummary) → slice_get hunter.hit_summaries place ≡ Some hit_summary → hit_summary ≡ None)
    → HuntsOver hunter [] []
hunts-none hunter patterns represents count none = record {
  patterns = patterns;
  engine = represents;
  answers = refl;
  within_limit = λ place p of_p. ([], tt, never_over_limit-none p hunter.engine.retained_limit);
  count = count;
  hit_summaries = λ place hit_summary at. subst (λ (s : Option HitSummary). IsHitSummary [] [] s) (sym (none place hit_summary at)) refl;
}

-- ---- one row more

-- an engine that took it under the same patterns and retained limit, and noted what it answered
module _ (one : OneLog) (before : HunterState) (engine : EngineState) (row : ObservationRow) (own : List Hit) (earlier : List ObservationRow) (hits : List Hit)
    (hunts : HuntsOver before earlier hits) (patterns : engine.patterns ≡ before.engine.patterns) (retained_limit : engine.retained_limit ≡ before.engine.retained_limit)
    (represents : EngineRepresents engine (earlier ++ row ∷ [])) (reports : ReportsRow before.engine.patterns (earlier ++ row ∷ []) own) where
  abbrev pub all_rows : List ObservationRow
  all_rows = earlier ++ row ∷ []

  abbrev pub once_taken : HunterState
  once_taken = record { hunted = before.hunted; engine = engine; hit_summaries = all_noted row.observation.last own before.hit_summaries }

  told : ReportsRow (patterns_of before.hunted) all_rows own
  told = subst (λ (l : List Pattern). ReportsRow l all_rows own) hunts.patterns reports

  within_limit : (place : ℕ) (p : Pattern) → slice_get (patterns_of before.hunted) place ≡ Some p
      → (log : List LogEntry) × IsLogOf (plain_pattern p) all_rows log × IsNeverOverLimit p engine.retained_limit log
  within_limit place p of_p =
      let plain = plain_pattern p in
      let was = hunts.within_limit place p of_p in
      let here : slice_get engine.patterns place ≡ Some p = ap (λ (l : List Pattern). slice_get l place) (patterns ∙ hunts.patterns) ∙ of_p in
      let within = slice_get_within engine.patterns place p here in
      let follower = there engine.lazy_matchers place (let many = represents.count in omega (arith, within, many)) in
      let follows = represents.each place p follower.0 here follower.1 in
      let entry = (log_ends plain earlier row follows.0 follows.1).entry in
      let whole : follows.0 ≡ was.0 ++ entry ∷ [] = log_continues one plain earlier row was.0 follows.0 was.1 follows.1 in (
        was.0 ++ entry ∷ [],
        subst (IsLogOf plain all_rows) whole follows.1,
        never_over_limit-more p engine.retained_limit was.0 entry (subst (λ (c : ℕ). IsNeverOverLimit p c was.0) (sym retained_limit) was.2)
            (subst (λ (l : List LogEntry). IsWithinLimit (numbered_pattern p) l engine.retained_limit) whole follows.2.within_limit),
      )

  notable : (k : ℕ) (hit : Hit) → slice_get own k ≡ Some hit → IsNotable all_rows row.observation.last (length before.hit_summaries) hit
  notable k hit at =
      let ends = row_ends (patterns_of before.hunted) all_rows own told k hit at in
      let place = ends.inside in
      let many = length-map before.hunted (λ indicator. indicator.pattern) in
      let count = hunts.count in
      let long : length all_rows ≡ length earlier + 1 = length-append earlier (row ∷ []) in
      let none : length earlier + 0 ≡ length earlier = omega arith in (
        omega (arith, place, many, count),
        record {
          before = length earlier;
          number = ends.number ∙ long;
          row = row;
          there = sym (ap (slice_get all_rows) none) ∙ get_right earlier (row ∷ []) 0 row refl;
          time_is = refl;
        },
      )

  pub hunts-more : HuntsOver once_taken all_rows (hits ++ own)
  hunts-more = record {
    patterns = patterns ∙ hunts.patterns;
    engine = represents;
    answers = answers-more (patterns_of before.hunted) [] earlier row hits own hunts.answers told;
    within_limit = within_limit;
    count = length-all_noted row.observation.last own before.hit_summaries ∙ hunts.count;
    hit_summaries = hit_summaries-hits all_rows hits before.hit_summaries row.observation.last own notable
        (λ place hit_summary at. hit_summary-rows earlier (row ∷ []) (binds_at place hits) hit_summary (hunts.hit_summaries place hit_summary at));
  }

last_more : (rows : List ObservationRow) (row : ObservationRow) → last_of_rows (rows ++ row ∷ []) ≡ Some row.observation.last
last_more [] row = refl
last_more (r ∷ []) row = refl
last_more (r ∷ q ∷ rows) row = last_more (q ∷ rows) row

-- what is true of each hit by its place
pub all_from : {A : Type 0} (P : A → Type 0) (xs : List A) → ((k : ℕ) (x : A) → slice_get xs k ≡ Some x → P x) → All P xs
all_from P xs each k x inside = each k (slice_index_or xs k x) (slice_get-get_or xs k x inside)

-- each is of an indicator
pub hits-inside : (before : HunterState) (rows : List ObservationRow) (own : List Hit) → before.engine.patterns ≡ patterns_of before.hunted
    → ReportsRow before.engine.patterns rows own → All (λ hit. hit.hunted < length before.hunted) own
hits-inside before rows own patterns reports = all_from (λ hit. hit.hunted < length before.hunted) own (λ k hit at.
    let place = (row_ends before.engine.patterns rows own reports k hit at).inside in
    let same : length before.engine.patterns ≡ length (patterns_of before.hunted) = ap length patterns in
    let many = length-map before.hunted (λ indicator. indicator.pattern) in omega (arith, place, many, same))

pub takes-row : OneLog → (before : HunterState) (engine : EngineState) (row : ObservationRow) (own : List Hit) → IsReadyHunter before
    → engine.patterns ≡ before.engine.patterns → engine.retained_limit ≡ before.engine.retained_limit
    → ((rows : List ObservationRow) → EngineRepresents before.engine rows → EngineRepresents engine (rows ++ row ∷ []))
    → ((rows : List ObservationRow) → EngineRepresents before.engine rows → ReportsRow before.engine.patterns (rows ++ row ∷ []) own)
    → TakesHuntRow row before (record { hunted = before.hunted; engine = engine; hit_summaries = all_noted row.observation.last own before.hit_summaries }) own
takes-row one before engine row own ready patterns retained_limit represents reports = record {
  hunted = refl;
  retained_limit = retained_limit;
  takes = λ earlier hits hunts.
      hunts-more one before engine row own earlier hits hunts patterns retained_limit (represents earlier hunts.engine) (reports earlier hunts.engine);
  inside = hits-inside before (ready.rows ++ row ∷ []) own ready.hunts.patterns (reports ready.rows ready.hunts.engine);
}

-- where the engine didn't answer
pub ends-engine : (row : ObservationRow) (before : HunterState) (why : EngineRefusal) → why ≢ refusal.Ended
    → ((rows : List ObservationRow) → EngineRepresents before.engine rows → (place number retained_limit : ℕ) → why ≡ refusal.OverLimit place number retained_limit
    → IsFirstOverLimit before.engine.patterns before.engine.retained_limit (rows ++ row ∷ []) place number retained_limit)
    → EndsAtHuntedRow row before (end_of_engine why)
ends-engine row before (refusal.OverLimit place number retained_limit) running over_limit = λ earlier hits hunts.
    subst (λ (l : List Pattern). IsFirstOverLimit l before.engine.retained_limit (earlier ++ row ∷ []) place number retained_limit) hunts.patterns
    (over_limit earlier hunts.engine place number retained_limit refl)
ends-engine row before refusal.Ended running over_limit = absurd (running refl)
ends-engine row before refusal.NoMemory running over_limit = tt

-- ---- times don't fall

not_less : (a b : ℤ) → ¬ (b <ℤ a) → a ≤ℤ b
not_less a b none = by_lt_z b a (λ less. absurd (none less)) (λ most. most)

rows-by : (p : PlainPattern) (rows : List ObservationRow) (log : List LogEntry) → IsInOrder log → IsLogOf p rows log → (k : ℕ) (row : ObservationRow)
    → slice_get rows k ≡ Some row → (last : ℤ) → ¬ (Falls (last_of_rows rows) last) → row.observation.last ≤ℤ last
rows-by p [] log order is k row at last none = absurd (cc)
rows-by p (r ∷ rows) [] order is k row at last none = absurd is
rows-by p (r ∷ []) (e ∷ log) order is zero row at last none =
    let same : r ≡ row = cc in
    subst (λ (q : ObservationRow). q.observation.last ≤ℤ last) same (not_less r.observation.last last none)
rows-by p (r ∷ []) (e ∷ log) order is (suc k) row at last none = absurd (cc)
rows-by p (r ∷ next ∷ rows) (e ∷ []) order is k row at last none = absurd is.1
rows-by p (r ∷ next ∷ rows) (e ∷ f ∷ log) order is zero row at last none =
    let same : r ≡ row = cc in
    let rest = rows-by p (next ∷ rows) (f ∷ log) order.2 is.1 0 next refl last none in
    let one = is.0.last in let two = is.1.0.last in let ascends = order.1 in
    subst (λ (q : ObservationRow). q.observation.last ≤ℤ last) same (omega (arith, ints, rest, one, two, ascends))
rows-by p (r ∷ next ∷ rows) (e ∷ f ∷ log) order is (suc k) row at last none =
    rows-by p (next ∷ rows) (f ∷ log) order.2 is.1 k row at last none

-- nothing was first seen after what comes next
pub seen-before : (hunter : HunterState) (rows : List ObservationRow) (hits : List Hit) → HuntsOver hunter rows hits → (last : ℤ)
    → ¬ (Falls hunter.engine.last last) → AreBefore last hunter.hit_summaries
seen-before hunter rows hits hunts last none place hit_summary at =
    let sees = hunts.hit_summaries place (Some hit_summary) at in
    let count = hunts.count in
    let within = slice_get_within hunter.hit_summaries place (Some hit_summary) at in
    let many = length-map hunter.hunted (λ indicator. indicator.pattern) in
    let represents = hunts.engine in
    let same : length hunter.engine.patterns ≡ length (patterns_of hunter.hunted) = ap length hunts.patterns in
    let pattern = there hunter.engine.patterns place (omega (arith, count, within, many, same)) in
    let lazy_matchers = represents.count in
    let follower = there hunter.engine.lazy_matchers place (omega (arith, count, within, many, same, lazy_matchers)) in
    let follows = represents.each place pattern.0 follower.0 pattern.1 follower.1 in
    let first = sees.first in
    subst (λ (t : ℤ). t ≤ℤ last) (sym first.time_is)
    (rows-by (plain_pattern pattern.0) rows follows.0 follows.2.order follows.1 first.before first.row first.there last
    (subst (λ (l : Option ℤ). ¬ (Falls l last)) represents.last_is none))

-- ---- what is told of rows

text-append : (hunted : List Hunted) (hits others : List Hit) → hits_text hunted (hits ++ others) ≡ hits_text hunted hits ++ hits_text hunted others
text-append hunted hits others = flat_map-append (hit_line hunted) hits others

pub takes-none : (hunter : HunterState) → TakesRows [] hunter hunter []
takes-none hunter = record {
  hunted = refl;
  retained_limit = refl;
  takes = λ earlier hits hunts. (
    [],
    subst (λ (l : List ObservationRow). HuntsOver hunter l (hits ++ [])) (sym (append-nil earlier))
        (subst (λ (l : List Hit). HuntsOver hunter earlier l) (sym (append-nil hits)) hunts),
    refl,
  );
}

-- rows, and one more
pub takes-more : (rows : List ObservationRow) (row : ObservationRow) (before between after : HunterState) (text : List ℕ) (own : List Hit)
    → TakesRows rows before between text → TakesHuntRow row between after own
    → TakesRows (rows ++ row ∷ []) before after (text ++ hits_text between.hunted own)
takes-more rows row before between after text own takes then = record {
  hunted = then.hunted ∙ takes.hunted;
  retained_limit = then.retained_limit ∙ takes.retained_limit;
  takes = λ earlier hits hunts.
      let here = takes.takes earlier hits hunts in
      let there = then.takes (earlier ++ rows) (hits ++ here.0) here.1 in (
        here.0 ++ own,
        subst (λ (l : List ObservationRow). HuntsOver after l (hits ++ (here.0 ++ own))) (append_assoc earlier rows (row ∷ []))
            (subst (λ (l : List Hit). HuntsOver after ((earlier ++ rows) ++ row ∷ []) l) (append_assoc hits here.0 own) there),
        ap (λ (t : List ℕ). t ++ hits_text between.hunted own) here.2
            ∙ ap (λ (h : List Hunted). hits_text before.hunted here.0 ++ hits_text h own) takes.hunted
            ∙ sym (text-append before.hunted here.0 own),
      );
}

-- of observations
pub sees-more : (objects : List Data) (seen : List Observation) (o : Observation) (before between after : HunterState) (text : List ℕ) (own : List Hit)
    → TakesRows (rows_over objects seen) before between text → TakesHuntRow (engine_row o objects) between after own
    → TakesRows (rows_over objects (seen ++ o ∷ [])) before after (text ++ hits_text between.hunted own)
sees-more objects seen o before between after text own takes then =
    subst (λ (rows : List ObservationRow). TakesRows rows before after (text ++ hits_text between.hunted own)) (sym (map-append (λ (q : Observation). engine_row q objects) seen (o ∷ [])))
    (takes-more (rows_over objects seen) (engine_row o objects) before between after text own takes then)

-- ---- what is true after some rows

pub ready-after : (rows : List ObservationRow) (before after : HunterState) (text : List ℕ) → IsReadyHunter before → TakesRows rows before after text → IsReadyHunter after
ready-after rows before after text ready takes =
    let told = takes.takes ready.rows ready.hits ready.hunts in record {
      huntable = subst (All IsHuntable) (sym takes.hunted) ready.huntable;
      rows = ready.rows ++ rows;
      hits = ready.hits ++ told.0;
      hunts = told.1;
    }

pub ready-row : (row : ObservationRow) (before after : HunterState) (own : List Hit) → IsReadyHunter before → TakesHuntRow row before after own → IsReadyHunter after
ready-row row before after own ready takes = record {
  huntable = subst (All IsHuntable) (sym takes.hunted) ready.huntable;
  rows = ready.rows ++ row ∷ [];
  hits = ready.hits ++ own;
  hunts = takes.takes ready.rows ready.hits ready.hunts;
}

pub rows-after : (objects : List Data) (observations : List Observation) (before after : HunterState) (text : List ℕ)
    → IsReadyHunter before → TakesRows (rows_over objects observations) before after text → after.engine.rows ≡ before.engine.rows + length observations
rows-after objects observations before after text ready takes =
    let told = takes.takes ready.rows ready.hits ready.hunts in
    let now = told.1.engine.rows_are in
    let was = ready.hunts.engine.rows_are in
    omega (arith, now, was, length-append ready.rows (rows_over objects observations), length-map observations (λ (o : Observation). engine_row o objects))

last_over : (objects : List Data) (observations : List Observation) (rows : List ObservationRow)
    → last_of_rows (rows ++ rows_over objects observations) ≡ last_after (last_of_rows rows) observations
last_over objects [] rows = ap last_of_rows (append-nil rows)
last_over objects (o ∷ observations) rows =
    sym (ap last_of_rows (append_assoc rows (engine_row o objects ∷ []) (rows_over objects observations)))
    ∙ last_over objects observations (rows ++ engine_row o objects ∷ [])
    ∙ ap (λ (last : Option ℤ). last_after last observations) (last_more rows (engine_row o objects))
    ∙ sym (last_after-append (last_of_rows rows) (o ∷ []) observations)

pub last-after : (objects : List Data) (observations : List Observation) (before after : HunterState) (text : List ℕ)
    → IsReadyHunter before → TakesRows (rows_over objects observations) before after text → after.engine.last ≡ last_after before.engine.last observations
last-after objects observations before after text ready takes =
    let told = takes.takes ready.rows ready.hits ready.hunts in
    told.1.engine.last_is ∙ last_over objects observations ready.rows
    ∙ ap (λ (last : Option ℤ). last_after last observations) (sym ready.hunts.engine.last_is)

-- what may follow after one row
pub follow-after : (before after : HunterState) (o : Observation) (objects : List Data) (own : List Hit) (observations : List Observation)
    → IsReadyHunter before → TakesHuntRow (engine_row o objects) before after own
    → MayFollow (Some o.last) ((before.engine.rows + 1) + 1) observations → MayFollow after.engine.last (after.engine.rows + 1) observations
follow-after before after o objects own observations ready takes follow =
    let hunts = takes.takes ready.rows ready.hits ready.hunts in
    let now = hunts.engine.rows_are in
    let was = ready.hunts.engine.rows_are in
    let rows : after.engine.rows ≡ before.engine.rows + 1 = omega (arith, now, was, length-append ready.rows (engine_row o objects ∷ [])) in
    let last : after.engine.last ≡ Some o.last = hunts.engine.last_is ∙ last_more ready.rows (engine_row o objects) in
    subst (λ (l : Option ℤ). MayFollow l (after.engine.rows + 1) observations) (sym last)
    (subst (λ (n : ℕ). MayFollow (Some o.last) (n + 1) observations) (sym rows) follow)

-- ---- where it stops

-- too much is live at the next observation
pub stops-next : (objects : List Data) (seen later : List Observation) (o : Observation) (before between : HunterState) (text : List ℕ) (why : OverLimit)
    → TakesRows (rows_over objects seen) before between text → IsHuntOverLimitAt (engine_row o objects) between why
    → TakesUpTo objects (seen ++ o ∷ later) before why text
stops-next objects seen later o before between text why takes over_limit = record {
  seen = seen;
  observation = o;
  later = later;
  observations_are = refl;
  after = between;
  takes = takes;
  over_limit = λ earlier hits hunts.
      let told = takes.takes earlier hits hunts in
      let rows = (earlier ++ rows_over objects seen) ++ engine_row o objects ∷ [] in
      subst (λ (h : List Hunted). IsFirstOverLimit (patterns_of h) before.engine.retained_limit rows why.hunted why.number why.retained_limit) takes.hunted
      (subst (λ (c : ℕ). IsFirstOverLimit (patterns_of between.hunted) c rows why.hunted why.number why.retained_limit) takes.retained_limit
      (over_limit (earlier ++ rows_over objects seen) (hits ++ told.0) told.1));
}

-- this text is told of the first of some observations
pub takes-first : (objects : List Data) (seen later observations : List Observation) (before after : HunterState) (text : List ℕ)
    → observations ≡ seen ++ later → TakesRows (rows_over objects seen) before after text → TakesFirst objects observations before text
takes-first objects seen later observations before after text are takes = record {
  seen = seen;
  later = later;
  observations_are = are;
  after = after;
  takes = takes;
}

-- ---- what is known of a bundle

-- nothing is, at first
pub right-none : (objects : List Data) (brackets : List PlainLeaf) (memo : List (Option (List ℕ))) → memo ≡ [] → IsSoundMemo objects brackets memo
right-none objects brackets memo is root places at = let none : slice_get [] root ≡ Some (Some places) = sym (ap (λ (l : List (Option (List ℕ))). slice_get l root) is) ∙ at in absurd (cc)

-- it is right for the brackets of the engine's patterns, which are those of the hunted list
pub right-engine : (hunter : HunterState) (objects : List Data) (memo : List (Option (List ℕ))) → IsReadyHunter hunter
    → IsSoundMemo objects (brackets_of (patterns_of hunter.hunted)) memo → IsSoundMemo objects (brackets_of hunter.engine.patterns) memo
right-engine hunter objects memo ready right = subst (λ (ps : List Pattern). IsSoundMemo objects (brackets_of ps) memo) (sym ready.hunts.patterns) right

pub right-hunted : (hunter : HunterState) (objects : List Data) (memo : List (Option (List ℕ))) → IsReadyHunter hunter
    → IsSoundMemo objects (brackets_of hunter.engine.patterns) memo → IsSoundMemo objects (brackets_of (patterns_of hunter.hunted)) memo
right-hunted hunter objects memo ready right = subst (λ (ps : List Pattern). IsSoundMemo objects (brackets_of ps) memo) ready.hunts.patterns right
