-- What is reported of an input, by what the hunter sees of its bundles.
use Rattle.std.proofs.Common.{◌≡◌, ◌≢◌, inl, inr, ℕ, List, [], ◌∷◌, ◌++◌, length, Option, Some, None, MatchOption, Err, refl, sym, ap, subst, ◌∙◌, append_assoc, arith}
use Rattle.std.proofs.lemmas.List.{append-nil}
use Rattle.std.proofs.Math.Seq.{take-length}
use Rattle.std.proofs.lemmas.Grind.{flat_map-append}
use Rattle.flow_edges.specs.Flow.{IsAtEnd, written_with, WritesPrefix}
use Rattle.flow_edges.specs.Streams.{Streams, streams}
use Rattle.serde_json.specs.Data.{Data}
use Rattle.pattern_types.specs.declared.pattern.Pattern.{Pattern}
use Rattle.match_bindings.specs.declared.log_entry.LogEntry.{LogEntry}
use Rattle.match_bindings.specs.NumberedPattern.{numbered_pattern}
use Rattle.match_stream.specs.Answer.{IsWithinLimit}
use Rattle.match_input.specs.declared.mode.Mode.TheVariants.{Lines}
use Rattle.match_input.specs.declared.read_end.ReadEnd.{ReadEnd}
use Rattle.match_input.specs.declared.read_end.ReadEnd.TheVariants as read
use Rattle.match_input.specs.Reading.{BundleOf, Whole}
use Rattle.match_input.specs.Ahead.{InputReaderState, reader_start}
use Rattle.match_run.specs.Matching.{ReadsInput}
use Rattle.match_run.proofs.PendingLemmas.{written_with-nil, written_with-both}
use Rattle.match_run.specs.Watching.{Says, BreaksOff, EndsSeeing, SeesAll, WatchesWhole, StopsWithin as EndsWithin, AnswersWatch}
use Rattle.match_run.specs.inner.WatchEnds.{watch_end_of_read, end_of_see}
use Rattle.match_run.specs.Reading.{HasRead, NextAnswers}
use Rattle.match_run.proofs.BufferedLemmas.{way-cut}
use Rattle.match_run.specs.declared.see_end.SeeEnd.{SeeEnd}
use Rattle.match_run.specs.declared.see_end.SeeEnd.TheVariants as see
use Rattle.match_run.specs.declared.watch_end.WatchEnd.{WatchEnd}
use Rattle.match_run.specs.declared.watch_end.WatchEnd.TheVariants.{Done, Input, ReadFault, WriteFault, Stopped, NoMemory}
use Rattle.hunt_feed.specs.declared.hunted.Hunted.{Hunted}
use Rattle.hunt_feed.specs.declared.hunted.Hunt.{Hunt}
use Rattle.hunt_feed.specs.Indicators.{IsHuntOf}
use Rattle.hunt_feed.specs.declared.rule.FeedRule.{FeedRule}
use Rattle.hunt_feed.specs.declared.end.FeedEnd.{FeedEnd}
use Rattle.hunt_feed.specs.declared.end.FeedEnd.TheVariants as unfed
use Rattle.hunt_feed.specs.Feeds.{Refused as RefusedLine, ReadsFeed}
use Rattle.hunt_engine.specs.declared.found.Hit.{Hit}
use Rattle.hunt_engine.specs.EngineLog.{ObservationRow, engine_row}
use Rattle.hunt_engine.specs.EngineAnswer.{IsFirstOverLimit}
use Rattle.hunt_report.specs.declared.over_limit.OverLimit.{OverLimit}
use Rattle.hunt_report.specs.Rows.{rows_over, rows_of}
use Rattle.hunt_report.specs.Hits.{AnswerRows, AreHits, AreNeverOverLimit}
use Rattle.hunt_report.specs.Lines.{skipped_lines, hit_line, hits_text}
use Rattle.hunt_report.specs.HitSummaries.{IsReport, IsReportText}
use Rattle.hunt_report.specs.Hunting.{HunterState, patterns_of, HuntsOver, TakesRows, HunterSeesBundle, BeginsBundle, StopsInBundle}
use Rattle.command_hunt.specs.Tasks.{HuntTask}
use Rattle.command_hunt.specs.Feeding.{IsUnfed}
use Rattle.command_hunt.specs.Telling.{feed_of, HuntsRows, reported_of, ReportsHits, ReportsAll, HuntsWhole, HuntStopsOverLimit, HuntStopsWithin, StopsReporting, StopsSkipping, AnswersHunt}
use Rattle.command_hunt.specs.inner.Begun.{IsUnreadInput, IsBegun, Reports}

-- the law that the answers to the rows of a log are its hits
abbrev pub AnswersAreHits : Type 0
AnswersAreHits = (patterns : List Pattern) (rows : List ObservationRow) (hits : List Hit) → AnswerRows patterns [] rows hits → AreHits patterns rows hits

-- ---- rows that were taken in turn

pub takes-none : (w : HunterState) → TakesRows [] w w []
takes-none w = record {
  hunted = refl;
  retained_limit = refl;
  takes = λ earlier hits hunts. (
    [],
    subst (λ (rows : List ObservationRow). HuntsOver w rows (hits ++ [])) (sym (append-nil earlier)) (subst (HuntsOver w earlier) (sym (append-nil hits)) hunts),
    refl,
  );
}

pub takes-more : (rows others : List ObservationRow) (before next after : HunterState) (text later : List ℕ) → TakesRows rows before next text → TakesRows others next after later
    → TakesRows (rows ++ others) before after (text ++ later)
takes-more rows others before next after text later one two = record {
  hunted = two.hunted ∙ one.hunted;
  retained_limit = two.retained_limit ∙ one.retained_limit;
  takes = go;
}
  where
    go : (earlier : List ObservationRow) (hits : List Hit) → HuntsOver before earlier hits
        → (more : List Hit) × HuntsOver after (earlier ++ (rows ++ others)) (hits ++ more) × (text ++ later ≡ hits_text before.hunted more)
    go earlier hits hunts =
        let first = one.takes earlier hits hunts in
        let second = two.takes (earlier ++ rows) (hits ++ first.0) first.1 in (
          first.0 ++ second.0,
          subst (λ (r : List ObservationRow). HuntsOver after r (hits ++ (first.0 ++ second.0))) (append_assoc earlier rows others)
              (subst (HuntsOver after ((earlier ++ rows) ++ others)) (append_assoc hits first.0 second.0) second.1),
          ap (λ (t : List ℕ). t ++ later) first.2
              ∙ ap (λ (t : List ℕ). hits_text before.hunted first.0 ++ t) (second.2 ∙ ap (λ (h : List Hunted). hits_text h second.0) one.hunted)
              ∙ sym (flat_map-append (hit_line before.hunted) first.0 second.0),
        )

pub takes-all : (bundles : List BundleOf) (before after : HunterState) (text : List ℕ) → SeesAll HunterSeesBundle before bundles after text
    → TakesRows (rows_of bundles) before after text
takes-all [] before after text (behind, is) =
    subst (λ (w : HunterState). TakesRows [] before w text) (sym behind) (subst (TakesRows [] before before) (sym is) (takes-none before))
takes-all (bundle ∷ bundles) before after text (next, own, later, sees, others, is) =
    subst (TakesRows (rows_of (bundle ∷ bundles)) before after) (sym is)
    (takes-more (rows_over bundle.objects bundle.observations) (rows_of bundles) before next after own later sees (takes-all bundles next after later others))

-- ---- a hunt from its start

-- no pattern is over limit at no rows
none-over_limit : (patterns : List Pattern) (most : ℕ) → AreNeverOverLimit patterns most []
none-over_limit patterns most place p is = ([], tt, none)
  where
    none : (rows more : List LogEntry) (row : LogEntry) → [] ≡ rows ++ row ∷ more → IsWithinLimit (numbered_pattern p) (rows ++ row ∷ []) most
    none [] more row same = absurd (cc)
    none (x ∷ rows) more row same = absurd (cc)

-- what is reported of some rows: what is skipped, and then this
pub record HuntsSo (task : HuntTask) (feed : List Data) (rows : List ObservationRow) (hunt : Hunt) (text : List ℕ) : Type 0 where
  pub hunts : HuntsRows task feed rows
  pub hunt_is : hunts.hunt ≡ hunt
  pub reported : reported_of hunts ≡ skipped_lines hunt.skipped ++ text

module _ (law : AnswersAreHits) (task : HuntTask) (feed : List Data) (hunt : Hunt) (hunt_is : IsHuntOf feed task.moment hunt) where
  -- nothing was taken yet
  pub hunts-none : HuntsSo task feed [] hunt []
  hunts-none = record {
    hunts = record {
      hunt = hunt;
      hunt_is = hunt_is;
      hits = [];
      hits_are = law (patterns_of hunt.hunted) [] [] refl;
      within_limit = none-over_limit (patterns_of hunt.hunted) task.retained_limit;
    };
    hunt_is = refl;
    reported = refl;
  }

  module _ (start : HunterState) (new : HuntsOver start [] []) (hunted : start.hunted ≡ hunt.hunted) (retained_limit : start.engine.retained_limit ≡ task.retained_limit) where
    -- rows were taken
    pub hunts-so : (rows : List ObservationRow) (after : HunterState) (text : List ℕ) → TakesRows rows start after text
        → (so : HuntsSo task feed rows hunt text) × HuntsOver after rows so.hunts.hits
    hunts-so rows after text takes =
        let found = takes.takes [] [] new in
        let same = takes.hunted ∙ hunted in (
          record {
            hunts = record {
              hunt = hunt;
              hunt_is = hunt_is;
              hits = found.0;
              hits_are = law (patterns_of hunt.hunted) rows found.0
                  (subst (λ (h : List Hunted). AnswerRows (patterns_of h) [] rows found.0) same found.1.answers);
              within_limit = subst (λ (h : List Hunted). AreNeverOverLimit (patterns_of h) task.retained_limit rows) same
                  (subst (λ (c : ℕ). AreNeverOverLimit (patterns_of after.hunted) c rows) (takes.retained_limit ∙ retained_limit) found.1.within_limit);
            };
            hunt_is = refl;
            reported = ap (λ (t : List ℕ). skipped_lines hunt.skipped ++ t) (ap (λ (h : List Hunted). hits_text h found.0) (sym hunted) ∙ sym found.2);
          },
          found.1,
        )

-- ---- what was written

-- of a text all was written, and so a prefix
pub prefix-whole : (text : List ℕ) (before now : Option (List ℕ)) → now ≡ written_with text before → WritesPrefix text before now
prefix-whole text before now is = (length text, omega arith, is ∙ ap (λ (t : List ℕ). written_with t before) (sym (take-length text)))

-- after one text another one
reported-behind : (text more : List ℕ) (before now after : Option (List ℕ)) → now ≡ written_with text before → after ≡ written_with more now
    → after ≡ written_with (text ++ more) before
reported-behind text more before now after was is = is ∙ ap (written_with more) was ∙ written_with-both text more before

-- after a text a prefix of another one
prefix-behind : (text more : List ℕ) (before now after : Option (List ℕ)) → now ≡ written_with text before → WritesPrefix more now after
    → WritesPrefix (text ++ more) before after
prefix-behind text more before now after was prefix = way-cut (text ++ more) more before now after (record { sent = text; text_is = refl; now_is = was }) prefix

-- ---- where the objects are known of which some are indicators

-- what is reported of bundles of which they are known
module _ (task : HuntTask) (file : Option (List Data)) (bundles : List BundleOf) (feed : List Data) (is : feed_of file bundles ≡ Some feed) where
  pub reports-hits : (hunts : HuntsRows task feed (rows_of bundles)) → ReportsHits task file bundles (reported_of hunts)
  reports-hits hunts =
      subst (λ (found : Option (List Data)). MatchOption found (reported_of hunts ≡ [])
      (λ objects. (own : HuntsRows task objects (rows_of bundles)) × (reported_of hunts ≡ reported_of own))) (sym is) (hunts, refl)

  pub reports-all : (hunts : HuntsRows task feed (rows_of bundles)) (report : List ℕ) → IsReport task.moment (rows_of bundles) hunts.hits hunts.hunt.hunted report
      → ReportsAll task file bundles (reported_of hunts ++ report)
  reports-all hunts report reported =
      subst (λ (found : Option (List Data)). MatchOption found (reported_of hunts ++ report ≡ [])
      (λ objects. (own : HuntsRows task objects (rows_of bundles)) × (seen : List ℕ) × IsReport task.moment (rows_of bundles) own.hits own.hunt.hunted seen
      × (reported_of hunts ++ report ≡ reported_of own ++ seen))) (sym is) (hunts, report, reported, refl)

-- they are known of these bundles, and of more as well
abbrev pub IsKnownFrom : Option (List Data) → List BundleOf → List Data → Type 0
IsKnownFrom file earlier feed = (more : List BundleOf) → feed_of file (earlier ++ more) ≡ Some feed

-- ---- how a run ends

-- the first bundle was read, and of what is skipped a prefix was reported
module _ (law : AnswersAreHits) (task : HuntTask) (before : Streams) (first : BundleOf) (hunt : Hunt) (hunt_is : IsHuntOf first.objects task.moment hunt) where
  pub ends-skipping : (left began written written_now : Option (List ℕ)) → IsBegun before first left began → before.written ≡ written
      → WritesPrefix (skipped_lines hunt.skipped) written written_now → HuntStopsWithin task None before (streams left began written_now)
  ends-skipping left began written written_now begun same prefix =
      let skipped = skipped_lines hunt.skipped in
      let so = hunts-none law task first.objects hunt hunt_is in record {
        earlier = [];
        bundle = first;
        begins = begun.begins;
        only = begun.only;
        seen = [];
        later = first.observations;
        observations_are = refl;
        feed = first.objects;
        feed_is = refl;
        hunts = so.hunts;
        text = [];
        reports = refl;
        more = skipped ++ [];
        more_is = so.reported;
        prefix = subst (λ (w : Option (List ℕ)). WritesPrefix (skipped ++ []) w written_now) (written_with-nil before.written)
            (subst (λ (t : List ℕ). WritesPrefix t before.written written_now) (sym (append-nil skipped))
            (subst (λ (w : Option (List ℕ)). WritesPrefix skipped w written_now) (sym same) prefix));
      }

-- the objects of a file were read and nothing of the input, and of what is skipped a prefix was reported
pub ends-unread : AnswersAreHits → (task : HuntTask) (before : Streams) (feed : List Data) (hunt : Hunt) → IsHuntOf feed task.moment hunt
    → (left began written_now : Option (List ℕ)) → IsUnreadInput before left began → WritesPrefix (skipped_lines hunt.skipped) before.written written_now
    → StopsSkipping task (Some feed) before (streams left began written_now)
ends-unread law task before feed hunt hunt_is left began written_now unread prefix =
    let so = hunts-none law task feed hunt hunt_is in record {
      feed = feed;
      file_is = refl;
      hunts = so.hunts;
      prefix = subst (λ (t : List ℕ). WritesPrefix t before.written written_now) (sym (so.reported ∙ append-nil (skipped_lines hunt.skipped))) prefix;
      unread = (unread.left_is, unread.began_is);
    }

-- what is skipped was reported
module _ (law : AnswersAreHits) (task : HuntTask) (before : Streams) (feed : List Data) (hunt : Hunt) (hunt_is : IsHuntOf feed task.moment hunt)
    (written : Option (List ℕ)) (was : written ≡ written_with (skipped_lines hunt.skipped) before.written) where
  abbrev skipped : List ℕ
  skipped = skipped_lines hunt.skipped

  module _ (start : HunterState) (new : HuntsOver start [] []) (hunted : start.hunted ≡ hunt.hunted) (retained_limit : start.engine.retained_limit ≡ task.retained_limit) where
    abbrev so-far : (rows : List ObservationRow) (after : HunterState) (text : List ℕ) → TakesRows rows start after text
        → (so : HuntsSo task feed rows hunt text) × HuntsOver after rows so.hunts.hits
    so-far = hunts-so law task feed hunt hunt_is start new hunted retained_limit

    -- it ended in the first bundle
    module _ (first : BundleOf) (same : feed ≡ first.objects) (left began written_now : Option (List ℕ)) (begun : IsBegun before first left began) where
      known : feed_of None ([] ++ first ∷ []) ≡ Some feed
      known = ap (λ (f : List Data). Some f) (sym same)

      first-within : BreaksOff (BeginsBundle start first) written written_now → HuntStopsWithin task None before (streams left began written_now)
      first-within (text, firsts, prefix) =
          let so = (so-far (rows_over first.objects firsts.seen) firsts.after text firsts.takes).0 in record {
            earlier = [];
            bundle = first;
            begins = begun.begins;
            only = begun.only;
            seen = firsts.seen;
            later = firsts.later;
            observations_are = firsts.observations_are;
            feed = feed;
            feed_is = known;
            hunts = so.hunts;
            text = [];
            reports = refl;
            more = skipped ++ text;
            more_is = so.reported;
            prefix = subst (λ (w : Option (List ℕ)). WritesPrefix (skipped ++ text) w written_now) (written_with-nil before.written)
                (prefix-behind skipped text before.written written written_now was prefix);
          }

      first-over_limit : (why : OverLimit) → Says (StopsInBundle start first why) written written_now → HuntStopsOverLimit task None before (streams left began written_now) why
      first-over_limit why (text, up, is) =
          let so = (so-far (rows_over first.objects up.seen) up.after text up.takes).0 in record {
            earlier = [];
            bundle = first;
            begins = begun.begins;
            only = begun.only;
            seen = up.seen;
            observation = up.observation;
            later = up.later;
            observations_are = up.observations_are;
            feed = feed;
            feed_is = known;
            hunts = so.hunts;
            over_limit = subst (λ (h : Hunt). IsFirstOverLimit (patterns_of h.hunted) task.retained_limit
                (rows_over first.objects up.seen ++ engine_row up.observation first.objects ∷ []) why.hunted why.number why.retained_limit) (sym so.hunt_is)
                (subst (λ (c : ℕ). IsFirstOverLimit (patterns_of hunt.hunted) c
                (rows_over first.objects up.seen ++ engine_row up.observation first.objects ∷ []) why.hunted why.number why.retained_limit) retained_limit
                (subst (λ (h : List Hunted). IsFirstOverLimit (patterns_of h) start.engine.retained_limit
                (rows_over first.objects up.seen ++ engine_row up.observation first.objects ∷ []) why.hunted why.number why.retained_limit) hunted (up.over_limit [] [] new)));
            text_is = reported-behind skipped text before.written written written_now was is ∙ ap (λ (t : List ℕ). written_with t before.written) (sym so.reported);
          }

      pub first-ends : (end : SeeEnd OverLimit) → EndsSeeing (StopsInBundle start first) (BeginsBundle start first) written written_now end
          → AnswersHunt task None before (streams left began written_now) (end_of_see end)
      first-ends (see.Stopped why) ends = first-over_limit why ends
      first-ends see.WriteFault ends = inr (inl (first-within ends))
      first-ends see.NoMemory ends = inr (inr (inr (inl (first-within ends))))

    -- some bundles were seen
    module _ (file : Option (List Data)) (earlier : List BundleOf) (known : IsKnownFrom file earlier feed) (next : HunterState) (own : List ℕ)
        (written_next : Option (List ℕ)) (one : TakesRows (rows_of earlier) start next own) (was_next : written_next ≡ written_with own written) where
      -- and more after them
      pub record SeenBehind (bundles : List BundleOf) (at : HunterState) (now : Option (List ℕ)) : Type 0 where
        pub text : List ℕ
        pub takes : TakesRows (rows_of (earlier ++ bundles)) start at text
        pub so : HuntsSo task feed (rows_of (earlier ++ bundles)) hunt text
        pub hunts : HuntsOver at (rows_of (earlier ++ bundles)) so.hunts.hits
        pub now_is : now ≡ written_with (reported_of so.hunts) before.written

      both-rows : (bundles : List BundleOf) → rows_of (earlier ++ bundles) ≡ rows_of earlier ++ rows_of bundles
      both-rows bundles = flat_map-append (λ (b : BundleOf). rows_over b.objects b.observations) earlier bundles

      pub seen-behind : (bundles : List BundleOf) (at : HunterState) (now : Option (List ℕ)) → Says (SeesAll HunterSeesBundle next bundles at) written_next now
          → SeenBehind bundles at now
      seen-behind bundles at now (later, sees, is) =
          let takes = subst (λ (rows : List ObservationRow). TakesRows rows start at (own ++ later)) (sym (both-rows bundles))
          (takes-more (rows_of earlier) (rows_of bundles) start next at own later one (takes-all bundles next at later sees)) in
          let found = so-far (rows_of (earlier ++ bundles)) at (own ++ later) takes in record {
            text = own ++ later;
            takes = takes;
            so = found.0;
            hunts = found.1;
            now_is = reported-behind skipped (own ++ later) before.written written now was (reported-behind own later written written_next now was_next is)
                ∙ ap (λ (t : List ℕ). written_with t before.written) (sym found.0.reported);
          }

      reports : (bundles : List BundleOf) (at : HunterState) (now : Option (List ℕ)) (seen : SeenBehind bundles at now)
          → ReportsHits task file (earlier ++ bundles) (reported_of seen.so.hunts)
      reports bundles at now seen = reports-hits task file (earlier ++ bundles) feed (known bundles) seen.so.hunts

      known-within : (bundles : List BundleOf) (bundle : BundleOf) → feed_of file ((earlier ++ bundles) ++ bundle ∷ []) ≡ Some feed
      known-within bundles bundle =
          ap (feed_of file) (append_assoc earlier bundles (bundle ∷ [])) ∙ known (bundles ++ bundle ∷ [])

      module _ (behind : HunterState) (after : Streams) where
        later-within : EndsWithin HunterSeesBundle (λ at bundle. BreaksOff (BeginsBundle at bundle)) before.left earlier next written_next after
            → HuntStopsWithin task file before after
        later-within ends =
            let seen = seen-behind ends.bundles ends.at ends.before ends.says in
            let more = ends.within.0 in
            let firsts = ends.within.1 in
            let found = so-far (rows_of (earlier ++ ends.bundles) ++ rows_over ends.bundle.objects firsts.seen) firsts.after (seen.text ++ more)
            (takes-more (rows_of (earlier ++ ends.bundles)) (rows_over ends.bundle.objects firsts.seen) start ends.at firsts.after seen.text more seen.takes firsts.takes) in
            record {
              earlier = earlier ++ ends.bundles;
              bundle = ends.bundle;
              begins = ends.begins;
              only = ends.only;
              seen = firsts.seen;
              later = firsts.later;
              observations_are = firsts.observations_are;
              feed = feed;
              feed_is = known-within ends.bundles ends.bundle;
              hunts = found.0.hunts;
              text = reported_of seen.so.hunts;
              reports = reports ends.bundles ends.at ends.before seen;
              more = more;
              more_is = found.0.reported ∙ sym (append_assoc skipped seen.text more) ∙ ap (λ (t : List ℕ). t ++ more) (sym seen.so.reported);
              prefix = subst (λ (w : Option (List ℕ)). WritesPrefix more w after.written) seen.now_is ends.within.2;
            }

        later-over_limit : (why : OverLimit) → EndsWithin HunterSeesBundle (λ at bundle. Says (StopsInBundle at bundle why)) before.left earlier next written_next after
            → HuntStopsOverLimit task file before after why
        later-over_limit why ends =
            let seen = seen-behind ends.bundles ends.at ends.before ends.says in
            let more = ends.within.0 in
            let up = ends.within.1 in
            let rows = rows_of (earlier ++ ends.bundles) ++ rows_over ends.bundle.objects up.seen in
            let found = so-far rows up.after (seen.text ++ more)
            (takes-more (rows_of (earlier ++ ends.bundles)) (rows_over ends.bundle.objects up.seen) start ends.at up.after seen.text more seen.takes up.takes) in
            let same : ends.at.hunted ≡ hunt.hunted = seen.takes.hunted ∙ hunted in
            let same_retained_limit : ends.at.engine.retained_limit ≡ task.retained_limit = seen.takes.retained_limit ∙ retained_limit in record {
              earlier = earlier ++ ends.bundles;
              bundle = ends.bundle;
              begins = ends.begins;
              only = ends.only;
              seen = up.seen;
              observation = up.observation;
              later = up.later;
              observations_are = up.observations_are;
              feed = feed;
              feed_is = known-within ends.bundles ends.bundle;
              hunts = found.0.hunts;
              over_limit = subst (λ (h : Hunt). IsFirstOverLimit (patterns_of h.hunted) task.retained_limit
                  (rows ++ engine_row up.observation ends.bundle.objects ∷ []) why.hunted why.number why.retained_limit) (sym found.0.hunt_is)
                  (subst (λ (c : ℕ). IsFirstOverLimit (patterns_of hunt.hunted) c (rows ++ engine_row up.observation ends.bundle.objects ∷ []) why.hunted why.number why.retained_limit) same_retained_limit
                  (subst (λ (h : List Hunted). IsFirstOverLimit (patterns_of h) ends.at.engine.retained_limit
                  (rows ++ engine_row up.observation ends.bundle.objects ∷ []) why.hunted why.number why.retained_limit) same
                  (up.over_limit (rows_of (earlier ++ ends.bundles)) seen.so.hunts.hits seen.hunts)));
              text_is = reported-behind (reported_of seen.so.hunts) more before.written ends.before after.written seen.now_is ends.within.2
                  ∙ ap (λ (t : List ℕ). written_with t before.written) (ap (λ (t : List ℕ). t ++ more) seen.so.reported ∙ append_assoc skipped seen.text more ∙ sym found.0.reported);
            }

        -- the input wasn't read to its end
        pub later-ends : (end : WatchEnd OverLimit) → end ≢ Done → AnswersWatch HunterSeesBundle StopsInBundle BeginsBundle before.left earlier next behind written_next after end
            → AnswersHunt task file before after end
        later-ends Done other ends = absurd (other refl)
        later-ends (Input line why) other ends =
            let seen = seen-behind ends.bundles behind after.written ends.says in record {
              bundles = earlier ++ ends.bundles;
              reading = ends.reading;
              text = reported_of seen.so.hunts;
              reports = reports ends.bundles behind after.written seen;
              text_is = seen.now_is;
              little = ends.little;
            }
        later-ends ReadFault other ends =
            let seen = seen-behind ends.bundles behind after.written ends.says in record {
              bundles = earlier ++ ends.bundles;
              begins = ends.begins;
              text = reported_of seen.so.hunts;
              reports = reports ends.bundles behind after.written seen;
              text_is = seen.now_is;
              taken = ends.taken;
            }
        later-ends WriteFault other ends = inr (inl (later-within ends))
        later-ends (Stopped why) other ends = later-over_limit why ends
        later-ends NoMemory other (inl ends) =
            let seen = seen-behind ends.bundles behind after.written ends.says in inr (inr (inl (record {
              bundles = earlier ++ ends.bundles;
              begins = ends.begins;
              text = reported_of seen.so.hunts;
              reports = reports ends.bundles behind after.written seen;
              text_is = seen.now_is;
            })))
        later-ends NoMemory other (inr ends) = inr (inr (inr (inl (later-within ends))))

        -- it was, and what was seen was reported
        module _ (whole : WatchesWhole HunterSeesBundle before.left earlier next behind written_next after) (written_end : Option (List ℕ)) where
          abbrev end-streams : Streams
          end-streams = streams after.left after.began written_end

          abbrev all-bundles : List BundleOf
          all-bundles = earlier ++ whole.bundles

          abbrev all-seen : SeenBehind whole.bundles behind after.written
          all-seen = seen-behind whole.bundles behind after.written whole.says

          same-hunted : behind.hunted ≡ all-seen.so.hunts.hunt.hunted
          same-hunted = all-seen.takes.hunted ∙ hunted ∙ ap (λ (h : Hunt). h.hunted) (sym all-seen.so.hunt_is)

          reporting : (report : List ℕ) → IsReportText task.moment (rows_of all-bundles) all-seen.so.hunts.hits behind.hunted report
              → WritesPrefix report after.written written_end → StopsReporting task file before end-streams
          reporting report reported prefix = record {
            bundles = all-bundles;
            reading = whole.reading;
            feed = feed;
            feed_is = known whole.bundles;
            hunts = all-seen.so.hunts;
            report = report;
            reports = subst (λ (h : List Hunted). IsReportText task.moment (rows_of all-bundles) all-seen.so.hunts.hits h report) same-hunted reported;
            prefix = subst (λ (w : Option (List ℕ)). WritesPrefix report w written_end) all-seen.now_is prefix;
            drained = whole.drained;
          }

          pub report-ends : (end : WatchEnd OverLimit) → Reports task.moment (rows_of all-bundles) all-seen.so.hunts.hits behind.hunted after.written written_end end
              → AnswersHunt task file before end-streams end
          report-ends Done (report, reported, is) = record {
            bundles = all-bundles;
            reading = whole.reading;
            text = reported_of all-seen.so.hunts ++ report;
            reports = reports-all task file all-bundles feed (known whole.bundles) all-seen.so.hunts report
                (subst (λ (h : List Hunted). IsReport task.moment (rows_of all-bundles) all-seen.so.hunts.hits h report) same-hunted reported);
            text_is = reported-behind (reported_of all-seen.so.hunts) report before.written after.written written_end all-seen.now_is is;
            drained = whole.drained;
          }
          report-ends WriteFault (report, reported, prefix) = inr (inr (reporting report reported prefix))
          report-ends NoMemory (report, reported, prefix) = inr (inr (inr (inr (reporting report reported prefix))))
          report-ends (Input line why) ends = absurd ends
          report-ends ReadFault ends = absurd ends
          report-ends (Stopped why) ends = absurd ends

-- the hunter hunts for what it did before the bundles that it saw
pub same-hunted-behind : (start next behind : HunterState) (bundle : BundleOf) (bundles : List BundleOf) (written written_next now : Option (List ℕ))
    → Says (HunterSeesBundle start bundle next) written written_next → Says (SeesAll HunterSeesBundle next bundles behind) written_next now → behind.hunted ≡ start.hunted
same-hunted-behind start next behind bundle bundles written written_next now one all = (takes-all bundles next behind all.0 all.1).hunted ∙ one.1.hunted

-- the same, where no bundle was seen before
pub same-hunted-all : (start behind : HunterState) (bundles : List BundleOf) (written now : Option (List ℕ)) → Says (SeesAll HunterSeesBundle start bundles behind) written now
    → behind.hunted ≡ start.hunted
same-hunted-all start behind bundles written now all = (takes-all bundles start behind all.0 all.1).hunted

-- the first bundle is the only one that was seen
pub takes-first : (start next : HunterState) (first : BundleOf) (own : List ℕ) → HunterSeesBundle start first next own → TakesRows (rows_of (first ∷ [])) start next own
takes-first start next first own sees =
    subst (λ (rows : List ObservationRow). TakesRows rows start next own) (sym (append-nil (rows_over first.objects first.observations))) sees

-- ---- a file that gave objects

-- of an input of which nothing was read, a reader at its start has read nothing
pub read-nothing : ((first began : Option (List ℕ)) → HasRead first (reader_start Lines) first began []) → (reader : InputReaderState) → reader ≡ reader_start Lines
    → (first left began : Option (List ℕ)) → left ≡ first → HasRead first reader left began []
read-nothing law reader start first left began same =
    subst (λ (l : Option (List ℕ)). HasRead first reader l began []) (sym same)
    (subst (λ (r : InputReaderState). HasRead first r first began []) (sym start) (law first began))

-- why a file isn't a feed
pub unfed-ends : (contents : List ℕ → Option (List ℕ)) (task : HuntTask) (name : List ℕ) → task.file ≡ Some name → (end : FeedEnd)
    → ((line : ℕ) (why : FeedRule) → end ≡ unfed.Refused line why → (feed : List Data) × ReadsFeed (contents name) feed (RefusedLine line why))
    → IsUnfed contents task end
unfed-ends contents task name is (unfed.Refused line why) refused = (name, is, refused line why refl)
unfed-ends contents task name is unfed.Fault refused = (name, is, tt)
unfed-ends contents task name is unfed.NoMemory refused = (name, is, tt)

-- ---- an input that gave no bundle

-- the input ended before a bundle came
pub reads-none : (task : HuntTask) (before : Streams) (left began : Option (List ℕ)) → ReadsInput Lines before.left [] Whole → IsAtEnd left
    → HuntsWhole task None before (streams left began before.written)
reads-none task before left began reading drained = record {
  bundles = [];
  reading = reading;
  text = [];
  reports = refl;
  text_is = written_with-nil before.written;
  drained = drained;
}

pub read-ends : (task : HuntTask) (before : Streams) (reader after : InputReaderState) (left began : Option (List ℕ)) (end : ReadEnd)
    → NextAnswers before.left [] reader after left began (Err end) → AnswersHunt task None before (streams left began before.written) (watch_end_of_read end)
read-ends task before reader after left began (read.Input line why) answers = record {
  bundles = [];
  reading = answers.0;
  text = [];
  reports = refl;
  text_is = written_with-nil before.written;
  little = answers.1;
}
read-ends task before reader after left began read.ReadFault answers = record {
  bundles = [];
  begins = answers.0;
  text = [];
  reports = refl;
  text_is = written_with-nil before.written;
  taken = answers.1;
}
read-ends task before reader after left began read.Ended answers = absurd answers
read-ends task before reader after left began read.NoMemory answers = inl refl
