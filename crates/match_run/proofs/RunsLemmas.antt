-- A run over an input, one bundle at a time, and how it ends.
use Rattle.std.proofs.Common.{◌≡◌, ◌⊎◌, inl, inr, ℕ, suc, ◌+◌, ◌-◌, ℤ, List, [], ◌∷◌, ◌++◌, length, Option, None, Some, Result, Ok, Err, option_map, IfSome, slice_get, refl, sym, ap, subst, ◌∙◌, append_assoc, length-append, arith}
use Rattle.std.specs.Option.{option_or}
use Rattle.std.proofs.lemmas.List.{append-nil}
use Rattle.serde_json.specs.Data.{Data}
use Rattle.flow_edges.specs.Flow.{IsAtEnd, written_with, WritesPrefix}
use Rattle.flow_lines.specs.Lines.{ended}
use Rattle.stix_bundles.specs.Objects.{data_in}
use Rattle.stix_bundles.specs.declared.observation.Observation.{Observation}
use Rattle.pattern_types.specs.declared.pattern.Pattern.{Pattern}
use Rattle.pattern_types.specs.PlainPattern.{PlainPattern, plain_pattern}
use Rattle.match_bindings.specs.declared.log_entry.LogEntry.{LogEntry}
use Rattle.match_bindings.specs.NumberedPattern.{NumberedPattern, numbered_pattern}
use Rattle.match_bindings.specs.BindTree.{BindTree}
use Rattle.match_bindings.specs.Log.{observed_in}
use Rattle.match_bindings.specs.Listing.{IsListing}
use Rattle.match_stream.specs.MatcherState.{MatcherState, MatcherRepresents, log_end}
use Rattle.match_stream.specs.Answer.{AreAnswers, joined_answers}
use Rattle.match_input.specs.declared.batch.Batch.{Batch}
use Rattle.match_input.specs.declared.rule.InputRule.{InputRule}
use Rattle.match_input.specs.declared.mode.Mode.{Mode}
use Rattle.match_input.specs.declared.mode.Mode.TheVariants as mode
use Rattle.match_input.specs.declared.read_end.ReadEnd.{ReadEnd}
use Rattle.match_input.specs.declared.read_end.ReadEnd.TheVariants as read
use Rattle.match_input.specs.declared.stage.Stage.{Stage}
use Rattle.match_input.specs.declared.stage.Stage.TheVariants as stage
use Rattle.match_input.specs.Line.{last_after}
use Rattle.match_input.specs.Reading.{BundleOf, IsInputRefusedAt}
use Rattle.match_input.specs.Ahead.{InputReaderState, reader_start, first_stage, next_observation_number, ahead, IsOpen, HoldsLines, LacksLineIn, AnswersNext, ComesToEnd, GivesBatch, BreaksOffReading, TakesLittleAhead}
use Rattle.flow_edges.specs.Streams.{Streams, streams}
use Rattle.match_run.specs.Entries.{AreEntriesOf}
use Rattle.match_run.specs.Listing.{listing_text}
use Rattle.match_run.specs.Matching.{IsNeverOverLimit, ListsLog, ListsWhole, ListsBefore, ListsTaken, BeganInTime, ReadsNoFurther, StopsOverLimit, StopsWithin, MatchStopsBetween, AnswersMatch}
use Rattle.match_run.specs.inner.Rows.{no_tally, IsAfterLog, ListsFirst, StopsAmong, WritesRows, EndsInBundle, log_row}
use Rattle.match_run.specs.Reading.{MayFollow}
use Rattle.match_run.specs.Reading.{bundle_of}
use Rattle.match_run.specs.inner.MatchEnds.{match_end_of_read}
use Rattle.match_run.specs.inner.MatchRuns.{IsStageOf, IsReadInTime, RunsSo, HasReadInMode}
use Rattle.match_run.specs.declared.tally.Tally.{Tally}
use Rattle.match_run.specs.declared.match_end.MatchEnd.{MatchEnd}
use Rattle.match_run.specs.declared.match_end.MatchEnd.TheVariants.{Done, Input, ReadFault, WriteFault, OverLimit, NoMemory}
use Rattle.match_run.proofs.PendingLemmas.{written_with-nil, written_with-both}
use Rattle.match_run.proofs.LogLemmas.{joined_answers-append, listing_text-append, entries_of-more, entries-more, entries_of-length}
use Rattle.match_run.proofs.FollowLemmas.{Spans, may_follow}
use Rattle.match_run.proofs.StageLemmas.{open_or_end, moves_on, takes_little, to_end, at_end, gives_in_time, stays_in_time}
use Rattle.match_run.proofs.ReadLemmas.{Continues, read-start, read-more, begins_so, reads-whole, reads-refused, none_left, has_taken}

-- the answers to the rows of a log are its listing
abbrev pub AnswersList : Type 0
AnswersList = (p : NumberedPattern) (log : List LogEntry) (answers : List (List BindTree)) → AreAnswers p log answers
    → IsListing (observed_in log) p (joined_answers answers)

-- ---- what is written

-- the lines of more answers, after those of the answers so far
lines-more : (answers own : List (List BindTree)) → listing_text (joined_answers answers) ++ listing_text (joined_answers own) ≡ listing_text (joined_answers (answers ++ own))
lines-more answers own = sym (ap listing_text (joined_answers-append answers own) ∙ listing_text-append (joined_answers answers) (joined_answers own))

written-more : (answers own : List (List BindTree)) (text : List ℕ) (first now after : Option (List ℕ)) → now ≡ written_with (listing_text (joined_answers answers)) first
    → text ≡ listing_text (joined_answers own) → after ≡ written_with text now → after ≡ written_with (listing_text (joined_answers (answers ++ own))) first
written-more answers own text first now after so_far is more =
    more ∙ ap (λ (t : List ℕ). written_with t now) is ∙ ap (λ (w : Option (List ℕ)). written_with (listing_text (joined_answers own)) w) so_far
    ∙ written_with-both (listing_text (joined_answers answers)) (listing_text (joined_answers own)) first
    ∙ ap (λ (t : List ℕ). written_with t first) (lines-more answers own)

-- ---- the last time of the observations

last_of-tail : (log : List LogEntry) (row : LogEntry) (rows : List LogEntry) → log_end (log ++ row ∷ rows) ≡ log_end (row ∷ rows)
last_of-tail [] row rows = refl
last_of-tail (first ∷ []) row rows = refl
last_of-tail (first ∷ next ∷ log) row rows = last_of-tail (next ∷ log) row rows

abbrev last_seen : (o : Observation) (observations : List Observation) → Option ℤ
last_seen o observations = option_map (λ observation. observation.last) (slice_get (o ∷ observations) (length observations))

last_of-entries : (p : PlainPattern) (objects : List Data) (o : Observation) (observations : List Observation) (own : List LogEntry)
    → AreEntriesOf p objects (o ∷ observations) own → log_end own ≡ last_seen o observations
last_of-entries p objects o [] own entries = ap log_end entries.4 ∙ ap (λ (r : List LogEntry). log_end (log_row o entries.0 ∷ r)) entries.3
last_of-entries p objects o (next ∷ observations) own entries =
    let rest_is = entries.3.4 in
    ap log_end entries.4
    ∙ ap (λ (r : List LogEntry). log_end (log_row o entries.0 ∷ r)) rest_is
    ∙ sym (ap log_end rest_is)
    ∙ last_of-entries p objects next observations entries.1 entries.3

some_seen : (o : Observation) (observations : List Observation) → (time : ℤ) × (last_seen o observations ≡ Some time)
some_seen o [] = (o.last, refl)
some_seen o (next ∷ observations) = some_seen next observations

or_some : (one other : Option ℤ) (time : ℤ) → one ≡ Some time → option_or one other ≡ one
or_some None other time is = absurd (cc)
or_some (Some one) other time is = refl

last_after-seen : (last : Option ℤ) (o : Observation) (observations : List Observation) → last_after last (o ∷ observations) ≡ last_seen o observations
last_after-seen last o observations =
    let some = some_seen o observations in
    let less : suc (length observations) - 1 ≡ length observations = omega arith in
    ap (λ (n : ℕ). option_or (option_map (λ observation. observation.last) (slice_get (o ∷ observations) n)) last) less
    ∙ or_some (last_seen o observations) last some.0 some.1

last_after-entries : (p : PlainPattern) (objects : List Data) (observations : List Observation) (log own : List LogEntry)
    → AreEntriesOf p objects observations own → log_end (log ++ own) ≡ last_after (log_end log) observations
last_after-entries p objects [] log own entries = ap (λ (l : List LogEntry). log_end (log ++ l)) entries ∙ ap log_end (append-nil log)
last_after-entries p objects (o ∷ observations) log own entries =
    ap (λ (l : List LogEntry). log_end (log ++ l)) entries.4
    ∙ last_of-tail log (log_row o entries.0) entries.1
    ∙ sym (ap log_end entries.4)
    ∙ last_of-entries p objects o observations own entries
    ∙ sym (last_after-seen (log_end log) o observations)

-- ---- the start

starts_in_time : (mode : Mode) (first began : Option (List ℕ)) → IsReadInTime mode (first_stage mode) first began
starts_in_time mode.Lines first began = inl refl
starts_in_time mode.Whole first began = tt

never_over_limit-none : (p : Pattern) (most : ℕ) → IsNeverOverLimit p most []
never_over_limit-none p most [] more row e = absurd (cc)
never_over_limit-none p most (first ∷ rows) more row e = absurd (cc)

behind-none : (p : Pattern) (most : ℕ) (state : MatcherState) → MatcherRepresents state [] → IsAfterLog p most state no_tally [] []
behind-none p most state represents = record {
  rows = record { order = tt; within_limit = never_over_limit-none p most; answers_are = tt };
  represents = represents;
  observations_are = refl;
  bindings_are = refl;
  few = omega arith;
  last_is = refl;
}

pub run-start : (mode : Mode) (p : Pattern) (most : ℕ) (start : Streams) (reader : InputReaderState) (state : MatcherState) (tally : Tally)
    → MatcherRepresents state [] → reader ≡ reader_start mode → tally ≡ no_tally → RunsSo mode p most start start reader state tally
run-start mode p most start reader state tally represents reader_is tally_is =
    subst (λ (r : InputReaderState). RunsSo mode p most start start r state tally) (sym reader_is)
    (subst (λ (t : Tally). RunsSo mode p most start start (reader_start mode) state t) (sym tally_is)
    (record {
      bundles = [];
      read = read-start mode start.left;
      log = [];
      answers = [];
      entries = refl;
      behind = behind-none p most state represents;
      text = written_with-nil start.written;
      number = sym represents.rows;
      time = sym represents.last;
      in_time = starts_in_time mode start.left start.began;
    }))

-- ---- a bundle more

pub run-more : Continues → (mode : Mode) (p : Pattern) (most : ℕ) (before now : Streams) (reader after : InputReaderState) (state later : MatcherState) (tally tally_after : Tally)
    (left_after began_after written_after : Option (List ℕ)) (batch : Batch) → (far : RunsSo mode p most before now reader state tally)
    → GivesBatch reader after now.left left_after batch → BeganInTime mode batch.line before.left began_after
    → WritesRows p most (data_in batch.bundle) batch.observations far.log far.answers later tally_after now.written written_after
    → RunsSo mode p most before (streams left_after began_after written_after) after later tally_after
run-more continues mode p most before now reader after state later tally tally_after left_after began_after written_after batch far gives began writes =
    let adds = writes.1 in
    let count = entries_of-length (plain_pattern p) (data_in batch.bundle) batch.observations adds.own adds.entries in
    let rows = length-append far.log adds.own in
    record {
      bundles = far.bundles ++ bundle_of batch ∷ [];
      read = read-more continues mode before.left now.left left_after reader after batch far.bundles far.read gives;
      log = far.log ++ adds.own;
      answers = far.answers ++ adds.own_answers;
      entries = entries-more (plain_pattern p) far.bundles far.log (bundle_of batch) adds.own far.entries adds.entries;
      behind = adds.behind;
      text = written-more far.answers adds.own_answers writes.0 before.written now.written written_after far.text adds.text_is writes.2;
      number = omega (arith, gives.observations, far.number, far.behind.represents.rows, adds.behind.represents.rows, count, rows);
      time = gives.last ∙ ap (λ (l : Option ℤ). last_after l batch.observations) (far.time ∙ far.behind.represents.last)
          ∙ sym (last_after-entries (plain_pattern p) (data_in batch.bundle) batch.observations far.log adds.own adds.entries)
          ∙ sym adds.behind.represents.last;
      in_time = stays_in_time far.bundles batch.line before.left now.left left_after now.began began_after mode reader.stage after.stage far.read.stage gives.moves began;
    }

-- ---- the ends

module _ (list : AnswersList) (mode : Mode) (p : Pattern) (most : ℕ) (before now : Streams) (reader : InputReaderState) (state : MatcherState) (tally : Tally)
    (far : RunsSo mode p most before now reader state tally) where
  lists-log : ListsLog p most far.bundles far.log (joined_answers far.answers) before.written now.written
  lists-log = record {
    entries = far.entries;
    within_limit = far.behind.rows.within_limit;
    bindings = list (numbered_pattern p) far.log far.answers far.behind.rows.answers_are;
    text = far.text;
  }

  pub run-whole : (left_after began_after : Option (List ℕ)) → IfSome (ahead reader.stage now.left) (λ lines. lines ≡ ended) → IsAtEnd left_after
      → ListsWhole mode p most before (streams left_after began_after now.written) state tally.observations tally.bindings tally.last
  run-whole left_after began_after none drained = record {
    bundles = far.bundles;
    reading = reads-whole mode before.left now.left reader far.bundles far.read none;
    log = far.log;
    trees = joined_answers far.answers;
    lists = lists-log;
    represents = far.behind.represents;
    drained = drained;
    observations_are = far.behind.observations_are;
    bindings_are = far.behind.bindings_are;
    last_is = far.behind.last_is;
  }

  pub run-refused : (left_after began_after : Option (List ℕ)) (line : ℕ) (why : InputRule)
      → IfSome (ahead reader.stage now.left) (λ lines. IsInputRefusedAt reader.last (next_observation_number reader) lines line why)
      → TakesLittleAhead reader.stage line now.left left_after → ListsBefore mode p most before (streams left_after began_after now.written) state line why
  run-refused left_after began_after line why refused little = record {
    bundles = far.bundles;
    reading = reads-refused mode before.left now.left reader far.bundles far.read line why refused;
    log = far.log;
    trees = joined_answers far.answers;
    lists = lists-log;
    represents = far.behind.represents;
    little = takes_little far.bundles before.left now.left left_after mode reader.stage line far.read.stage little;
  }

  pub run-broken : (left_after began_after : Option (List ℕ)) → BreaksOffReading reader.stage now.left left_after
      → ListsTaken mode p most before (streams left_after began_after now.written) state
  run-broken left_after began_after broken = record {
    bundles = far.bundles;
    begins = begins_so mode before.left now.left reader far.bundles far.read;
    log = far.log;
    trees = joined_answers far.answers;
    lists = lists-log;
    represents = far.behind.represents;
    taken = has_taken mode before.left now.left left_after reader.stage reader.last (next_observation_number reader) far.bundles far.read.forward far.read.stage broken;
  }

  -- memory ran out between two bundles
  pub run-memory : (after : Streams) → after.written ≡ now.written → MatchStopsBetween mode p most before after
  run-memory after same = record {
    bundles = far.bundles;
    begins = begins_so mode before.left now.left reader far.bundles far.read;
    log = far.log;
    trees = joined_answers far.answers;
    lists = record { entries = lists-log.entries; within_limit = lists-log.within_limit; bindings = lists-log.bindings; text = same ∙ lists-log.text };
  }

  module _ (continues : Continues) (after : InputReaderState) (later : MatcherState) (left_after began_after written_after : Option (List ℕ)) (batch : Batch)
      (gives : GivesBatch reader after now.left left_after batch) (began : BeganInTime mode batch.line before.left began_after) where
    no-further : ReadsNoFurther mode batch.line before (streams left_after began_after written_after)
    no-further = record {
      few = (moves_on far.bundles far.bundles batch.line before.left now.left left_after mode reader.stage after.stage far.read.stage gives.moves).few;
      in_time = began;
    }

    next-read : HasReadInMode mode before.left after left_after (far.bundles ++ bundle_of batch ∷ [])
    next-read = read-more continues mode before.left now.left left_after reader after batch far.bundles far.read gives

    pub run-over_limit : (text : List ℕ) (number named : ℕ)
        → StopsAmong p most (data_in batch.bundle) batch.observations far.log far.answers later text number named
        → written_after ≡ written_with text now.written → StopsOverLimit mode p most before (streams left_after began_after written_after) later number named
    run-over_limit text number named stops more =
        let own = stops.first in
        let row = log_row stops.o stops.over_limit.truths in
        record {
          bundles = far.bundles ++ bundle_of batch ∷ [];
          begins = begins_so mode before.left left_after after (far.bundles ++ bundle_of batch ∷ []) next-read;
          log = far.log ++ own.own;
          row = row;
          entries = record {
            earlier = far.bundles;
            bundle = bundle_of batch;
            bundles_are = refl;
            seen = own.seen ++ stops.o ∷ [];
            later = stops.rest;
            observations_are = own.observations_are ∙ ap (λ (os : List Observation). own.seen ++ os) stops.later_are
                ∙ sym (append_assoc own.seen (stops.o ∷ []) stops.rest);
            before = far.log;
            own = own.own ++ row ∷ [];
            log_is = append_assoc far.log own.own (row ∷ []);
            entries = far.entries;
            own_entries = entries_of-more (plain_pattern p) (data_in batch.bundle) own.seen own.own stops.o stops.over_limit.truths own.entries stops.over_limit.are;
          };
          reads = no-further;
          numbered = stops.over_limit.numbered;
          retained_limit_is = stops.over_limit.retained_limit_is;
          over_limit = stops.over_limit.over_limit;
          within_limit = own.rows.within_limit;
          trees = joined_answers (far.answers ++ own.own_answers);
          bindings = list (numbered_pattern p) (far.log ++ own.own) (far.answers ++ own.own_answers) own.rows.answers_are;
          text = written-more far.answers own.own_answers text before.written now.written written_after far.text own.text_is more;
          ended = stops.over_limit.ended;
        }

    pub run-within : (text : List ℕ) → ListsFirst p most (data_in batch.bundle) batch.observations far.log far.answers text
        → WritesPrefix text now.written written_after → StopsWithin mode p most before (streams left_after began_after written_after)
    run-within text own prefix = record {
      earlier = far.bundles;
      bundle = bundle_of batch;
      begins = begins_so mode before.left left_after after (far.bundles ++ bundle_of batch ∷ []) next-read;
      seen = own.seen;
      later = own.later;
      observations_are = own.observations_are;
      log = far.log;
      own = own.own;
      entries = far.entries;
      own_entries = own.entries;
      within_limit = own.rows.within_limit;
      trees = joined_answers far.answers;
      more = joined_answers own.own_answers;
      bindings = list (numbered_pattern p) far.log far.answers far.behind.rows.answers_are;
      all_bindings = subst (λ (ts : List BindTree). IsListing (observed_in (far.log ++ own.own)) (numbered_pattern p) ts) (joined_answers-append far.answers own.own_answers)
          (list (numbered_pattern p) (far.log ++ own.own) (far.answers ++ own.own_answers) own.rows.answers_are);
      prefix = subst (λ (t : List ℕ). WritesPrefix t (written_with (listing_text (joined_answers far.answers)) before.written) written_after) own.text_is
          (subst (λ (w : Option (List ℕ)). WritesPrefix text w written_after) far.text prefix);
      reads = no-further;
    }

    -- an end in the next bundle
    pub run-end : (end : MatchEnd) → EndsInBundle p most (data_in batch.bundle) batch.observations far.log far.answers later now.written written_after end
        → AnswersMatch mode p most before (streams left_after began_after written_after) later end
    run-end (Done observations bindings last) ends = absurd ends
    run-end (Input line why) ends = absurd ends
    run-end ReadFault ends = absurd ends
    run-end WriteFault ends = run-within ends.0 ends.1 ends.2
    run-end (OverLimit number named) ends = run-over_limit ends.0 number named ends.1 ends.2
    run-end NoMemory ends = inr (run-within ends.0 ends.1 ends.2)

pub must_be_open : (st : Stage) → IsOpen st ⊎ (st ≡ stage.AtEnd) → ¬ (st ≡ stage.AtEnd) → IsOpen st
must_be_open st (inl opened) other = opened
must_be_open st (inr is) other = absurd (other is)

module _ (list : AnswersList) (mode : Mode) (p : Pattern) (most : ℕ) (before now : Streams) (reader after : InputReaderState) (state : MatcherState) (tally : Tally)
    (far : RunsSo mode p most before now reader state tally) (left_after began_after : Option (List ℕ)) where
  -- the reader ended
  pub run-read_end : (end : ReadEnd) → AnswersNext reader after now.left left_after (Err end)
      → AnswersMatch mode p most before (streams left_after began_after now.written) state (match_end_of_read end)
  run-read_end (read.Input line why) answers = run-refused list mode p most before now reader state tally far left_after began_after line why answers.refused answers.little
  run-read_end read.ReadFault answers = run-broken list mode p most before now reader state tally far left_after began_after answers
  run-read_end read.Ended answers = absurd answers
  run-read_end read.NoMemory answers = inl (run-memory list mode p most before now reader state tally far (streams left_after began_after now.written) refl)

  -- no bundle is left
  pub run-none : (IsOpen reader.stage → ComesToEnd reader.stage after.stage now.left left_after) → (reader.stage ≡ stage.AtEnd → left_after ≡ now.left)
      → ListsWhole mode p most before (streams left_after began_after now.written) state tally.observations tally.bindings tally.last
  run-none comes same = go (open_or_end far.bundles before.left now.left mode reader.stage far.read.stage)
    where
      go : IsOpen reader.stage ⊎ (reader.stage ≡ stage.AtEnd) → ListsWhole mode p most before (streams left_after began_after now.written) state tally.observations tally.bindings tally.last
      go (inl opened) = run-whole list mode p most before now reader state tally far left_after began_after (comes opened).none
          (to_end reader.stage after.stage now.left left_after (comes opened))
      go (inr is) = subst (λ (l : Option (List ℕ)). ListsWhole mode p most before (streams l began_after now.written) state tally.observations tally.bindings tally.last) (sym (same is))
          (run-whole list mode p most before now reader state tally far now.left began_after (none_left reader.stage now.left is)
          (at_end far.bundles before.left now.left mode reader.stage far.read.stage is))

-- ---- what the calls of a turn give

-- the reader gave a bundle, so it was open
pub batch_given : (bundles : List BundleOf) (first left left_after : Option (List ℕ)) (mode : Mode) (reader after : InputReaderState) (given : Option Batch) (batch : Batch)
    → IsStageOf mode reader.stage bundles first left → (IsOpen reader.stage → AnswersNext reader after left left_after (Ok given))
    → (reader.stage ≡ stage.AtEnd → ◌≡◌ {A = Result (Option Batch) ReadEnd} (Ok given) (Ok None)) → given ≡ Some batch → GivesBatch reader after left left_after batch
batch_given bundles first left left_after mode reader after given batch at answers at_once is =
    let opened = must_be_open reader.stage (open_or_end bundles first left mode reader.stage at) (λ end. let none = at_once end in cc) in
    subst (λ (o : Option Batch). AnswersNext reader after left left_after (Ok o)) is (answers opened)

-- the last read began in time
pub given_in_time : (bundles : List BundleOf) (first left left_after began began_after : Option (List ℕ)) (mode : Mode) (reader after : InputReaderState)
    (given : Option Batch) (batch : Batch) → IsStageOf mode reader.stage bundles first left → IsReadInTime mode reader.stage first began
    → GivesBatch reader after left left_after batch → given ≡ Some batch
    → (reader.stage ≡ stage.AtEnd → ◌≡◌ {A = Result (Option Batch) ReadEnd} (Ok given) (Ok None))
    → (HoldsLines reader.stage → began_after ≡ began)
    → (IsOpen reader.stage → ¬ (HoldsLines reader.stage) → IfSome given (λ batch. IfSome began_after (LacksLineIn reader.stage batch.line left)))
    → BeganInTime mode batch.line first began_after
given_in_time bundles first left left_after began began_after mode reader after given batch at so_far gives is at_once unread in_time =
    let opened = must_be_open reader.stage (open_or_end bundles first left mode reader.stage at) (λ end. let none = at_once end in cc) in
    gives_in_time bundles batch.line first left left_after began began_after mode reader.stage after.stage at gives.moves so_far unread
    (λ unheld. subst (λ (o : Option Batch). IfSome o (λ batch. IfSome began_after (LacksLineIn reader.stage batch.line left))) is (in_time opened unheld))

-- it ended, so it was open
pub end_given : (bundles : List BundleOf) (first left left_after : Option (List ℕ)) (mode : Mode) (reader after : InputReaderState) (end : ReadEnd)
    → IsStageOf mode reader.stage bundles first left → (IsOpen reader.stage → AnswersNext reader after left left_after (Err end))
    → (reader.stage ≡ stage.AtEnd → ◌≡◌ {A = Result (Option Batch) ReadEnd} (Err end) (Ok None)) → AnswersNext reader after left left_after (Err end)
end_given bundles first left left_after mode reader after end at answers at_once =
    answers (must_be_open reader.stage (open_or_end bundles first left mode reader.stage at) (λ is. let none = at_once is in cc))

-- the observations of the bundle may follow
pub given_follow : Spans → (reader after : InputReaderState) (left left_after : Option (List ℕ)) (batch : Batch) (state : MatcherState)
    → GivesBatch reader after left left_after batch → reader.observations ≡ state.rows → reader.last ≡ state.last
    → MayFollow state.last (state.rows + 1) batch.observations
given_follow spans reader after left left_after batch state gives number time =
    subst (λ (l : Option ℤ). MayFollow l (state.rows + 1) batch.observations) time
    (subst (λ (n : ℕ). MayFollow reader.last (n + 1) batch.observations) number
    (may_follow spans reader.last (next_observation_number reader) gives.bytes (data_in batch.bundle) batch.observations gives.is))

-- the pattern and the retained limit stay the same
module _ (p q : Pattern) (most limit : ℕ) (same_p : q ≡ p) (same_retained_limit : limit ≡ most) (objects : List Data) (observations : List Observation)
    (state later : MatcherState) (tally tally_after : Tally) (written written_after : Option (List ℕ)) where
  pub rows-here : ((log : List LogEntry) (answers : List (List BindTree)) → IsAfterLog q limit state tally log answers
      → WritesRows q limit objects observations log answers later tally_after written written_after)
      → (log : List LogEntry) (answers : List (List BindTree)) → IsAfterLog p most state tally log answers
      → WritesRows p most objects observations log answers later tally_after written written_after
  rows-here rows =
      subst (λ (c : ℕ). (log : List LogEntry) (answers : List (List BindTree)) → IsAfterLog p c state tally log answers
      → WritesRows p c objects observations log answers later tally_after written written_after) same_retained_limit
      (subst (λ (x : Pattern). (log : List LogEntry) (answers : List (List BindTree)) → IsAfterLog x limit state tally log answers
      → WritesRows x limit objects observations log answers later tally_after written written_after) same_p rows)

  pub end-here : (end : MatchEnd) → ((log : List LogEntry) (answers : List (List BindTree)) → IsAfterLog q limit state tally log answers
      → EndsInBundle q limit objects observations log answers later written written_after end)
      → (log : List LogEntry) (answers : List (List BindTree)) → IsAfterLog p most state tally log answers
      → EndsInBundle p most objects observations log answers later written written_after end
  end-here end ends =
      subst (λ (c : ℕ). (log : List LogEntry) (answers : List (List BindTree)) → IsAfterLog p c state tally log answers
      → EndsInBundle p c objects observations log answers later written written_after end) same_retained_limit
      (subst (λ (x : Pattern). (log : List LogEntry) (answers : List (List BindTree)) → IsAfterLog x limit state tally log answers
      → EndsInBundle x limit objects observations log answers later written written_after end) same_p ends)
