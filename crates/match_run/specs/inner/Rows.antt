-- For private clauses: what the observations of one bundle add to a log, to the counts, and to the
-- output.
use Rattle.std.specs.Prelude.{◌≡◌, ⊤, ℕ, zero, suc, ◌+◌, ◌*◌, ◌^◌, ◌≤◌, ℤ, ◌≤ℤ◌, Bool, List, [], ◌∷◌, ◌++◌, length, take, drop, Option, Some}
use Rattle.serde_json.specs.Data.{Data}
use Rattle.stix_bundles.specs.declared.observation.Observation.{Observation}
use Rattle.stix_bundles.specs.Objects.{data_in}
use Rattle.pattern_types.specs.declared.pattern.Pattern.{Pattern}
use Rattle.pattern_types.specs.PlainPattern.{plain_pattern}
use Rattle.flow_edges.specs.Flow.{written_with, WritesPrefix}
use Rattle.match_comparisons.specs.Truths.{AreTruths}
use Rattle.match_bindings.specs.declared.log_entry.LogEntry.{LogEntry}
use Rattle.match_bindings.specs.NumberedPattern.{numbered_pattern}
use Rattle.match_bindings.specs.BindTree.{BindTree}
use Rattle.match_bindings.specs.Log.{IsInOrder}
use Rattle.match_stream.specs.declared.ending.Ending.TheVariants as ending
use Rattle.match_stream.specs.MatcherState.{MatcherState, MatcherRepresents, Falls}
use Rattle.match_stream.specs.Answer.{AreAnswers, IsOverLimit, joined_answers}
use Rattle.match_input.specs.declared.batch.Batch.{Batch}
use Rattle.match_input.specs.Reading.{BundleOf}
use Rattle.match_run.specs.Entries.{AreEntriesOf}
use Rattle.match_run.specs.Listing.{listing_text, last_number}
use Rattle.match_run.specs.Matching.{IsNeverOverLimit}
use Rattle.match_run.specs.declared.tally.Tally.{Tally}
use Rattle.match_run.specs.declared.match_end.MatchEnd.{MatchEnd}
use Rattle.match_run.specs.declared.match_end.MatchEnd.TheVariants.{Done, Input, ReadFault, WriteFault, OverLimit, NoMemory}

-- ---- what is with_bindings

abbrev pub no_tally : Tally
no_tally = record { observations = 0; bindings = 0; last = 0 }

-- the number of the last binding, after `bindings` more end at this observation
abbrev pub last_counted : ℕ → ℕ → ℕ → ℕ
last_counted last number zero = last
last_counted last number (suc more) = number

abbrev pub with_bindings : Tally → ℕ → ℕ → Tally
with_bindings tally number bindings = record {
  observations = tally.observations + 1;
  bindings = tally.bindings + bindings;
  last = last_counted tally.last number bindings;
}

-- ---- what is kept of a log

-- the rows are in order, none exceeds the limit, and these are their answers
pub record HasAnswers (p : Pattern) (retained_limit : ℕ) (log : List LogEntry) (answers : List (List BindTree)) : Type 0 where
  pub order : IsInOrder log
  pub within_limit : IsNeverOverLimit p retained_limit log
  pub answers_are : AreAnswers (numbered_pattern p) log answers

-- a matcher and a tally after a log with these answers
pub record IsAfterLog (p : Pattern) (retained_limit : ℕ) (state : MatcherState) (tally : Tally) (log : List LogEntry) (answers : List (List BindTree)) : Type 0 where
  pub rows : HasAnswers p retained_limit log answers
  pub represents : MatcherRepresents state log
  pub observations_are : tally.observations ≡ length log
  pub bindings_are : tally.bindings ≡ length (joined_answers answers)
  pub few : tally.bindings ≤ length log * 2 ^ 64
  pub last_is : tally.last ≡ last_number (joined_answers answers)

-- the state of a run: its matcher and its counts
pub record Progress : Type 0 where
  pub matcher : MatcherState
  pub tally : Tally

abbrev pub so_far : MatcherState → Tally → Progress
so_far matcher tally = record { matcher = matcher; tally = tally }

-- after this log, for the pattern and the limit of the matcher
abbrev pub IsAt : Progress → List LogEntry → List (List BindTree) → Type 0
IsAt run log answers = IsAfterLog run.matcher.pattern run.matcher.retained_limit run.matcher run.tally log answers

-- after some log
abbrev pub IsAtSome : Progress → Type 0
IsAtSome run = (log : List LogEntry) × (answers : List (List BindTree)) × IsAt run log answers

-- ---- observations

abbrev pub log_row : Observation → List Bool → LogEntry
log_row o truths = record { first = o.first; last = o.last; truths = truths }

-- an observation adds its row, with this answer
pub record AddsRow (p : Pattern) (retained_limit : ℕ) (objects : List Data) (o : Observation) (log : List LogEntry) (answers : List (List BindTree))
    (state : MatcherState) (tally : Tally) (answer : List BindTree) : Type 0 where
  pub truths : List Bool
  pub are : AreTruths objects o.roots (plain_pattern p) truths
  pub behind : IsAfterLog p retained_limit state tally (log ++ log_row o truths ∷ []) (answers ++ answer ∷ [])

-- its row exceeds the limit
pub record IsOverLimitAt (p : Pattern) (retained_limit : ℕ) (objects : List Data) (o : Observation) (log : List LogEntry) (state : MatcherState)
    (number named : ℕ) : Type 0 where
  pub truths : List Bool
  pub are : AreTruths objects o.roots (plain_pattern p) truths
  pub numbered : number ≡ length log + 1
  pub retained_limit_is : named ≡ retained_limit
  pub over_limit : IsOverLimit (numbered_pattern p) (log ++ log_row o truths ∷ []) retained_limit
  pub ended : state.ended ≡ Some (ending.OverLimit number retained_limit)

-- what an end at an observation says
abbrev pub EndsAtRow : Pattern → ℕ → List Data → Observation → List LogEntry → MatcherState → MatchEnd → Type 0
EndsAtRow p retained_limit objects o log state (Done observations bindings last) = ⊥
EndsAtRow p retained_limit objects o log state (Input line why) = ⊥
EndsAtRow p retained_limit objects o log state ReadFault = ⊥
EndsAtRow p retained_limit objects o log state WriteFault = ⊥
EndsAtRow p retained_limit objects o log state (OverLimit number named) = IsOverLimitAt p retained_limit objects o log state number named
EndsAtRow p retained_limit objects o log state NoMemory = ⊤

-- ---- the observations of a bundle

-- some observations add their rows, and the lines of what ends there
pub record AddsRows (p : Pattern) (retained_limit : ℕ) (objects : List Data) (observations : List Observation) (log : List LogEntry)
    (answers : List (List BindTree)) (state : MatcherState) (tally : Tally) (text : List ℕ) : Type 0 where
  pub own : List LogEntry
  pub own_answers : List (List BindTree)
  pub entries : AreEntriesOf (plain_pattern p) objects observations own
  pub behind : IsAfterLog p retained_limit state tally (log ++ own) (answers ++ own_answers)
  pub text_is : text ≡ listing_text (joined_answers own_answers)

-- a part of a text is written, and the rest is buffered
pub record IsPartBuffered (text pending : List ℕ) (first written : Option (List ℕ)) : Type 0 where
  pub count : ℕ
  pub within : count ≤ length text
  pub written_is : written ≡ written_with (take count text) first
  pub pending_is : pending ≡ drop count text

-- the first of some observations add their rows, and the lines of what ends there
pub record ListsFirst (p : Pattern) (retained_limit : ℕ) (objects : List Data) (observations : List Observation) (log : List LogEntry)
    (answers : List (List BindTree)) (text : List ℕ) : Type 0 where
  pub seen : List Observation
  pub later : List Observation
  pub observations_are : observations ≡ seen ++ later
  pub own : List LogEntry
  pub own_answers : List (List BindTree)
  pub entries : AreEntriesOf (plain_pattern p) objects seen own
  pub rows : HasAnswers p retained_limit (log ++ own) (answers ++ own_answers)
  pub text_is : text ≡ listing_text (joined_answers own_answers)

-- a prefix of the lines of the first of them was written
abbrev pub WritesListingPrefix : Pattern → ℕ → List Data → List Observation → List LogEntry → List (List BindTree) → Option (List ℕ) → Option (List ℕ) → Type 0
WritesListingPrefix p retained_limit objects observations log answers first written =
    (text : List ℕ) × ListsFirst p retained_limit objects observations log answers text × WritesPrefix text first written

-- one of them exceeds the limit
pub record StopsAmong (p : Pattern) (retained_limit : ℕ) (objects : List Data) (observations : List Observation) (log : List LogEntry)
    (answers : List (List BindTree)) (state : MatcherState) (text : List ℕ) (number named : ℕ) : Type 0 where
  pub first : ListsFirst p retained_limit objects observations log answers text
  pub o : Observation
  pub rest : List Observation
  pub later_are : first.later ≡ o ∷ rest
  pub over_limit : IsOverLimitAt p retained_limit objects o (log ++ first.own) state number named

-- what an end among the observations says: some of their lines may be buffered, where no call
-- failed
abbrev pub EndsAmong : Pattern → ℕ → List Data → List Observation → List LogEntry → List (List BindTree) → MatcherState
    → List ℕ → Option (List ℕ) → Option (List ℕ) → MatchEnd → Type 0
EndsAmong p retained_limit objects observations log answers state pending first written (Done seen bindings last) = ⊥
EndsAmong p retained_limit objects observations log answers state pending first written (Input line why) = ⊥
EndsAmong p retained_limit objects observations log answers state pending first written ReadFault = ⊥
EndsAmong p retained_limit objects observations log answers state pending first written WriteFault = WritesListingPrefix p retained_limit objects observations log answers first written
EndsAmong p retained_limit objects observations log answers state pending first written (OverLimit number named) =
    (text : List ℕ) × StopsAmong p retained_limit objects observations log answers state text number named × IsPartBuffered text pending first written
EndsAmong p retained_limit objects observations log answers state pending first written NoMemory = WritesListingPrefix p retained_limit objects observations log answers first written

-- ---- a bundle, and what is written of it

-- its lines are written
abbrev pub WritesRows : Pattern → ℕ → List Data → List Observation → List LogEntry → List (List BindTree) → MatcherState → Tally
    → Option (List ℕ) → Option (List ℕ) → Type 0
WritesRows p retained_limit objects observations log answers state tally written written_after =
    (text : List ℕ) × AddsRows p retained_limit objects observations log answers state tally text × (written_after ≡ written_with text written)

-- what an end in a bundle says
abbrev pub EndsInBundle : Pattern → ℕ → List Data → List Observation → List LogEntry → List (List BindTree) → MatcherState
    → Option (List ℕ) → Option (List ℕ) → MatchEnd → Type 0
EndsInBundle p retained_limit objects observations log answers state written written_after (Done seen bindings last) = ⊥
EndsInBundle p retained_limit objects observations log answers state written written_after (Input line why) = ⊥
EndsInBundle p retained_limit objects observations log answers state written written_after ReadFault = ⊥
EndsInBundle p retained_limit objects observations log answers state written written_after WriteFault = WritesListingPrefix p retained_limit objects observations log answers written written_after
EndsInBundle p retained_limit objects observations log answers state written written_after (OverLimit number named) =
    (text : List ℕ) × StopsAmong p retained_limit objects observations log answers state text number named × (written_after ≡ written_with text written)
EndsInBundle p retained_limit objects observations log answers state written written_after NoMemory = WritesListingPrefix p retained_limit objects observations log answers written written_after

-- ---- the same, after any log

-- an observation adds its row
abbrev pub TakesObservation : List Data → Observation → Progress → Progress → List BindTree → Type 0
TakesObservation objects o run after answer = (log : List LogEntry) (answers : List (List BindTree)) → IsAt run log answers
    → AddsRow run.matcher.pattern run.matcher.retained_limit objects o log answers after.matcher after.tally answer

-- or ends the run
abbrev pub StopsAtRow : List Data → Observation → Progress → MatcherState → MatchEnd → Type 0
StopsAtRow objects o run after end = (log : List LogEntry) (answers : List (List BindTree)) → IsAt run log answers
    → EndsAtRow run.matcher.pattern run.matcher.retained_limit objects o log after end

-- some observations of a bundle add their rows and their lines
abbrev pub TakesObservations : List Data → List Observation → Progress → Progress → List ℕ → Type 0
TakesObservations objects observations run after text = (log : List LogEntry) (answers : List (List BindTree)) → IsAt run log answers
    → AddsRows run.matcher.pattern run.matcher.retained_limit objects observations log answers after.matcher after.tally text

-- and these lines are written or buffered
abbrev pub GoesThrough : List Data → List Observation → Progress → Progress → List ℕ → Option (List ℕ) → Option (List ℕ) → Type 0
GoesThrough objects observations run after pending first written =
    (text : List ℕ) × TakesObservations objects observations run after text × IsPartBuffered text pending first written

-- or one of them ends the run
abbrev pub StopsAtOne : List Data → List Observation → Progress → MatcherState → List ℕ → Option (List ℕ) → Option (List ℕ) → MatchEnd → Type 0
StopsAtOne objects observations run after pending first written end = (log : List LogEntry) (answers : List (List BindTree)) → IsAt run log answers
    → EndsAmong run.matcher.pattern run.matcher.retained_limit objects observations log answers after pending first written end

-- the lines of a bundle are written
abbrev pub WritesBundle : BundleOf → Progress → Progress → Option (List ℕ) → Option (List ℕ) → Type 0
WritesBundle bundle run after written written_after = (log : List LogEntry) (answers : List (List BindTree)) → IsAt run log answers
    → WritesRows run.matcher.pattern run.matcher.retained_limit bundle.objects bundle.observations log answers after.matcher after.tally written written_after

-- or the run ends in it
abbrev pub StopsInBundleRows : BundleOf → Progress → MatcherState → Option (List ℕ) → Option (List ℕ) → MatchEnd → Type 0
StopsInBundleRows bundle run after written written_after end = (log : List LogEntry) (answers : List (List BindTree)) → IsAt run log answers
    → EndsInBundle run.matcher.pattern run.matcher.retained_limit bundle.objects bundle.observations log answers after written written_after end
