-- For private clauses: how far a run over an input is.
use Rattle.std.specs.Prelude.{◌≡◌, ◌⊎◌, ⊤, ℕ, ◌+◌, ◌-◌, ◌≤◌, List, [], ◌++◌, Option, None, Some, IfSome}
use Rattle.flow_edges.specs.declared.source.TheConstants.{MAX_READ}
use Rattle.flow_edges.specs.Flow.{IsAtEnd, TakesAtMost, written_with}
use Rattle.flow_lines.specs.Lines.{lines_start, AccountsFor}
use Rattle.flow_lines.specs.declared.refusal.TheConstants.{MAX_INPUT}
use Rattle.flow_lines.specs.declared.whole_input.TheConstants.{MAX_WHOLE_INPUT}
use Rattle.pattern_types.specs.declared.pattern.Pattern.{Pattern}
use Rattle.pattern_types.specs.PlainPattern.{plain_pattern}
use Rattle.match_bindings.specs.declared.log_entry.LogEntry.{LogEntry}
use Rattle.match_bindings.specs.BindTree.{BindTree}
use Rattle.match_stream.specs.MatcherState.{MatcherState}
use Rattle.match_stream.specs.Answer.{joined_answers}
use Rattle.match_input.specs.declared.mode.Mode.{Mode}
use Rattle.match_input.specs.declared.mode.Mode.TheVariants.{Lines, Whole as WholeInput}
use Rattle.match_input.specs.declared.stage.Stage.{Stage}
use Rattle.match_input.specs.declared.stage.Stage.TheVariants as stage
use Rattle.match_input.specs.Reading.{BundleOf, InputEnd, ReadsInputLines}
use Rattle.match_input.specs.Ahead.{InputReaderState, next_observation_number, ahead}
use Rattle.flow_edges.specs.Streams.{Streams}
use Rattle.match_run.specs.Entries.{AreEntries}
use Rattle.match_run.specs.Listing.{listing_text}
use Rattle.match_run.specs.Matching.{ReadsInput, BeganInTime}
use Rattle.match_run.specs.inner.Rows.{IsAfterLog}
use Rattle.match_run.specs.declared.tally.Tally.{Tally}
use Rattle.match_run.specs.Reading.{ReadsOn}

-- the state of the reader, by the mode: in Mode::Whole the input is one bundle
abbrev pub IsStageOf : Mode → Stage → List BundleOf → Option (List ℕ) → Option (List ℕ) → Type 0
IsStageOf Lines (stage.Lines lines) bundles first left = (lines.refusal ≡ None) × AccountsFor lines_start lines first left × (lines.given ≤ MAX_INPUT)
IsStageOf WholeInput stage.Whole bundles first left = (left ≡ first) × (bundles ≡ [])
IsStageOf WholeInput stage.AtEnd bundles first left = IsAtEnd left × TakesAtMost (MAX_WHOLE_INPUT + MAX_READ) first left
IsStageOf _ _ bundles first left = ⊥

-- the last read began before the line of the last bundle was complete; before the first bundle
-- nothing was read
abbrev pub IsReadInTime : Mode → Stage → Option (List ℕ) → Option (List ℕ) → Type 0
IsReadInTime Lines (stage.Lines lines) first began = (lines ≡ lines_start) ⊎ BeganInTime Lines lines.count first began
IsReadInTime WholeInput stage.Whole first began = ⊤
IsReadInTime WholeInput stage.AtEnd first began = IsAtEnd began
IsReadInTime _ _ first began = ⊥

-- how many iterations may follow
abbrev pub turns_left : Stage → ℕ
turns_left (stage.Lines lines) = MAX_INPUT - lines.given
turns_left stage.Whole = 1
turns_left stage.AtEnd = 0
turns_left stage.Ended = 0

-- these bundles, followed by what remains
abbrev pub IsRest : InputReaderState → Option (List ℕ) → List BundleOf → List BundleOf → InputEnd → Type 0
IsRest reader left bundles all end = IfSome (ahead reader.stage left) (λ lines. (later : List BundleOf) × (all ≡ bundles ++ later)
    × ReadsInputLines reader.last (next_observation_number reader) lines later end)

-- the bundles so far were read from the input, and come first in any reading of it
pub record HasReadInMode (mode : Mode) (first : Option (List ℕ)) (reader : InputReaderState) (left : Option (List ℕ)) (bundles : List BundleOf) : Type 0 where
  pub forward : (more : List BundleOf) (end : InputEnd) → ReadsOn reader left more end → ReadsInput mode first (bundles ++ more) end
  pub backward : (all : List BundleOf) (end : InputEnd) → ReadsInput mode first all end → IsRest reader left bundles all end
  pub told : IfSome first (λ _. (bytes : List ℕ) × (left ≡ Some bytes))
  pub stage : IsStageOf mode reader.stage bundles first left

-- the bundles so far, their log, its answers, and what was written
pub record RunsSo (mode : Mode) (p : Pattern) (retained_limit : ℕ) (before now : Streams) (reader : InputReaderState) (state : MatcherState) (tally : Tally) : Type 0 where
  pub bundles : List BundleOf
  pub read : HasReadInMode mode before.left reader now.left bundles
  pub log : List LogEntry
  pub answers : List (List BindTree)
  pub entries : AreEntries (plain_pattern p) bundles log
  pub behind : IsAfterLog p retained_limit state tally log answers
  pub text : now.written ≡ written_with (listing_text (joined_answers answers)) before.written
  pub number : reader.observations ≡ state.rows
  pub time : reader.last ≡ state.last
  pub in_time : IsReadInTime mode reader.stage before.left now.began
