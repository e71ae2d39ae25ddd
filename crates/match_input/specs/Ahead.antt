-- The observable state of a reader of bundles, and what its answers say about the remaining lines.
use Rattle.std.specs.Prelude.{◌≡◌, ⊤, ℕ, ◌+◌, ◌<◌, ◌≤◌, ℤ, List, [], length, Result, Ok, Err, Option, Some, None, option_map, IfSome}
use Rattle.flow_edges.specs.declared.source.TheConstants.{MAX_READ}
use Rattle.flow_edges.specs.Flow.{IsAtEnd, TakesAtMost}
use Rattle.flow_lines.specs.Lines.{LineStream, ended, line_then, LinesState, lines_start, lines_remaining, ContinuesAccounting, KeepsLines, HoldsLine, LacksLine}
use Rattle.flow_lines.specs.declared.refusal.TheConstants.{MAX_LINE, MAX_INPUT}
use Rattle.flow_lines.specs.declared.whole_input.TheConstants.{MAX_WHOLE_INPUT}
use Rattle.stix_bundles.specs.Objects.{data_in}
use Rattle.match_input.specs.declared.mode.Mode.{Mode}
use Rattle.match_input.specs.declared.mode.Mode.TheVariants as mode
use Rattle.match_input.specs.declared.rule.InputRule.{InputRule}
use Rattle.match_input.specs.declared.batch.Batch.{Batch}
use Rattle.match_input.specs.declared.read_end.ReadEnd.{ReadEnd}
use Rattle.match_input.specs.declared.read_end.ReadEnd.TheVariants.{Input, ReadFault, Ended as HasEnded, NoMemory}
use Rattle.match_input.specs.declared.stage.Stage.{Stage}
use Rattle.match_input.specs.declared.stage.Stage.TheVariants.{Lines, Whole, AtEnd, Ended}
use Rattle.match_input.specs.Line.{IsBundleLine, last_after}
use Rattle.match_input.specs.Reading.{one_line, IsInputRefusedAt}

-- how far the input is read, how many observations were given, and when the last of them was last observed
pub record InputReaderState : Type 0 where
  pub stage : Stage
  pub observations : ℕ
  pub last : Option ℤ

-- at the start of an input
abbrev pub first_stage : Mode → Stage
first_stage mode.Lines = Lines lines_start
first_stage mode.Whole = Whole

abbrev pub reader_start : Mode → InputReaderState
reader_start cut = record { stage = first_stage cut; observations = 0; last = None }

-- the number of the next observation
abbrev pub next_observation_number : InputReaderState → ℕ
next_observation_number state = state.observations + 1

-- the input is still open: no line was refused
abbrev pub IsOpen : Stage → Type 0
IsOpen (Lines lines) = lines.refusal ≡ None
IsOpen Whole = ⊤
IsOpen AtEnd = ⊥
IsOpen Ended = ⊥

-- the remaining lines, where the source's bytes are observable
abbrev pub ahead : Stage → Option (List ℕ) → Option LineStream
ahead (Lines lines) left = lines_remaining lines left
ahead Whole left = option_map one_line left
ahead AtEnd left = option_map (λ bytes. ended) left
ahead Ended left = option_map (λ bytes. ended) left

-- the buffer holds whole lines
abbrev pub HoldsLines : Stage → Type 0
HoldsLines (Lines lines) = HoldsLine lines.held
HoldsLines _ = ⊥

-- when these bytes were left, this line wasn't complete yet; in Mode::Whole, nothing was left
abbrev pub LacksLineIn : Stage → ℕ → Option (List ℕ) → List ℕ → Type 0
LacksLineIn (Lines before) number left bytes = LacksLine before number left bytes
LacksLineIn Whole number left bytes = bytes ≡ []
LacksLineIn _ number left bytes = ⊥

-- the line was consumed: no byte is lost, and few bytes are buffered; in Mode::Whole the reader is
-- then at its end
abbrev pub Moves : ℕ → Stage → Stage → Option (List ℕ) → Option (List ℕ) → Type 0
Moves number (Lines before) (Lines after) left left_after = (after.refusal ≡ None) × (number ≡ after.count) × (before.given < after.given)
    × (after.given ≤ MAX_INPUT) × (length after.held ≤ MAX_READ) × ContinuesAccounting before after left left_after
Moves number Whole AtEnd left left_after = (number ≡ 1) × IsAtEnd left_after × TakesAtMost (MAX_WHOLE_INPUT + MAX_READ) left left_after
Moves number _ _ left left_after = ⊥

-- no line after this one was consumed, and no more is buffered than a line may have and one read
-- returns
pub record StopsAt (before : LinesState) (line : ℕ) (left left_after : Option (List ℕ)) : Type 0 where
  pub at : LinesState
  pub lines : at.count ≤ line
  pub few : length at.held ≤ MAX_LINE + MAX_READ
  pub accounts : ContinuesAccounting before at left left_after

-- how much was read where a line is refused
abbrev pub TakesLittleAhead : Stage → ℕ → Option (List ℕ) → Option (List ℕ) → Type 0
TakesLittleAhead (Lines before) line left left_after = StopsAt before line left left_after
TakesLittleAhead Whole line left left_after = TakesAtMost (MAX_WHOLE_INPUT + MAX_READ) left left_after
TakesLittleAhead _ line left left_after = ⊥

-- a read failed: the remaining lines are unchanged, no byte is lost, and the buffer holds no whole
-- line
pub record KeepsBytes (before : LinesState) (left left_after : Option (List ℕ)) : Type 0 where
  pub at : LinesState
  pub keeps : KeepsLines before at left left_after
  pub accounts : ContinuesAccounting before at left left_after

abbrev pub BreaksOffReading : Stage → Option (List ℕ) → Option (List ℕ) → Type 0
BreaksOffReading (Lines before) left left_after = KeepsBytes before left left_after
BreaksOffReading Whole left left_after = TakesAtMost (MAX_WHOLE_INPUT + MAX_READ) left left_after
BreaksOffReading _ left left_after = ⊥

-- no line remained, and nothing is left
pub record ComesToEnd (before after : Stage) (left left_after : Option (List ℕ)) : Type 0 where
  pub none : IfSome (ahead before left) (λ lines. lines ≡ ended)
  pub drained : IsAtEnd left_after
  pub is_at_end : after ≡ AtEnd

-- the first of the remaining lines is a bundle, returned with its observations; the others remain
pub record GivesBatch (before after : InputReaderState) (left left_after : Option (List ℕ)) (batch : Batch) : Type 0 where
  pub bytes : List ℕ
  pub line : ahead before.stage left ≡ option_map (λ later. line_then batch.line bytes later) (ahead after.stage left_after)
  pub is : IsBundleLine before.last (next_observation_number before) bytes (data_in batch.bundle) batch.observations
  pub observations : after.observations ≡ before.observations + length batch.observations
  pub last : after.last ≡ last_after before.last batch.observations
  pub moves : Moves batch.line before.stage after.stage left left_after

-- the first of the remaining lines is refused
pub record RefusesInputLine (before : InputReaderState) (left left_after : Option (List ℕ)) (line : ℕ) (why : InputRule) : Type 0 where
  pub refused : IfSome (ahead before.stage left) (λ lines. IsInputRefusedAt before.last (next_observation_number before) lines line why)
  pub little : TakesLittleAhead before.stage line left left_after

-- what an answer says about the remaining lines
abbrev pub AnswersNext : InputReaderState → InputReaderState → Option (List ℕ) → Option (List ℕ) → Result (Option Batch) ReadEnd → Type 0
AnswersNext before after left left_after (Ok (Some batch)) = GivesBatch before after left left_after batch
AnswersNext before after left left_after (Ok None) = ComesToEnd before.stage after.stage left left_after
AnswersNext before after left left_after (Err (Input line why)) = RefusesInputLine before left left_after line why
AnswersNext before after left left_after (Err ReadFault) = BreaksOffReading before.stage left left_after
AnswersNext before after left left_after (Err HasEnded) = ⊥
AnswersNext before after left left_after (Err NoMemory) = ⊤
