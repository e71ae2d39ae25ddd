-- For private clauses: taking the next line, before it is parsed.
use Rattle.std.specs.Prelude.{◌≡◌, ⊤, ℕ, ◌*◌, ◌≤◌, List, Result, Ok, Err, Option, Some, None, option_map, IfSome}
use Rattle.flow_lines.specs.Lines.{refused, line_then}
use Rattle.flow_lines.specs.declared.line.Line.{Line}
use Rattle.flow_lines.specs.declared.refusal.LineRefusal.{LineRefusal}
use Rattle.flow_lines.specs.declared.refusal.LineRefusal.TheVariants as refusal
use Rattle.flow_lines.specs.declared.whole_input.InputRefusal.{InputRefusal}
use Rattle.flow_lines.specs.declared.whole_input.InputRefusal.TheVariants as whole
use Rattle.stix_bundles.specs.declared.outline.TheConstants.{MAX_OBJECTS}
use Rattle.match_input.specs.declared.rule.InputRule.{InputRule}
use Rattle.match_input.specs.declared.rule.InputRule.TheVariants as rule
use Rattle.match_input.specs.declared.read_end.ReadEnd.{ReadEnd}
use Rattle.match_input.specs.declared.read_end.ReadEnd.TheVariants.{Input, ReadFault, Ended as HasEnded, NoMemory}
use Rattle.match_input.specs.declared.stage.Stage.{Stage}
use Rattle.match_input.specs.declared.stage.Stage.TheVariants.{Lines, Whole, AtEnd, Ended}
use Rattle.match_input.specs.Reading.{IsTooLongInputLine}
use Rattle.match_input.specs.declared.progress.Progress.{Progress}
use Rattle.match_input.specs.Ahead.{InputReaderState, ahead, Moves, TakesLittleAhead, BreaksOffReading, ComesToEnd}

-- the end for a refused line, and for a refused input in Mode::Whole
abbrev pub refused_read_end : LineRefusal → ReadEnd
refused_read_end refusal.Fault = ReadFault
refused_read_end (refusal.LineTooLong number) = Input number rule.LineTooLong
refused_read_end (refusal.InputTooLong number) = Input number rule.InputTooLong
refused_read_end refusal.NoMemory = NoMemory

abbrev pub end_of_whole : InputRefusal → ReadEnd
end_of_whole whole.Fault = ReadFault
end_of_whole whole.TooLong = Input 1 rule.InputTooLong
end_of_whole whole.NoMemory = NoMemory

-- the first of the remaining lines is returned, and the others remain
pub record GivesBytes (before after : Stage) (left left_after : Option (List ℕ)) (number : ℕ) (bytes : List ℕ) : Type 0 where
  pub line : ahead before left ≡ option_map (λ later. line_then number bytes later) (ahead after left_after)
  pub moves : Moves number before after left left_after
  -- where the line may still be refused
  pub little : TakesLittleAhead before number left left_after

-- the first of the remaining lines is too long, or makes the input too long
pub record IsTooLongAhead (before : Stage) (left left_after : Option (List ℕ)) (line : ℕ) (why : InputRule) : Type 0 where
  pub refused : IfSome (ahead before left) (λ lines. (refusal : LineRefusal) × (lines ≡ refused refusal) × IsTooLongInputLine refusal line why)
  pub little : TakesLittleAhead before line left left_after

abbrev pub AnswersTurn : Stage → Stage → Option (List ℕ) → Option (List ℕ) → Result (Option Line) ReadEnd → Type 0
AnswersTurn before after left left_after (Ok (Some line)) = GivesBytes before after left left_after line.number line.bytes
AnswersTurn before after left left_after (Ok None) = ComesToEnd before after left left_after
AnswersTurn before after left left_after (Err (Input line why)) = IsTooLongAhead before left left_after line why
AnswersTurn before after left left_after (Err ReadFault) = BreaksOffReading before left left_after
AnswersTurn before after left left_after (Err HasEnded) = before ≡ Ended
AnswersTurn before after left left_after (Err NoMemory) = ⊤

-- the observable state of a reader
abbrev pub reader_state : Progress → InputReaderState
reader_state progress = record { stage = progress.stage; observations = progress.observations; last = progress.last }

-- no line was refused, and the number of observations is bounded by the bytes consumed
abbrev pub AreFew : Stage → ℕ → Type 0
AreFew (Lines lines) observations = (lines.refusal ≡ None) × (observations ≤ lines.given * MAX_OBJECTS)
AreFew Whole observations = observations ≡ 0
AreFew AtEnd observations = ⊤
AreFew Ended observations = ⊤
