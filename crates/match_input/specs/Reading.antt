-- The reading of a whole input: its bundles with their observations up to the first refused line,
-- and why that is refused.
use Rattle.std.specs.Prelude.{◌≡◌, ℕ, ◌+◌, ℤ, List, [], ◌∷◌, length, nat_lt, if◌then◌else◌, Option, None}
use Rattle.serde_json.specs.Data.{Data}
use Rattle.flow_lines.specs.Lines.{LineStream, ended, refused, line_then, lines_of}
use Rattle.flow_lines.specs.declared.refusal.LineRefusal.{LineRefusal}
use Rattle.flow_lines.specs.declared.refusal.LineRefusal.TheVariants.{Fault, LineTooLong, InputTooLong, NoMemory}
use Rattle.flow_lines.specs.declared.whole_input.TheConstants.{MAX_WHOLE_INPUT}
use Rattle.stix_bundles.specs.declared.observation.Observation.{Observation}
use Rattle.match_input.specs.declared.mode.Mode.{Mode}
use Rattle.match_input.specs.declared.mode.Mode.TheVariants.{Lines, Whole as WholeInput}
use Rattle.match_input.specs.declared.rule.InputRule.{InputRule}
use Rattle.match_input.specs.declared.rule.InputRule.TheVariants as rule
use Rattle.match_input.specs.Line.{IsBundleLine, IsRefusedInputLine, last_after}

-- a bundle of an input: its line, its objects, and its observations
pub record BundleOf : Type 0 where
  pub line : ℕ
  pub objects : List Data
  pub observations : List Observation

-- how an input ends: complete, or at the first refused line
pub data InputEnd : Type 0 where
  Whole : InputEnd
  Refused : (line : ℕ) → InputRule → InputEnd

-- why a line is refused that is too long, or that makes the input too long
abbrev pub IsTooLongInputLine : LineRefusal → ℕ → InputRule → Type 0
IsTooLongInputLine Fault line why = ⊥
IsTooLongInputLine (LineTooLong number) line why = (line ≡ number) × (why ≡ rule.LineTooLong)
IsTooLongInputLine (InputTooLong number) line why = (line ≡ number) × (why ≡ rule.InputTooLong)
IsTooLongInputLine NoMemory line why = ⊥

-- the first of these lines is refused
abbrev pub IsInputRefusedAt : Option ℤ → ℕ → LineStream → ℕ → InputRule → Type 0
IsInputRefusedAt last next ended line why = ⊥
IsInputRefusedAt last next (refused refusal) line why = IsTooLongInputLine refusal line why
IsInputRefusedAt last next (line_then number bytes later) line why = (line ≡ number) × IsRefusedInputLine last next bytes why

-- The reading of the remaining lines: these bundles, and this end.
pub data ReadsInputLines : Option ℤ → ℕ → LineStream → List BundleOf → InputEnd → Type 0 where
  -- the input ends
  at_end : {last : Option ℤ} {next : ℕ} → ReadsInputLines last next ended [] Whole
  -- the first line is refused
  at_refusal : {last : Option ℤ} {next : ℕ} {lines : LineStream} {line : ℕ} {why : InputRule}
      → IsInputRefusedAt last next lines line why → ReadsInputLines last next lines [] (Refused line why)
  -- the first line is a bundle, whose observations are numbered from `next` on
  one_bundle : {last : Option ℤ} {next number : ℕ} {bytes : List ℕ} {later : LineStream} {objects : List Data} {observations : List Observation}
      {bundles : List BundleOf} {end : InputEnd} → IsBundleLine last next bytes objects observations
      → ReadsInputLines (last_after last observations) (next + length observations) later bundles end
      → ReadsInputLines last next (line_then number bytes later) (record { line = number; objects = objects; observations = observations } ∷ bundles) end

-- an input in Mode::Whole, as one line
abbrev pub one_line : List ℕ → LineStream
one_line bytes = if nat_lt MAX_WHOLE_INPUT (length bytes) then refused (InputTooLong 1) else line_then 1 bytes ended

-- the lines of an input, by the mode
abbrev pub lines_in : Mode → List ℕ → LineStream
lines_in Lines bytes = lines_of bytes
lines_in WholeInput bytes = one_line bytes

-- the reading of the bytes of an input: observations are numbered from 1
abbrev pub Reading : Mode → List ℕ → List BundleOf → InputEnd → Type 0
Reading mode bytes bundles end = ReadsInputLines None 1 (lines_in mode bytes) bundles end
