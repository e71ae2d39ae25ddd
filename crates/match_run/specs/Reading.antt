-- How far an input of lines is read, and what the answers of its reader say about it. `first` are
-- the bytes of the input, where they are observable.
use Rattle.std.specs.Prelude.{◌≡◌, ◌⊎◌, ⊤, ℕ, ◌+◌, ◌-◌, ◌<◌, ◌≤◌, ℤ, ◌≤ℤ◌, List, [], ◌∷◌, ◌++◌, length, Option, None, Some, IfSome, Result, Ok, Err}
use Rattle.std.specs.List.{flat_map}
use Rattle.flow_edges.specs.Flow.{IsAtEnd}
use Rattle.flow_lines.specs.Lines.{LinesState, lines_start, AccountsFor}
use Rattle.flow_lines.specs.declared.refusal.TheConstants.{MAX_INPUT}
use Rattle.stix_bundles.specs.declared.observation.Observation.{Observation}
use Rattle.stix_bundles.specs.Objects.{data_in}
use Rattle.match_stream.specs.MatcherState.{Falls}
use Rattle.match_input.specs.declared.batch.Batch.{Batch}
use Rattle.match_input.specs.declared.mode.Mode.TheVariants.{Lines}
use Rattle.match_input.specs.declared.read_end.ReadEnd.{ReadEnd}
use Rattle.match_input.specs.declared.read_end.ReadEnd.TheVariants.{Input, ReadFault, Ended, NoMemory}
use Rattle.match_input.specs.declared.stage.Stage.{Stage}
use Rattle.match_input.specs.declared.stage.Stage.TheVariants as stage
use Rattle.match_input.specs.Line.{last_after}
use Rattle.match_input.specs.Reading.{BundleOf, InputEnd, Whole, Refused, ReadsInputLines}
use Rattle.match_input.specs.Ahead.{InputReaderState, next_observation_number, ahead}
use Rattle.match_run.specs.Matching.{ReadsInput, HasPrefix, StopsIn, ReadsTaken, HoldsFew, IsToCome}

-- ---- bundles and their observations

-- the bundle that a batch is
abbrev pub bundle_of : Batch → BundleOf
bundle_of batch = record { line = batch.line; objects = data_in batch.bundle; observations = batch.observations }

-- the observations of some bundles
abbrev pub observations_of : List BundleOf → List Observation
observations_of bundles = flat_map (λ bundle. bundle.observations) bundles

-- these may come next: none ends before it begins, they have the numbers from `next` on, and their
-- last times don't decrease
abbrev pub MayFollow : Option ℤ → ℕ → List Observation → Type 0
MayFollow last next [] = ⊤
MayFollow last next (o ∷ observations) = (o.first ≤ℤ o.last) × (o.number ≡ next) × (¬ (Falls last o.last))
    × MayFollow (Some o.last) (next + 1) observations

-- ---- how far an input is read

-- the reading of what remains
abbrev pub ReadsOn : InputReaderState → Option (List ℕ) → List BundleOf → InputEnd → Type 0
ReadsOn reader left bundles end = IfSome (ahead reader.stage left) (λ lines. ReadsInputLines reader.last (next_observation_number reader) lines bundles end)

-- these bundles come first, and the rest is the reading of what remains
abbrev pub ReadsRest : InputReaderState → Option (List ℕ) → List BundleOf → List BundleOf → InputEnd → Type 0
ReadsRest reader left bundles all end = IfSome (ahead reader.stage left) (λ lines. (later : List BundleOf) × (all ≡ bundles ++ later)
    × ReadsInputLines reader.last (next_observation_number reader) lines later end)

-- the reader of lines has consumed the first ones: none was refused, no byte is lost, and the last
-- read began before the last of them was complete, unless nothing was read
pub record HasConsumed (first left began : Option (List ℕ)) (lines : LinesState) : Type 0 where
  pub unrefused : lines.refusal ≡ None
  pub accounts : AccountsFor lines_start lines first left
  pub within : lines.given ≤ MAX_INPUT
  pub in_time : (lines ≡ lines_start) ⊎ IfSome began (IsToCome lines.count first)

-- these bundles were read from the input: they come first in any reading of it, and the reader is
-- after them
pub record HasRead (first : Option (List ℕ)) (reader : InputReaderState) (left began : Option (List ℕ)) (bundles : List BundleOf) : Type 0 where
  pub forward : (more : List BundleOf) (end : InputEnd) → ReadsOn reader left more end → ReadsInput Lines first (bundles ++ more) end
  pub backward : (all : List BundleOf) (end : InputEnd) → ReadsInput Lines first all end → ReadsRest reader left bundles all end
  pub told : IfSome first (λ _. (bytes : List ℕ) × (left ≡ Some bytes))
  pub lines : LinesState
  pub stage : reader.stage ≡ stage.Lines lines
  pub represents : HasConsumed first left began lines
  pub number : reader.observations ≡ length (observations_of bundles)
  pub last : reader.last ≡ last_after None (observations_of bundles)

-- some bundles were read of some input
abbrev pub IsBundleReading : InputReaderState → Option (List ℕ) → Option (List ℕ) → Type 0
IsBundleReading reader left began = (first : Option (List ℕ)) × (bundles : List BundleOf) × HasRead first reader left began bundles

-- ---- what the next bundle is

-- no more was read than the bundle of this line requires: few bytes after it are buffered, and the
-- last read began before the line was complete
abbrev pub ReadsOnlyTo : ℕ → Option (List ℕ) → Option (List ℕ) → Option (List ℕ) → Type 0
ReadsOnlyTo line first left began = HoldsFew line first left × IfSome began (IsToCome line first)

-- how many bytes the remaining lines may have
abbrev pub room_in : Stage → ℕ
room_in (stage.Lines lines) = MAX_INPUT - lines.given
room_in _ = 0

-- one more bundle was read, and no more; its observations may follow those before
pub record GivesNextBundle (first : Option (List ℕ)) (earlier : List BundleOf) (before after : InputReaderState) (left_after began_after : Option (List ℕ)) (batch : Batch) : Type 0 where
  pub read : HasRead first after left_after began_after (earlier ++ bundle_of batch ∷ [])
  pub only : ReadsOnlyTo batch.line first left_after began_after
  pub follow : MayFollow before.last (next_observation_number before) batch.observations
  pub observations : after.observations ≡ before.observations + length batch.observations
  pub last : after.last ≡ last_after before.last batch.observations
  pub less_room : room_in after.stage < room_in before.stage

-- what an answer says about the input of which these bundles were read before
abbrev pub NextAnswers : Option (List ℕ) → List BundleOf → InputReaderState → InputReaderState → Option (List ℕ) → Option (List ℕ) → Result (Option Batch) ReadEnd → Type 0
NextAnswers first earlier before after left_after began_after (Ok (Some batch)) = GivesNextBundle first earlier before after left_after began_after batch
NextAnswers first earlier before after left_after began_after (Ok None) = ReadsInput Lines first earlier Whole × IsAtEnd left_after × (after.stage ≡ stage.AtEnd)
NextAnswers first earlier before after left_after began_after (Err (Input line why)) = ReadsInput Lines first earlier (Refused line why) × StopsIn line first left_after
NextAnswers first earlier before after left_after began_after (Err ReadFault) = HasPrefix Lines first earlier × ReadsTaken earlier first left_after
NextAnswers first earlier before after left_after began_after (Err Ended) = ⊥
NextAnswers first earlier before after left_after began_after (Err NoMemory) = HasPrefix Lines first earlier
