-- A run of a watcher over an input: what it writes about the bundles that it sees, and how far it
-- comes. For a watcher and a bundle, `sees` relates the watcher after the bundle and the text about
-- it. `stops` gives the reason and the text where it stops in the bundle. `begins` gives the texts
-- of which a prefix may be written where it is cut short.
use Rattle.std.specs.Prelude.{◌≡◌, ◌⊎◌, ℕ, List, [], ◌∷◌, ◌++◌, Option}
use Rattle.flow_edges.specs.Flow.{IsAtEnd, written_with, WritesPrefix}
use Rattle.flow_edges.specs.Streams.{Streams}
use Rattle.match_input.specs.declared.mode.Mode.TheVariants.{Lines}
use Rattle.match_input.specs.declared.rule.InputRule.{InputRule}
use Rattle.match_input.specs.Reading.{BundleOf, Whole, Refused}
use Rattle.match_run.specs.Matching.{ReadsInput, HasPrefix, StopsIn, ReadsTaken}
use Rattle.match_run.specs.declared.see_end.SeeEnd.{SeeEnd}
use Rattle.match_run.specs.declared.see_end.SeeEnd.TheVariants as see
use Rattle.match_run.specs.declared.watch_end.WatchEnd.{WatchEnd}
use Rattle.match_run.specs.declared.watch_end.WatchEnd.TheVariants.{Done, Input, ReadFault, WriteFault, Stopped, NoMemory}
use Rattle.match_run.specs.Reading.{ReadsOnlyTo}

-- ---- what is said of a bundle

-- such a text was written
abbrev pub Says : (List ℕ → Type 0) → Option (List ℕ) → Option (List ℕ) → Type 0
Says IsSaid before after = (text : List ℕ) × IsSaid text × (after ≡ written_with text before)

-- a prefix of such a text was written
abbrev pub BreaksOff : (List ℕ → Type 0) → Option (List ℕ) → Option (List ℕ) → Type 0
BreaksOff IsSaid before after = (text : List ℕ) × IsSaid text × WritesPrefix text before after

-- what was written about the bundle in which the watcher ended
abbrev pub EndsSeeing : {S : Type 0} → (S → List ℕ → Type 0) → (List ℕ → Type 0) → Option (List ℕ) → Option (List ℕ) → SeeEnd S → Type 0
EndsSeeing stops begins before after (see.Stopped why) = Says (stops why) before after
EndsSeeing stops begins before after see.WriteFault = BreaksOff begins before after
EndsSeeing stops begins before after see.NoMemory = BreaksOff begins before after

-- ---- what is said of an input

-- it saw these bundles in turn, and wrote this text about them
abbrev pub SeesAll : {W : Type 0} → (W → BundleOf → W → List ℕ → Type 0) → W → List BundleOf → W → List ℕ → Type 0
SeesAll sees watcher [] behind text = (behind ≡ watcher) × (text ≡ [])
SeesAll {W} sees watcher (bundle ∷ bundles) behind text = (next : W) × (own : List ℕ) × (later : List ℕ)
    × sees watcher bundle next own × SeesAll sees next bundles behind later × (text ≡ own ++ later)

module _ {W : Type 0} (sees : W → BundleOf → W → List ℕ → Type 0) (first : Option (List ℕ)) (earlier : List BundleOf)
    (watcher behind : W) (written : Option (List ℕ)) (after : Streams) where
  -- the whole input was read, and the text about all its bundles was written
  pub record WatchesWhole : Type 0 where
    pub bundles : List BundleOf
    pub reading : ReadsInput Lines first (earlier ++ bundles) Whole
    pub says : Says (SeesAll sees watcher bundles behind) written after.written
    pub drained : IsAtEnd after.left

  -- the input was read up to the first refused line, and the text about the bundles before it was
  -- written
  pub record WatchesBefore (line : ℕ) (why : InputRule) : Type 0 where
    pub bundles : List BundleOf
    pub reading : ReadsInput Lines first (earlier ++ bundles) (Refused line why)
    pub says : Says (SeesAll sees watcher bundles behind) written after.written
    pub little : StopsIn line first after.left

  -- a read failed: the text about the whole lines read was written
  pub record WatchesTaken : Type 0 where
    pub bundles : List BundleOf
    pub begins : HasPrefix Lines first (earlier ++ bundles)
    pub says : Says (SeesAll sees watcher bundles behind) written after.written
    pub taken : ReadsTaken (earlier ++ bundles) first after.left

  -- it stopped between two bundles: the text about those before was written
  pub record WatchStopsBetween : Type 0 where
    pub bundles : List BundleOf
    pub begins : HasPrefix Lines first (earlier ++ bundles)
    pub says : Says (SeesAll sees watcher bundles behind) written after.written

-- it stopped within a bundle, before more was read: the text about the bundles before it was
-- written, and then what Within says about this one
pub record StopsWithin {W : Type 0} (sees : W → BundleOf → W → List ℕ → Type 0) (Within : W → BundleOf → Option (List ℕ) → Option (List ℕ) → Type 0)
    (first : Option (List ℕ)) (earlier : List BundleOf) (watcher : W) (written : Option (List ℕ)) (after : Streams) : Type 0 where
  pub bundles : List BundleOf
  pub bundle : BundleOf
  pub begins : HasPrefix Lines first ((earlier ++ bundles) ++ bundle ∷ [])
  pub only : ReadsOnlyTo bundle.line first after.left after.began
  pub at : W
  pub before : Option (List ℕ)
  pub says : Says (SeesAll sees watcher bundles at) written before
  pub within : Within at bundle before after.written

-- what the end of a run says
module _ {W S : Type 0} (sees : W → BundleOf → W → List ℕ → Type 0) (stops : W → BundleOf → S → List ℕ → Type 0) (begins : W → BundleOf → List ℕ → Type 0)
    (first : Option (List ℕ)) (earlier : List BundleOf) (watcher behind : W) (written : Option (List ℕ)) (after : Streams) where
  abbrev pub AnswersWatch : WatchEnd S → Type 0
  AnswersWatch Done = WatchesWhole sees first earlier watcher behind written after
  AnswersWatch (Input line why) = WatchesBefore sees first earlier watcher behind written after line why
  AnswersWatch ReadFault = WatchesTaken sees first earlier watcher behind written after
  AnswersWatch WriteFault = StopsWithin sees (λ at bundle. BreaksOff (begins at bundle)) first earlier watcher written after
  AnswersWatch (Stopped why) = StopsWithin sees (λ at bundle. Says (stops at bundle why)) first earlier watcher written after
  AnswersWatch NoMemory = WatchStopsBetween sees first earlier watcher behind written after
      ⊎ StopsWithin sees (λ at bundle. BreaksOff (begins at bundle)) first earlier watcher written after
