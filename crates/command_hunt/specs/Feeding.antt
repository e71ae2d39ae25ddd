-- The source of the indicators: a file, if the arguments name one. `contents` are the bytes of
-- files by their names, as far as they are observable.
use Rattle.std.specs.Prelude.{◌≡◌, ◌⊎◌, ⊤, ℕ, List, Option, Some, None}
use Rattle.serde_json.specs.Data.{Data}
use Rattle.flow_edges.specs.Faults.{Counted}
use Rattle.hunt_feed.specs.Feeds.{Whole, Refused as RefusedLine, ReadsFeed}
use Rattle.hunt_feed.specs.declared.rule.FeedRule.{FeedRule}
use Rattle.hunt_feed.specs.declared.end.FeedEnd.{FeedEnd}
use Rattle.hunt_feed.specs.declared.end.FeedEnd.TheVariants.{Refused, Fault, NoMemory}
use Rattle.command_hunt.specs.Tasks.{HuntTask}

-- the arguments name a file of which that holds
abbrev pub NamesFile : HuntTask → (List ℕ → Type 0) → Type 0
NamesFile task Holds = (name : List ℕ) × (task.file ≡ Some name) × Holds name

module _ (contents : List ℕ → Option (List ℕ)) (task : HuntTask) where
  -- the file that is named is a feed of these objects; or none is named
  abbrev pub IsFed : Option (List Data) → Type 0
  IsFed None = task.file ≡ None
  IsFed (Some objects) = NamesFile task (λ name. ReadsFeed (contents name) objects Whole)

  -- the line of the file that is named is the first that is refused
  abbrev pub IsRefusedFeed : ℕ → FeedRule → Type 0
  IsRefusedFeed line why = NamesFile task (λ name. (objects : List Data) × ReadsFeed (contents name) objects (RefusedLine line why))

  -- a file is named, and that is why it was not read to its end
  abbrev pub IsUnfed : FeedEnd → Type 0
  IsUnfed (Refused line why) = IsRefusedFeed line why
  IsUnfed Fault = NamesFile task (λ name. ⊤)
  IsUnfed NoMemory = NamesFile task (λ name. ⊤)

-- a read of the first object failed, or, if allowed, one of the second, which counted it; the other
-- count stays
abbrev pub CountedByOne : (Other Failed : Type 0) → ℕ → ℕ → ℕ → ℕ → Type 0
CountedByOne Other Failed one one_now other other_now = (Counted Failed one one_now × (other_now ≡ other)) ⊎ (Other × (one_now ≡ one) × Counted Failed other other_now)
