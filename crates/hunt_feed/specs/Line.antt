-- The reading of one line of a feed: a STIX object, or why it is refused.
use Rattle.std.specs.Prelude.{◌≡◌, ◌≢◌, ℕ, List, []}
use Rattle.serde_json.specs.Data.{Data}
use Rattle.stix_json.specs.declared.value.Json.{Json}
use Rattle.stix_json.specs.declared.refusal.JsonRefusal.TheVariants as json_refusal
use Rattle.stix_json.specs.DataOf.{data_of}
use Rattle.stix_json.specs.Reading.{IsJsonOf, IsJsonRefusedAs}
use Rattle.stix_objects.specs.declared.rule_break.Break.{Break}
use Rattle.stix_objects.specs.Breaks.{AreBreaksOf}
use Rattle.hunt_feed.specs.declared.rule.FeedRule.{FeedRule}
use Rattle.hunt_feed.specs.declared.rule.FeedRule.TheVariants.{LineTooLong, InputTooLong, Json as NoJson, Breaks}

-- the bytes are a JSON value: this object, which breaks no rule of its type
pub record IsObjectOf (bytes : List ℕ) (object : Data) : Type 0 where
  pub value : Json
  pub json : IsJsonOf bytes value
  pub object_is : object ≡ data_of value
  pub unbroken : AreBreaksOf object []

-- the bytes are a JSON value that breaks these rules
pub record IsBroken (bytes : List ℕ) (breaks : List Break) : Type 0 where
  pub value : Json
  pub json : IsJsonOf bytes value
  pub some : breaks ≢ []
  pub are : AreBreaksOf (data_of value) breaks

-- why the bytes, if not too many, are refused: the first cause in this order
abbrev pub IsRefusedFeedLine : List ℕ → FeedRule → Type 0
IsRefusedFeedLine bytes LineTooLong = ⊥
IsRefusedFeedLine bytes InputTooLong = ⊥
IsRefusedFeedLine bytes (NoJson refusal) = (refusal ≢ json_refusal.NoMemory) × IsJsonRefusedAs bytes refusal
IsRefusedFeedLine bytes (Breaks breaks) = IsBroken bytes breaks
