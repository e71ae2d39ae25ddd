-- The reading of a feed: its objects, one per line, up to the first refused line, and why that is
-- refused. Blank lines are skipped.
use Rattle.std.specs.Prelude.{◌≡◌, ℕ, List, [], ◌∷◌, All, Option, IfSome}
use Rattle.serde_json.specs.Data.{Data}
use Rattle.flow_lines.specs.Lines.{LineStream, ended, refused, line_then, lines_of}
use Rattle.flow_lines.specs.declared.refusal.LineRefusal.{LineRefusal}
use Rattle.flow_lines.specs.declared.refusal.LineRefusal.TheVariants as line_refusal
use Rattle.stix_objects.specs.Breaks.{AreBreaksOf}
use Rattle.hunt_feed.specs.Gathering.{Gathered, GathersFor}
use Rattle.hunt_feed.specs.declared.rule.FeedRule.{FeedRule}
use Rattle.hunt_feed.specs.declared.rule.FeedRule.TheVariants as rule
use Rattle.hunt_feed.specs.Line.{IsObjectOf, IsRefusedFeedLine}

-- how a feed ends: complete, or at the first refused line
pub data FeedClose : Type 0 where
  Whole : FeedClose
  Refused : (line : ℕ) → FeedRule → FeedClose

-- why a line is refused that is too long, or that makes the feed too long
abbrev pub IsTooLongFeedLine : LineRefusal → ℕ → FeedRule → Type 0
IsTooLongFeedLine line_refusal.Fault line why = ⊥
IsTooLongFeedLine (line_refusal.LineTooLong number) line why = (line ≡ number) × (why ≡ rule.LineTooLong)
IsTooLongFeedLine (line_refusal.InputTooLong number) line why = (line ≡ number) × (why ≡ rule.InputTooLong)
IsTooLongFeedLine line_refusal.NoMemory line why = ⊥

-- the first of these lines is refused
abbrev pub IsFeedRefusedAt : LineStream → ℕ → FeedRule → Type 0
IsFeedRefusedAt ended line why = ⊥
IsFeedRefusedAt (refused refusal) line why = IsTooLongFeedLine refusal line why
IsFeedRefusedAt (line_then number bytes later) line why = (line ≡ number) × IsRefusedFeedLine bytes why

-- The reading of the remaining lines: these objects, and this end.
pub data ReadsFeedLines : LineStream → List Data → FeedClose → Type 0 where
  -- the feed ends
  at_end : ReadsFeedLines ended [] Whole
  -- the first line is refused
  at_refusal : {lines : LineStream} {line : ℕ} {why : FeedRule} → IsFeedRefusedAt lines line why → ReadsFeedLines lines [] (Refused line why)
  -- the first line is an object
  one_object : {number : ℕ} {bytes : List ℕ} {later : LineStream} {object : Data} {objects : List Data} {close : FeedClose}
      → IsObjectOf bytes object → ReadsFeedLines later objects close → ReadsFeedLines (line_then number bytes later) (object ∷ objects) close

-- the reading of the bytes of a feed, where they are observable
abbrev pub ReadsFeed : Option (List ℕ) → List Data → FeedClose → Type 0
ReadsFeed left objects close = IfSome left (λ bytes. ReadsFeedLines (lines_of bytes) objects close)

-- none of the objects breaks a rule of its type
abbrev pub AreUnbroken : List Data → Type 0
AreUnbroken objects = All (λ object. AreBreaksOf object []) objects

-- the whole feed was read, and this was gathered from its objects
pub record GathersFeed (left : Option (List ℕ)) (gathered : Gathered) (objects : List Data) : Type 0 where
  pub reading : ReadsFeed left objects Whole
  pub unbroken : AreUnbroken objects
  pub gathers : GathersFor gathered objects
