-- For private clauses: the ends of a feed, and the remaining lines.
use Rattle.std.specs.Prelude.{◌≡◌, ⊤, ℕ, ◌<◌, ◌≤◌, List, ◌++◌, Result, Ok, Err, Option, Some, None, option_map, IfSome}
use Rattle.serde_json.specs.Data.{Data}
use Rattle.flow_lines.specs.Lines.{LineStream, ended, line_then, LinesState}
use Rattle.flow_lines.specs.declared.refusal.TheConstants.{MAX_INPUT}
use Rattle.flow_lines.specs.declared.refusal.LineRefusal.{LineRefusal}
use Rattle.flow_lines.specs.declared.refusal.LineRefusal.TheVariants as refusal
use Rattle.stix_json.specs.declared.value.Json.{Json}
use Rattle.stix_json.specs.DataOf.{data_of}
use Rattle.hunt_feed.specs.declared.rule.FeedRule.TheVariants as rule
use Rattle.hunt_feed.specs.declared.end.FeedEnd.{FeedEnd}
use Rattle.hunt_feed.specs.declared.end.FeedEnd.TheVariants.{Refused, Fault, NoMemory}
use Rattle.hunt_feed.specs.Line.{IsObjectOf}
use Rattle.hunt_feed.specs.Feeds.{IsFeedRefusedAt, FeedClose, ReadsFeedLines, AreUnbroken}
use Rattle.hunt_feed.specs.Gathering.{Gathered, GathersFor}

-- the end for a refused line
abbrev pub feed_end : LineRefusal → FeedEnd
feed_end refusal.Fault = Fault
feed_end (refusal.LineTooLong number) = Refused number rule.LineTooLong
feed_end (refusal.InputTooLong number) = Refused number rule.InputTooLong
feed_end refusal.NoMemory = NoMemory

-- the first of the remaining lines is the object, and the others remain
pub record GivesObject (before after : Option LineStream) (object : Data) : Type 0 where
  pub number : ℕ
  pub bytes : List ℕ
  pub line : before ≡ option_map (λ later. line_then number bytes later) after
  pub is : IsObjectOf bytes object

-- what an answer says about the remaining lines
abbrev pub AnswersObject : Option LineStream → Option LineStream → Result (Option Json) FeedEnd → Type 0
AnswersObject before after (Ok (Some object)) = GivesObject before after (data_of object)
AnswersObject before after (Ok None) = IfSome before (λ lines. lines ≡ ended)
AnswersObject before after (Err (Refused line why)) = IfSome before (λ lines. IsFeedRefusedAt lines line why)
AnswersObject before after (Err Fault) = ⊤
AnswersObject before after (Err NoMemory) = ⊤

-- a line was consumed, and none was refused
pub record MovesOn (before after : LinesState) : Type 0 where
  pub unrefused : after.refusal ≡ None
  pub moved : before.given < after.given
  pub within : after.given ≤ MAX_INPUT

-- these objects, followed by the reading of the remaining lines, are the reading of all lines
abbrev pub ReadsRemaining : Option LineStream → Option LineStream → List Data → Type 0
ReadsRemaining all ahead objects = (more : List Data) (close : FeedClose) → IfSome ahead (λ lines. ReadsFeedLines lines more close)
    → IfSome all (λ lines. ReadsFeedLines lines (objects ++ more) close)

-- these objects were read from the lines, and this was gathered from them
pub record GathersSoFar (all ahead : Option LineStream) (gathered : Gathered) : Type 0 where
  pub objects : List Data
  pub unbroken : AreUnbroken objects
  pub gathers : GathersFor gathered objects
  pub behind : ReadsRemaining all ahead objects
