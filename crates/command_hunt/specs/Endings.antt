-- What an ending implies for the arguments, the file of the indicators, the log and what was
-- reported; its exit status, and its message.
use Rattle.std.specs.Prelude.{◌≡◌, ◌⊎◌, ℕ, List, [], Option, codes}
use Rattle.flow_edges.specs.Streams.{Streams, AreUntouched}
use Rattle.serde_json.specs.Data.{Data}
use Rattle.match_input.specs.Texts.{IsInputRefusalText}
use Rattle.match_run.specs.declared.watch_end.WatchEnd.TheVariants as end
use Rattle.hunt_feed.specs.declared.end.FeedEnd.TheVariants as feed
use Rattle.hunt_feed.specs.Texts.{feed_refusal_text}
use Rattle.command_reasons.specs.Reasons.{over_limit_reason}
use Rattle.command_hunt.specs.declared.ending.HuntEnding.{HuntEnding}
use Rattle.command_hunt.specs.declared.ending.HuntEnding.TheVariants.{Usage, Unfed, Ended}
use Rattle.command_hunt.specs.Tasks.{HuntTask, AskForHunt, AskForNoHunt}
use Rattle.command_hunt.specs.Feeding.{IsFed, IsUnfed}
use Rattle.command_hunt.specs.Telling.{AnswersHunt}

-- the arguments request a hunt, for which this holds
pub record AskForHuntWhere (arguments : List (List ℕ)) (Holds : HuntTask → Type 0) : Type 0 where
  pub task : HuntTask
  pub asked : AskForHunt arguments task
  pub holds : Holds task

-- what an ending implies for what is requested
abbrev pub EndsHuntTask : (List ℕ → Option (List ℕ)) → Streams → Streams → HuntEnding → HuntTask → Type 0
EndsHuntTask contents before after Usage task = ⊥
EndsHuntTask contents before after (Unfed end) task = IsUnfed contents task end × AreUntouched before after
EndsHuntTask contents before after (Ended ended) task = (file : Option (List Data)) × IsFed contents task file × AnswersHunt task file before after ended

-- the arguments are no command line, and that is the ending; or they request a hunt, for which the
-- ending implies this
abbrev pub EndsHunt : List (List ℕ) → (List ℕ → Option (List ℕ)) → Streams → Streams → HuntEnding → Type 0
EndsHunt arguments contents before after ending = (AskForNoHunt arguments × (ending ≡ Usage) × AreUntouched before after)
    ⊎ AskForHuntWhere arguments (EndsHuntTask contents before after ending)

abbrev pub hunt_status : HuntEnding → ℕ
hunt_status (Ended end.Done) = 0
hunt_status (Ended end.NoMemory) = 1
hunt_status Usage = 2
hunt_status (Unfed (feed.Refused line why)) = 4
hunt_status (Unfed feed.Fault) = 5
hunt_status (Unfed feed.NoMemory) = 1
hunt_status (Ended (end.Input line why)) = 4
hunt_status (Ended end.ReadFault) = 5
hunt_status (Ended end.WriteFault) = 6
hunt_status (Ended (end.Stopped why)) = 7

abbrev pub IsHuntReason : HuntEnding → List ℕ → Type 0
IsHuntReason (Ended end.Done) text = text ≡ []
IsHuntReason (Ended end.NoMemory) text = text ≡ codes "out of memory\n"
IsHuntReason Usage text = text ≡ codes "usage: stix_hunt [--indicators FILE] TIME [CAP]\n"
IsHuntReason (Unfed (feed.Refused line why)) text = text ≡ feed_refusal_text line why
IsHuntReason (Unfed feed.Fault) text = text ≡ codes "indicators fault\n"
IsHuntReason (Unfed feed.NoMemory) text = text ≡ codes "out of memory\n"
IsHuntReason (Ended (end.Input line why)) text = IsInputRefusalText line why text
IsHuntReason (Ended end.ReadFault) text = text ≡ codes "read fault\n"
IsHuntReason (Ended end.WriteFault) text = text ≡ codes "write fault\n"
IsHuntReason (Ended (end.Stopped why)) text = text ≡ over_limit_reason why.number why.retained_limit
