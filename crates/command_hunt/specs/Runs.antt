-- What holds when the program has ended, by its exit status.
use Rattle.std.specs.Prelude.{◌≡◌, ◌⊎◌, ⊤, ℕ, List, Option}
use Rattle.flow_edges.specs.Flow.{written_with}
use Rattle.flow_edges.specs.Streams.{Streams, AreUntouched}
use Rattle.serde_json.specs.Data.{Data}
use Rattle.match_input.specs.declared.mode.Mode.TheVariants.{Lines}
use Rattle.match_input.specs.Reading.{BundleOf, InputEnd, Whole, Refused}
use Rattle.match_run.specs.Matching.{ReadsInput}
use Rattle.hunt_report.specs.declared.over_limit.OverLimit.{OverLimit}
use Rattle.command_hunt.specs.declared.ending.HuntEnding.{HuntEnding}
use Rattle.command_hunt.specs.Tasks.{HuntTask}
use Rattle.hunt_feed.specs.declared.rule.FeedRule.{FeedRule}
use Rattle.command_hunt.specs.Feeding.{NamesFile, IsFed, IsRefusedFeed}
use Rattle.command_hunt.specs.Telling.{ReportsTo, HuntStopsOverLimit}
use Rattle.command_hunt.specs.Endings.{AskForHuntWhere, EndsHunt, hunt_status, IsHuntReason}

-- the program ended with one of the endings, with its exit status and its message
pub record EndsHuntRun (arguments : List (List ℕ)) (contents : List ℕ → Option (List ℕ)) (before after : Streams) (status : ℕ) (Writes : List ℕ → Type 0) : Type 0 where
  pub ending : HuntEnding
  pub status_is : status ≡ hunt_status ending
  pub stands : EndsHunt arguments contents before after ending
  pub text : List ℕ
  pub reason_is : IsHuntReason ending text
  pub reason : Writes text

-- the status of a run over an input with that end
abbrev pub hunter_status : InputEnd → ℕ
hunter_status Whole = 0
hunter_status (Refused line why) = 4

-- the input is read as bundles, up to its end or to the first refused line. The indicators of the
-- file, or of the first bundle, are matched over the log of all bundles, and at no row one exceeds
-- its limit. Exactly the output of that was written
pub record HuntsInput (contents : List ℕ → Option (List ℕ)) (before after : Streams) (status : ℕ) (task : HuntTask) : Type 0 where
  pub file : Option (List Data)
  pub fed : IsFed contents task file
  pub bundles : List BundleOf
  pub end : InputEnd
  pub reading : ReadsInput Lines before.left bundles end
  pub end_is : hunter_status end ≡ status
  pub text : List ℕ
  pub reports : ReportsTo task file end bundles text
  pub text_is : after.written ≡ written_with text before.written

-- a line of the file that is named is refused, the first such one, and nothing was read or written
pub record RefusesFeed (contents : List ℕ → Option (List ℕ)) (before after : Streams) (status : ℕ) (task : HuntTask) : Type 0 where
  pub line : ℕ
  pub why : FeedRule
  pub refused : IsRefusedFeed contents task line why
  pub status_is : status ≡ 4
  pub untouched : AreUntouched before after

-- one of the two
abbrev pub HuntsOrRefuses : (List ℕ → Option (List ℕ)) → Streams → Streams → ℕ → HuntTask → Type 0
HuntsOrRefuses contents before after status task = HuntsInput contents before after status task ⊎ RefusesFeed contents before after status task

-- a pattern exceeds its limit at some observation, and the hits before it were written
abbrev pub HuntsToLimit : (List ℕ → Option (List ℕ)) → Streams → Streams → HuntTask → Type 0
HuntsToLimit contents before after task = (why : OverLimit) × (file : Option (List Data)) × IsFed contents task file × HuntStopsOverLimit task file before after why

-- the arguments name a file
abbrev pub AskForFile : List (List ℕ) → Type 0
AskForFile arguments = AskForHuntWhere arguments (λ task. NamesFile task (λ name. ⊤))
