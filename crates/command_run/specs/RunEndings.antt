-- What holds when the program has ended, by the command that it ran and how that ended.
use Rattle.std.specs.Prelude.{◌≡◌, ◌≢◌, ◌⊎◌, ℕ, List, Option, codes}
use Rattle.flow_edges.specs.Flow.{written_with}
use Rattle.pattern_types.specs.declared.pattern.Pattern.{Pattern}
use Rattle.pattern_types.specs.PlainPattern.{plain_pattern}
use Rattle.pattern_reader.specs.Read.{IsReadAs}
use Rattle.match_input.specs.Reading.{BundleOf, Whole}
use Rattle.match_bindings.specs.declared.log_entry.LogEntry.{LogEntry}
use Rattle.match_bindings.specs.BindTree.{BindTree}
use Rattle.match_run.specs.Entries.{AreEntries}
use Rattle.match_run.specs.Listing.{AreBindings, listing_text}
use Rattle.match_run.specs.Matching.{ReadsInput}
use Rattle.command_match.specs.declared.matching.MatchEnding.{MatchEnding}
use Rattle.command_check.specs.declared.checking.CheckEnding.{CheckEnding}
use Rattle.command_show.specs.declared.showing.ShowEnding.{ShowEnding}
use Rattle.command_run.specs.declared.ending.Ending.{Ending}
use Rattle.command_make.specs.declared.making.MakeEnding.{MakeEnding}
use Rattle.command_run.specs.declared.ending.Ending.TheVariants.{Match, Check, Show, Make, Serve, Usage, NoMemory}
use Rattle.command_line.specs.CommandLines.{PlainRequest, PlainService, IsCommandLine}
use Rattle.command_run.specs.declared.serve_ending.ServeEnding.{ServeEnding}
use Rattle.command_run.specs.ServeEndings.{EndsServe, serve_status, serve_reason}
use Rattle.command_match.specs.Tasks.{MatchTask}
use Rattle.command_run.specs.Requests.{IsMatchRequest, IsShowRequest, IsCheckRequest, IsMakeRequest, IsServeRequest}
use Rattle.flow_edges.specs.Streams.{Streams, streams}
use Rattle.flow_links.specs.Doors.{DoorState}
use Rattle.taxii_rows.specs.Keeper.{Kept}
use Rattle.taxii_server.specs.Environment.{LinkView}
use Rattle.command_run.specs.Services.{ServiceEnvironment}
use Rattle.command_reasons.specs.Reasons.{IsUnreadPattern}
use Rattle.command_match.specs.MatchEndings.{EndsMatch, match_status, IsMatchReason}
use Rattle.command_check.specs.CheckEndings.{EndsCheck, check_status, IsCheckReason}
use Rattle.command_show.specs.ShowEndings.{EndsShow, show_status, IsShowReason}
use Rattle.command_make.specs.MakeEndings.{IsTextOfLog, EndsMake, make_status, IsMakeReason}

-- the arguments are no command line
abbrev pub IsNoCommand : List (List ℕ) → Type 0
IsNoCommand arguments = (request : PlainRequest) → ¬ IsCommandLine arguments request

-- the command_environment at one moment of a run: what is left of the input, and was when its last read
-- began, and the command_environment of the server, with the output
pub record RunEnvironment (L : Type 0) : Type 0 where
  pub left : Option (List ℕ)
  pub began : Option (List ℕ)
  pub places : ServiceEnvironment L

-- the command_environment, from its observable parts
abbrev pub command_environment : {L : Type 0} → Option (List ℕ) → Option (List ℕ) → Option (List ℕ) → Option (DoorState L) → Kept → (ℕ → Option ℕ) → ℕ → RunEnvironment L
command_environment left began written door kept moments faults = record {
  left = left;
  began = began;
  places = record { door = door; kept = kept; written = written; around = record { moments = moments; faults = faults } };
}

-- the input and the output alone
abbrev pub streams_of : {L : Type 0} → RunEnvironment L → Streams
streams_of around = streams around.left around.began around.places.written

-- the arguments are `match` with that request, which ended so
pub record RunsMatch (arguments : List (List ℕ)) (before after : Streams) (ending : MatchEnding) : Type 0 where
  pub request : MatchTask
  pub command : IsMatchRequest arguments request
  pub match_ends : EndsMatch request before after ending

-- the arguments are `check`, which ended so
pub record RunsCheck (arguments : List (List ℕ)) (before after : Streams) (ending : CheckEnding) : Type 0 where
  pub command : IsCheckRequest arguments
  pub check_ends : EndsCheck before after ending

-- the arguments are `show` with a pattern, which ended so; nothing was read
pub record RunsShow (arguments : List (List ℕ)) (before after : Streams) (ending : ShowEnding) : Type 0 where
  pub pattern : List ℕ
  pub command : IsShowRequest arguments pattern
  pub show_ends : EndsShow pattern before after ending
  pub unread : after.left ≡ before.left

-- the arguments are `make` with a seed and a count, which ended so; nothing was read
pub record RunsMake (arguments : List (List ℕ)) (before after : Streams) (ending : MakeEnding) : Type 0 where
  pub seed : ℕ
  pub count : ℕ
  pub command : IsMakeRequest arguments seed count
  pub make_ends : EndsMake seed count before.written after.written ending
  pub unread : after.left ≡ before.left

-- the arguments are `serve` with a service, which ended so; nothing was read
pub record RunsServe {L : Type 0} (view : L → LinkView) (arguments : List (List ℕ)) (before after : RunEnvironment L) (ending : ServeEnding) : Type 0 where
  pub service : PlainService
  pub command : IsServeRequest arguments service
  pub serve_ends : EndsServe view service before.places after.places ending
  pub unread : after.left ≡ before.left

-- what an ending implies for the arguments and the command_environment
abbrev pub EndsRun : {L : Type 0} → (L → LinkView) → List (List ℕ) → RunEnvironment L → RunEnvironment L → Ending → Type 0
EndsRun view arguments before after (Match ending) = RunsMatch arguments (streams_of before) (streams_of after) ending
EndsRun view arguments before after (Check ending) = RunsCheck arguments (streams_of before) (streams_of after) ending
EndsRun view arguments before after (Show ending) = RunsShow arguments (streams_of before) (streams_of after) ending
EndsRun view arguments before after (Make ending) = RunsMake arguments (streams_of before) (streams_of after) ending
EndsRun view arguments before after (Serve ending) = RunsServe view arguments before after ending
EndsRun view arguments before after Usage = IsNoCommand arguments × (after ≡ before)
EndsRun view arguments before after NoMemory = after ≡ before

abbrev pub exit_status : Ending → ℕ
exit_status (Match ending) = match_status ending
exit_status (Check ending) = check_status ending
exit_status (Show ending) = show_status ending
exit_status (Make ending) = make_status ending
exit_status (Serve ending) = serve_status ending
exit_status Usage = 2
exit_status NoMemory = 1

-- what is written on the sink for reasons
abbrev pub IsReasonOf : Ending → List ℕ → Type 0
IsReasonOf (Match ending) text = IsMatchReason ending text
IsReasonOf (Check ending) text = IsCheckReason ending text
IsReasonOf (Show ending) text = IsShowReason ending text
IsReasonOf (Make ending) text = IsMakeReason ending text
IsReasonOf (Serve ending) text = text ≡ serve_reason ending
IsReasonOf Usage text = text ≡ codes "usage: stix_command (match | check | show | serve | make) WORDS\n"
IsReasonOf NoMemory text = text ≡ codes "out of memory\n"

-- the arguments are `match` with a text that is read as no pattern
pub record RefusesMatch (arguments : List (List ℕ)) : Type 0 where
  pub request : MatchTask
  pub command : IsMatchRequest arguments request
  pub none : IsUnreadPattern request.pattern

-- the arguments are `show` with a text that is read as no pattern
pub record RefusesShow (arguments : List (List ℕ)) : Type 0 where
  pub pattern : List ℕ
  pub command : IsShowRequest arguments pattern
  pub none : IsUnreadPattern pattern

-- the arguments are a command, and its pattern is refused
abbrev pub RefusesPattern : List (List ℕ) → Type 0
RefusesPattern arguments = RefusesMatch arguments ⊎ RefusesShow arguments

-- status 2 means that the arguments are no command line, and 3 that the pattern is refused; only
-- out of memory may replace them
pub record TellsRefusals (arguments : List (List ℕ)) (status : ℕ) : Type 0 where
  pub usage : status ≡ 2 → IsNoCommand arguments
  pub no_line : IsNoCommand arguments → (status ≡ 2) ⊎ (status ≡ 1)
  pub pattern : status ≡ 3 → RefusesPattern arguments
  pub refused : RefusesPattern arguments → (status ≡ 3) ⊎ (status ≡ 1)

-- the program ended with one of the endings, with its exit status and its message
pub record Ends {L : Type 0} (view : L → LinkView) (arguments : List (List ℕ)) (before after : RunEnvironment L) (status : ℕ) (Writes : List ℕ → Type 0) : Type 0 where
  pub ending : Ending
  pub status_is : status ≡ exit_status ending
  pub stands : EndsRun view arguments before after ending
  pub text : List ℕ
  pub reason_is : IsReasonOf ending text
  pub reason : Writes text
  pub refusals : TellsRefusals arguments status

-- the text is read as a pattern, the whole input as bundles, and these make a log for it: all
-- bindings of the pattern over that log are written, and nothing else
pub record ListsBindings (request : MatchTask) (before after : Streams) : Type 0 where
  pub pattern : Pattern
  pub read : IsReadAs request.pattern pattern
  pub bundles : List BundleOf
  pub reading : ReadsInput request.mode before.left bundles Whole
  pub log : List LogEntry
  pub entries : AreEntries (plain_pattern pattern) bundles log
  pub trees : List BindTree
  pub bindings : AreBindings pattern log trees
  pub text : after.written ≡ written_with (listing_text trees) before.written

-- the numbers of the generated log were written, and nothing else
abbrev pub TellsNumbers : ℕ → ℕ → Streams → Streams → Type 0
TellsNumbers seed count before after = (text : List ℕ) × IsTextOfLog seed count text × (after.written ≡ written_with text before.written)

-- what was requested was done: a `match` wrote the listing, a `make` the numbers
pub record IsCommandDone (arguments : List (List ℕ)) (before after : Streams) : Type 0 where
  pub listing : (task : MatchTask) → IsMatchRequest arguments task → ListsBindings task before after
  pub numbers : (seed count : ℕ) → IsMakeRequest arguments seed count → TellsNumbers seed count before after

-- a run with this status served no client
abbrev pub ServesNone : ℕ → Type 0
ServesNone status = (status ≢ 0) × (status ≢ 6) × (status ≢ 8)
