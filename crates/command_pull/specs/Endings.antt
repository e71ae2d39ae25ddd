-- What an ending implies for the request and the environment; its exit status, and its message.
use Rattle.std.specs.Prelude.{◌≡◌, ◌≢◌, ◌⊎◌, ℕ, zero, suc, List, [], ◌++◌, codes, decimal, length}
use Rattle.match_run.specs.declared.cut_short.CutShort.TheVariants as Cut
use Rattle.taxii_client.specs.Environment.{ClientLinkView}
use Rattle.taxii_client.specs.Pulls.{Page}
use Rattle.taxii_client.specs.declared.fetch_end.FetchEnd.TheVariants as Fetch
use Rattle.taxii_client.specs.declared.page_end.PageEnd.TheVariants as End
use Rattle.taxii_client.specs.declared.pull.TheConstants.{MAX_PAGES}
use Rattle.taxii_client.specs.declared.target.Target.{Target}
use Rattle.taxii_client.specs.declared.cursor.Cursor.{Cursor}
use Rattle.taxii_client.specs.declared.cursor.Cursor.TheVariants.{Over}
use Rattle.command_peer.specs.Refusal.{peer_reason}
use Rattle.command_pull.specs.declared.ending.PullEnding.{PullEnding}
use Rattle.command_pull.specs.declared.ending.PullEnding.TheVariants.{Usage, Done, Lost, CutShort, NoMemory}
use Rattle.command_pull.specs.declared.ending.PullEnd.{PullEnd}
use Rattle.command_pull.specs.Arguments.{AskForPull, AskForNoPull}
use Rattle.command_pull.specs.Pulling.{PullEnvironment, StopsAsking, StopsBehind, StopsWriting}

-- the last page had no more after it
abbrev pub AreAllPages : {L : Type 0} → List (Page L) → Cursor → Type 0
AreAllPages pages cursor = cursor ≡ Over

-- as many pages arrived as a walk may have, and the last had more after it
abbrev pub AreTooFew : {L : Type 0} → List (Page L) → Cursor → Type 0
AreTooFew pages cursor = (length pages ≡ MAX_PAGES) × (cursor ≢ Over)

-- what an ending implies for the pages of a target
abbrev pub EndsPull : {L : Type 0} → (L → ClientLinkView) → Target → PullEnvironment L → PullEnvironment L → ℕ → PullEnding → Type 0
EndsPull view target before now skipped Usage = ⊥
EndsPull view target before now skipped Done = StopsBehind view target before now AreAllPages skipped
EndsPull view target before now skipped (Lost End.Fault) = StopsAsking view target before now Fetch.Fault skipped
EndsPull view target before now skipped (Lost End.Cut) = StopsAsking view target before now Fetch.Cut skipped
EndsPull view target before now skipped (Lost (End.Refused refusal)) = StopsAsking view target before now (Fetch.Refused refusal) skipped
EndsPull view target before now skipped (Lost End.TooManyPages) = StopsBehind view target before now AreTooFew skipped
EndsPull view target before now skipped (Lost End.NoMemory) = StopsAsking view target before now Fetch.NoMemory skipped
EndsPull view target before now skipped (CutShort short) = StopsWriting view target before now skipped
EndsPull view target before now skipped NoMemory = (skipped ≡ 0) × (now ≡ before)

-- the arguments request a collection of a target, for whose pages this holds
pub record AskForPullWhere (arguments : List (List ℕ)) (Holds : Target → Type 0) : Type 0 where
  pub target : Target
  pub asked : AskForPull arguments target
  pub holds : Holds target

-- the arguments are no command line, and that is the ending; or they request a collection, for
-- which the ending implies this
abbrev pub EndsPullArguments : {L : Type 0} → (L → ClientLinkView) → List (List ℕ) → PullEnvironment L → PullEnvironment L → PullEnd → Type 0
EndsPullArguments view arguments before now end =
    (AskForNoPull arguments × (end ≡ record { skipped = 0; ending = Usage }) × (now ≡ before))
    ⊎ AskForPullWhere arguments (λ target. EndsPull view target before now end.skipped end.ending)

abbrev pub pull_status : PullEnding → ℕ
pull_status Done = 0
pull_status (Lost End.NoMemory) = 1
pull_status (CutShort Cut.NoMemory) = 1
pull_status NoMemory = 1
pull_status Usage = 2
pull_status (Lost End.Fault) = 5
pull_status (CutShort Cut.WriteFault) = 6
pull_status (Lost (End.Refused refusal)) = 11
pull_status (Lost End.Cut) = 12
pull_status (Lost End.TooManyPages) = 13

abbrev pub pull_reason : PullEnding → List ℕ
pull_reason Done = []
pull_reason (Lost End.NoMemory) = codes "out of memory\n"
pull_reason (CutShort Cut.NoMemory) = codes "out of memory\n"
pull_reason NoMemory = codes "out of memory\n"
pull_reason Usage = codes "usage: stix_pull HOST PORT ROOT COLLECTION [LIMIT]\n"
pull_reason (Lost End.Fault) = codes "link fault\n"
pull_reason (CutShort Cut.WriteFault) = codes "write fault\n"
pull_reason (Lost (End.Refused refusal)) = peer_reason refusal
pull_reason (Lost End.Cut) = codes "reply cut\n"
pull_reason (Lost End.TooManyPages) = codes "too many pages\n"

-- how many entries were skipped, where some were
abbrev pub skipped_count_text : ℕ → List ℕ
skipped_count_text zero = []
skipped_count_text (suc n) = codes "skipped " ++ (decimal (suc n) ++ codes "\n")

-- and then why the run ended so
abbrev pub end_reason : PullEnd → List ℕ
end_reason end = skipped_count_text end.skipped ++ pull_reason end.ending
