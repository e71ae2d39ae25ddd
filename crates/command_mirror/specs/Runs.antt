-- What holds when the program has ended, by its status.
use Rattle.std.specs.Prelude.{◌≡◌, ◌≢◌, ◌⊎◌, ℕ, ◌+◌, ◌-◌, ◌^◌, ◌≤◌, List, [], ◌++◌, length, map, All, Option, IfSome}
use Rattle.flow_edges.specs.Flow.{written_with}
use Rattle.stix_json.specs.declared.entry.Entry.{Entry}
use Rattle.taxii_rows.specs.declared.fault_cause.FaultCause.{FaultCause}
use Rattle.taxii_rows.specs.StoreState.{StoreState}
use Rattle.taxii_client.specs.Environment.{ClientLinkView}
use Rattle.taxii_client.specs.Pulls.{Page, PassThroughDial, IsPull}
use Rattle.taxii_client.specs.declared.cursor.Cursor.{Cursor}
use Rattle.taxii_client.specs.declared.cursor.Cursor.TheVariants.{First, Over}
use Rattle.taxii_client.specs.Absorbing.{Absorbed}
use Rattle.taxii_client.specs.Mirrored.{Mirrored}
use Rattle.command_mirror.specs.declared.ending.MirrorEnding.{MirrorEnding}
use Rattle.taxii_client.specs.Copying.{Copying}
use Rattle.taxii_client.specs.Attempts.{Attempt, AreAttemptsInTurn, losses, links_of, lost_links, pages_of, entries_of, LinkFailed}
use Rattle.taxii_client.specs.Filling.{CopyEnvironment, Fills}
use Rattle.taxii_client.specs.Totals.{totals_of}
use Rattle.command_mirror.specs.Summary.{mirror_summary}
use Rattle.command_mirror.specs.Endings.{EndsMirrorArguments, mirror_status, mirror_reason}

-- the program ended with one of the endings, with its exit status and its message; `cause` is why
-- the keeper failed, if it did
pub record Ends {L : Type 0} (view : L → ClientLinkView) (arguments : List (List ℕ)) (before now : CopyEnvironment L) (written written_now : Option (List ℕ)) (status : ℕ)
    (cause : FaultCause) (Writes : List ℕ → Type 0) : Type 0 where
  pub ending : MirrorEnding
  pub status_is : status ≡ mirror_status ending
  pub stands : EndsMirrorArguments view arguments before now written written_now ending
  pub reason : Writes (mirror_reason cause ending)

-- the pages received are a complete pull of the request, all were absorbed, and their summary was
-- written
pub record CopiesAll {L : Type 0} (view : L → ClientLinkView) (before now : CopyEnvironment L) (written written_now : Option (List ℕ)) (asked : Copying) : Type 0 where
  pub pages : List (Page L)
  pub pull : IsPull view asked.target pages Over
  pub absorbed : List Absorbed
  pub fills : Fills asked before now (entries_of pages) [] absorbed
  pub summary : written_now ≡ written_with (mirror_summary (totals_of absorbed)) written

-- the allowed number of attempts were lost. Each was lost by a link that failed or whose bytes
-- ended inside its response, or by the dial, whose count increased by the number of those. That is
-- known of a count only below its maximum
pub record LosesAll {L : Type 0} (view : L → ClientLinkView) (before now : CopyEnvironment L) (asked : Copying) : Type 0 where
  pub attempts : List (Attempt L)
  pub through : PassThroughDial asked.target (links_of attempts) before.dial.observable now.dial.observable
  pub failed : All (LinkFailed view) (lost_links attempts)
  pub all : losses attempts ≡ asked.tries
  pub bound : (2 ^ 64 - 1 ≤ now.dial.faults) ⊎ (before.dial.faults + asked.tries ≤ now.dial.faults + length (lost_links attempts))

-- the keeper's rows are what the pages of all responses, in order, make of its earlier rows; with
-- status 9 or 14 perhaps without the last page, and with 1 with it or without it
pub record HoldsMirrored {L : Type 0} (view : L → ClientLinkView) (before now : CopyEnvironment L) (status : ℕ) (asked : Copying) : Type 0 where
  pub attempts : List (Attempt L)
  pub cursor : Cursor
  pub in_turn : AreAttemptsInTurn view asked.target First attempts cursor
  pub through : PassThroughDial asked.target (links_of attempts) before.dial.observable now.dial.observable
  pub absorbed : List Absorbed
  pub left : List (List Entry)
  pub pages_are : entries_of (pages_of attempts) ≡ map (λ page. page.entries) absorbed ++ left
  pub few : length left ≤ 1
  pub none : status ≢ 1 → status ≢ 9 → status ≢ 14 → left ≡ []
  pub first : StoreState
  pub loaded : IfSome before.kept.observable (λ state. first ≡ state)
  pub last : StoreState
  pub mirrored : Mirrored asked.target.collection first absorbed last
  pub kept : IfSome now.kept.observable (λ state. state ≡ last)
