-- What an ending implies for the request and the environment; its exit status, and its message.
use Rattle.std.specs.Prelude.{◌≡◌, ◌⊎◌, ℕ, List, [], codes, Option}
use Rattle.flow_edges.specs.Flow.{written_with, WritesPart}
use Rattle.taxii_client.specs.Environment.{ClientLinkView}
use Rattle.taxii_store.specs.declared.load_refusal.LoadRefusal.TheVariants as Load
use Rattle.taxii_client.specs.declared.store_refusal.StoreRefusal.TheVariants as Store
use Rattle.taxii_client.specs.Copying.{Copying}
use Rattle.taxii_client.specs.Filling.{CopyEnvironment}
use Rattle.taxii_client.specs.Totals.{totals_of}
use Rattle.taxii_client.specs.Endings.{StopsBehind, EndsCopy}
use Rattle.taxii_client.specs.declared.stop.CopyStop.{CopyStop}
use Rattle.taxii_client.specs.declared.stop.CopyStop.TheVariants.{NotLoaded, NotFetched, NotAbsorbed}
use Rattle.taxii_client.specs.declared.stop.FetchStop.TheVariants as Stop
use Rattle.taxii_client.specs.declared.totals.Totals.{Totals}
use Rattle.command_peer.specs.Refusal.{peer_reason}
use Rattle.taxii_rows.specs.declared.fault_cause.FaultCause.{FaultCause}
use Rattle.taxii_rows.specs.Causes.{cause_text}
use Rattle.command_reasons.specs.Reasons.{bad_row_reason, store_fault_reason}
use Rattle.command_mirror.specs.declared.ending.MirrorEnding.{MirrorEnding}
use Rattle.command_mirror.specs.declared.ending.MirrorEnding.TheVariants.{Usage, Done, WriteFault, Stopped, NoMemory}
use Rattle.command_mirror.specs.Arguments.{AskForCopy, AskForNoCopy}
use Rattle.command_mirror.specs.Summary.{mirror_summary}

-- what an ending implies for a copy, and for what was written
abbrev pub EndsMirror : {L : Type 0} → (L → ClientLinkView) → Copying → CopyEnvironment L → CopyEnvironment L → Option (List ℕ) → Option (List ℕ) → MirrorEnding → Type 0
EndsMirror view asked before now written written_now Usage = ⊥
EndsMirror view asked before now written written_now Done =
    (copied : StopsBehind view asked before now) × (written_now ≡ written_with (mirror_summary (totals_of copied.stops.absorbed)) written)
EndsMirror view asked before now written written_now WriteFault =
    (copied : StopsBehind view asked before now) × WritesPart (mirror_summary (totals_of copied.stops.absorbed)) written written_now
EndsMirror view asked before now written written_now (Stopped stop) = EndsCopy view asked before now stop × (written_now ≡ written)
EndsMirror view asked before now written written_now NoMemory = (now ≡ before) × (written_now ≡ written)

-- the arguments request a copy, for which this holds
pub record AskForCopyWhere (arguments : List (List ℕ)) (Holds : Copying → Type 0) : Type 0 where
  pub asked : Copying
  pub arguments_ask : AskForCopy arguments asked
  pub holds : Holds asked

-- the arguments are no command line, and that is the ending; or they request a copy, for which the
-- ending implies this
abbrev pub EndsMirrorArguments : {L : Type 0} → (L → ClientLinkView) → List (List ℕ) → CopyEnvironment L → CopyEnvironment L → Option (List ℕ) → Option (List ℕ) → MirrorEnding → Type 0
EndsMirrorArguments view arguments before now written written_now ending =
    (AskForNoCopy arguments × (ending ≡ Usage) × (now ≡ before) × (written_now ≡ written))
    ⊎ AskForCopyWhere arguments (λ asked. EndsMirror view asked before now written written_now ending)

-- ---- statuses and reasons

abbrev pub stop_status : CopyStop → ℕ
stop_status (NotLoaded Load.NoMemory) = 1
stop_status (NotFetched Stop.NoMemory) = 1
stop_status (NotAbsorbed Store.NoMemory) = 1
stop_status (NotFetched Stop.LinkLost) = 5
stop_status (NotLoaded Load.KeeperFault) = 9
stop_status (NotAbsorbed Store.Fault) = 9
stop_status (NotLoaded (Load.BadRow after)) = 10
stop_status (NotFetched (Stop.Refused refusal)) = 11
stop_status (NotFetched Stop.TooManyPages) = 13
stop_status (NotAbsorbed Store.DatesUsedUp) = 14

abbrev pub mirror_status : MirrorEnding → ℕ
mirror_status Done = 0
mirror_status NoMemory = 1
mirror_status Usage = 2
mirror_status WriteFault = 6
mirror_status (Stopped stop) = stop_status stop

-- `cause` is the cause of the keeper's last fault, if any
abbrev pub stop_reason : FaultCause → CopyStop → List ℕ
stop_reason cause (NotLoaded Load.NoMemory) = codes "out of memory\n"
stop_reason cause (NotFetched Stop.NoMemory) = codes "out of memory\n"
stop_reason cause (NotAbsorbed Store.NoMemory) = codes "out of memory\n"
stop_reason cause (NotFetched Stop.LinkLost) = codes "link lost\n"
stop_reason cause (NotLoaded Load.KeeperFault) = store_fault_reason (cause_text cause)
stop_reason cause (NotAbsorbed Store.Fault) = store_fault_reason (cause_text cause)
stop_reason cause (NotLoaded (Load.BadRow after)) = bad_row_reason after
stop_reason cause (NotFetched (Stop.Refused refusal)) = peer_reason refusal
stop_reason cause (NotFetched Stop.TooManyPages) = codes "too many pages\n"
stop_reason cause (NotAbsorbed Store.DatesUsedUp) = codes "date range is used up\n"

abbrev pub mirror_reason : FaultCause → MirrorEnding → List ℕ
mirror_reason cause Done = []
mirror_reason cause NoMemory = codes "out of memory\n"
mirror_reason cause Usage = codes "usage: stix_mirror HOST PORT ROOT COLLECTION FILE TRIES [--since TIME]\n"
mirror_reason cause WriteFault = codes "write fault\n"
mirror_reason cause (Stopped stop) = stop_reason cause stop

-- For private clauses: what the end of a copy says of what was written alone.
abbrev pub ConcludesCopy : Totals → Option (List ℕ) → Option (List ℕ) → MirrorEnding → Type 0
ConcludesCopy totals written written_now Usage = ⊥
ConcludesCopy totals written written_now Done = written_now ≡ written_with (mirror_summary totals) written
ConcludesCopy totals written written_now WriteFault = WritesPart (mirror_summary totals) written written_now
ConcludesCopy totals written written_now (Stopped stop) = ⊥
ConcludesCopy totals written written_now NoMemory = ⊥
