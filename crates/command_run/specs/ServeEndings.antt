-- What an ending of `serve` implies for the clients and the environment; its exit status, and its
-- message.
use Rattle.std.specs.Prelude.{◌≡◌, ◌⊎◌, ⊤, ℕ, List, [], ◌++◌, Option, IfSome, codes, decimal}
use Rattle.flow_edges.specs.Flow.{written_with, WritesPart}
use Rattle.flow_links.specs.Doors.{DoorStays}
use Rattle.taxii_rows.specs.declared.fault_cause.FaultCause.{FaultCause}
use Rattle.taxii_rows.specs.Causes.{cause_text}
use Rattle.taxii_store.specs.Loading.{IsBadAfter}
use Rattle.taxii_store.specs.declared.load_refusal.LoadRefusal.{LoadRefusal}
use Rattle.taxii_store.specs.declared.load_refusal.LoadRefusal.TheVariants as refused
use Rattle.taxii_server.specs.Environment.{LinkView}
use Rattle.taxii_server.specs.declared.served.Served.{Served}
use Rattle.taxii_server.specs.Serving.{Client, PassThroughDoor, IsWholeOf}
use Rattle.command_line.specs.CommandLines.{PlainService}
use Rattle.command_reasons.specs.Reasons.{bad_row_reason, store_fault_reason}
use Rattle.command_run.specs.declared.serve_ending.ServeEnding.{ServeEnding}
use Rattle.command_run.specs.declared.serve_ending.ServeEnding.TheVariants.{Done, NoMemory, WriteFault, DoorFault, StoreFault, BadRow}
use Rattle.command_run.specs.Services.{ServiceEnvironment, Serves}

-- connections N requests M
abbrev pub serve_summary : Served → List ℕ
serve_summary served = codes "connections " ++ (decimal served.connections ++ (codes " requests " ++ (decimal served.requests ++ codes "\n")))

-- clients were served at the port, as many as requested or as arrived
abbrev pub ServesAll : {L : Type 0} → (L → LinkView) → PlainService → ServiceEnvironment L → ServiceEnvironment L → Served → Type 0
ServesAll {L} view service before after served = (clients : List (Client L)) × Serves view service before after clients
    × PassThroughDoor service.port clients before.door after.door × IsWholeOf service.connections clients after.door served

-- clients were served at the port until the door failed, which may happen before it listens
abbrev pub ServesSome : {L : Type 0} → (L → LinkView) → PlainService → ServiceEnvironment L → ServiceEnvironment L → Type 0
ServesSome {L} view service before after = (clients : List (Client L)) × Serves view service before after clients
    × (PassThroughDoor service.port clients before.door after.door ⊎ ((clients ≡ []) × DoorStays before.door after.door))

-- no client was served, and nothing was written
pub record IsUnserved {L : Type 0} (before after : ServiceEnvironment L) : Type 0 where
  pub door : after.door ≡ before.door
  pub rows : after.kept.observable ≡ before.kept.observable
  pub written : after.written ≡ before.written

abbrev pub EndsServe : {L : Type 0} → (L → LinkView) → PlainService → ServiceEnvironment L → ServiceEnvironment L → ServeEnding → Type 0
EndsServe view service before after (Done served) =
    ServesAll view service before after served × (after.written ≡ written_with (serve_summary served) before.written)
EndsServe view service before after WriteFault =
    (served : Served) × ServesAll view service before after served × WritesPart (serve_summary served) before.written after.written
EndsServe view service before after DoorFault = ServesSome view service before after × (after.written ≡ before.written)
EndsServe view service before after NoMemory = IsUnserved before after
EndsServe view service before after (StoreFault cause) = IsUnserved before after
EndsServe view service before after (BadRow date) = IsUnserved before after × IfSome before.kept.observable (λ state. IsBadAfter state date)

-- the ending came before the door was opened
abbrev pub IsEarly : ServeEnding → Type 0
IsEarly (Done served) = ⊥
IsEarly WriteFault = ⊥
IsEarly DoorFault = ⊥
IsEarly NoMemory = ⊤
IsEarly (StoreFault cause) = ⊤
IsEarly (BadRow date) = ⊤

-- the store failed
abbrev pub IsStoreFault : ServeEnding → Type 0
IsStoreFault (StoreFault cause) = ⊤
IsStoreFault _ = ⊥

abbrev pub serve_status : ServeEnding → ℕ
serve_status (Done served) = 0
serve_status NoMemory = 1
serve_status WriteFault = 6
serve_status DoorFault = 8
serve_status (StoreFault cause) = 9
serve_status (BadRow date) = 10

abbrev pub serve_reason : ServeEnding → List ℕ
serve_reason (Done served) = []
serve_reason NoMemory = codes "out of memory\n"
serve_reason WriteFault = codes "write fault\n"
serve_reason DoorFault = codes "door fault\n"
serve_reason (StoreFault cause) = store_fault_reason (cause_text cause)
serve_reason (BadRow date) = bad_row_reason date

-- the ending for rows that cannot be loaded; `cause` is that of the keeper's last fault
abbrev pub load_ending : FaultCause → LoadRefusal → ServeEnding
load_ending cause refused.KeeperFault = StoreFault cause
load_ending cause (refused.BadRow after) = BadRow after
load_ending cause refused.NoMemory = NoMemory

-- For private clauses: what an ending says of the summary alone.
abbrev pub ConcludesServing : Served → Option (List ℕ) → Option (List ℕ) → ServeEnding → Type 0
ConcludesServing served written written_after (Done observable) = (observable ≡ served) × (written_after ≡ written_with (serve_summary served) written)
ConcludesServing served written written_after WriteFault = WritesPart (serve_summary served) written written_after
ConcludesServing served written written_after DoorFault = ⊥
ConcludesServing served written written_after NoMemory = ⊥
ConcludesServing served written written_after (StoreFault cause) = ⊥
ConcludesServing served written written_after (BadRow date) = ⊥
