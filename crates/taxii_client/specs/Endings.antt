-- How a copy ends, and what then holds.
use Rattle.std.specs.Prelude.{◌≡◌, ◌≢◌, ◌<◌, ℕ, List, [], ◌∷◌, ◌++◌, length, All, Bool, true, false, Result, Ok, Err, IfSome}
use Rattle.stix_json.specs.declared.entry.Entry.{Entry}
use Rattle.taxii_rows.specs.StoreState.{StoreState}
use Rattle.taxii_client.specs.Environment.{ClientLinkView}
use Rattle.taxii_client.specs.Pulls.{PassThroughDial}
use Rattle.taxii_client.specs.declared.fetch_end.FetchEnd.{FetchEnd}
use Rattle.taxii_client.specs.declared.fetch_end.FetchEnd.TheVariants as Fetch
use Rattle.taxii_client.specs.declared.pull.TheConstants.{MAX_PAGES}
use Rattle.taxii_client.specs.declared.cursor.Cursor.{Cursor}
use Rattle.taxii_client.specs.declared.cursor.Cursor.TheVariants.{First, Over}
use Rattle.taxii_store.specs.Loading.{IsBadAfter}
use Rattle.taxii_store.specs.declared.load_refusal.LoadRefusal.{LoadRefusal}
use Rattle.taxii_store.specs.declared.load_refusal.LoadRefusal.TheVariants as Load
use Rattle.taxii_client.specs.Absorbing.{Absorbed, LacksDatesForPage}
use Rattle.taxii_client.specs.declared.store_refusal.StoreRefusal.{StoreRefusal}
use Rattle.taxii_client.specs.declared.store_refusal.StoreRefusal.TheVariants as Store
use Rattle.taxii_client.specs.declared.stop.CopyStop.{CopyStop}
use Rattle.taxii_client.specs.declared.stop.CopyStop.TheVariants.{NotLoaded, NotFetched, NotAbsorbed}
use Rattle.taxii_client.specs.declared.stop.FetchStop.{FetchStop}
use Rattle.taxii_client.specs.declared.stop.FetchStop.TheVariants as Stop
use Rattle.taxii_client.specs.Copying.{Copying}
use Rattle.taxii_client.specs.Attempts.{Attempt, AreAttemptsInTurn, AllowsNextAttempt, losses, undialled, links_of, pages_of, entries_of, CountsDials}
use Rattle.taxii_client.specs.Filling.{CopyEnvironment, Fills}
use Rattle.taxii_client.specs.Totals.{totals_of}
use Rattle.taxii_client.specs.declared.totals.Totals.{Totals}

-- ---- where a run stops

-- attempts were made, each over a new link that was dialled at the host and port and returned, as
-- far as the dial is observable. After each but the last one another may follow. The pages that
-- arrived were absorbed, except those in `left`
pub record Stops {L : Type 0} (view : L → ClientLinkView) (asked : Copying) (before now : CopyEnvironment L) (last : List (Attempt L)) (left : List (List Entry)) : Type 0 where
  pub attempts : List (Attempt L)
  pub proceed : All AllowsNextAttempt attempts
  pub cursor : Cursor
  pub in_turn : AreAttemptsInTurn view asked.target First (attempts ++ last) cursor
  pub through : PassThroughDial asked.target (links_of (attempts ++ last)) before.dial.observable now.dial.observable
  pub counts : CountsDials (undialled (attempts ++ last)) before.dial.faults now.dial.faults
  pub absorbed : List Absorbed
  pub fills : Fills asked before now (entries_of (pages_of attempts)) left absorbed

-- all pages arrived and were absorbed, and fewer attempts were lost than may be
pub record StopsBehind {L : Type 0} (view : L → ClientLinkView) (asked : Copying) (before now : CopyEnvironment L) : Type 0 where
  pub stops : Stops view asked before now [] []
  pub over : stops.cursor ≡ Over
  pub few : losses stops.attempts < asked.tries

-- the allowed number of attempts were lost, and the page was to be requested again
pub record StopsLost {L : Type 0} (view : L → ClientLinkView) (asked : Copying) (before now : CopyEnvironment L) : Type 0 where
  pub stops : Stops view asked before now [] []
  pub wants : stops.cursor ≢ Over
  pub all : losses stops.attempts ≡ asked.tries

-- as many pages arrived as a walk may have, and the last had more after it
pub record StopsFull {L : Type 0} (view : L → ClientLinkView) (asked : Copying) (before now : CopyEnvironment L) : Type 0 where
  pub stops : Stops view asked before now [] []
  pub full : length (pages_of stops.attempts) ≡ MAX_PAGES
  pub wants : stops.cursor ≢ Over
  pub few : losses stops.attempts < asked.tries

-- the last attempt ended so, which was no loss
pub record StopsAt {L : Type 0} (view : L → ClientLinkView) (asked : Copying) (before now : CopyEnvironment L) (end : FetchEnd) : Type 0 where
  pub last : Attempt L
  pub ended : last.answer ≡ Err end
  pub stops : Stops view asked before now (last ∷ []) []
  pub few : losses stops.attempts < asked.tries

-- a page arrived that was not absorbed
pub record StopsShort {L : Type 0} (view : L → ClientLinkView) (asked : Copying) (before now : CopyEnvironment L) (Why : List Entry → StoreState → Type 0) : Type 0 where
  pub entries : List Entry
  pub stops : Stops view asked before now [] (entries ∷ [])
  pub why : Why entries stops.fills.last
  pub few : losses stops.attempts < asked.tries

-- no page was requested
pub record StopsBefore {L : Type 0} (before now : CopyEnvironment L) : Type 0 where
  pub dial : now.dial ≡ before.dial
  pub rows : now.kept.observable ≡ before.kept.observable
  pub moments : now.moments ≡ before.moments

-- ---- what an ending says

abbrev pub EndsFetching : {L : Type 0} → (L → ClientLinkView) → Copying → CopyEnvironment L → CopyEnvironment L → FetchStop → Type 0
EndsFetching view asked before now Stop.LinkLost = StopsLost view asked before now
EndsFetching view asked before now (Stop.Refused refusal) = StopsAt view asked before now (Fetch.Refused refusal)
EndsFetching view asked before now Stop.TooManyPages = StopsFull view asked before now
EndsFetching view asked before now Stop.NoMemory = StopsAt view asked before now Fetch.NoMemory

abbrev pub EndsLoading : {L : Type 0} → CopyEnvironment L → CopyEnvironment L → LoadRefusal → Type 0
EndsLoading before now Load.KeeperFault = StopsBefore before now
EndsLoading before now (Load.BadRow after) = StopsBefore before now × IfSome before.kept.observable (λ state. IsBadAfter state after)
EndsLoading before now Load.NoMemory = StopsBefore before now

-- why a page was not absorbed: too few dates are left; the others say nothing of the page
abbrev pub ExplainsStop : Copying → StoreRefusal → List Entry → StoreState → Type 0
ExplainsStop asked refusal entries store = refusal ≡ Store.DatesUsedUp → LacksDatesForPage asked.target.collection entries store

-- what holds for a copy that stopped before all pages were absorbed
abbrev pub EndsCopy : {L : Type 0} → (L → ClientLinkView) → Copying → CopyEnvironment L → CopyEnvironment L → CopyStop → Type 0
EndsCopy view asked before now (NotLoaded refusal) = EndsLoading before now refusal
EndsCopy view asked before now (NotFetched stop) = EndsFetching view asked before now stop
EndsCopy view asked before now (NotAbsorbed refusal) = StopsShort view asked before now (ExplainsStop asked refusal)

-- all pages were absorbed, as the totals say, or why not
abbrev pub Copies : {L : Type 0} → (L → ClientLinkView) → Copying → CopyEnvironment L → CopyEnvironment L → Result Totals CopyStop → Type 0
Copies view asked before now (Ok totals) = (copied : StopsBehind view asked before now) × (totals ≡ totals_of copied.stops.absorbed)
Copies view asked before now (Err stop) = EndsCopy view asked before now stop

-- the copy ended because the keeper failed
abbrev pub is_store_fault : CopyStop → Bool
is_store_fault (NotLoaded Load.KeeperFault) = true
is_store_fault (NotLoaded (Load.BadRow after)) = false
is_store_fault (NotLoaded Load.NoMemory) = false
is_store_fault (NotFetched stop) = false
is_store_fault (NotAbsorbed Store.Fault) = true
is_store_fault (NotAbsorbed Store.DatesUsedUp) = false
is_store_fault (NotAbsorbed Store.NoMemory) = false
