-- What an ending says of the arguments, of the pages that came, and of what was lost.
use Rattle.std.proofs.Common.{◌≡◌, ◌≢◌, ◌⊎◌, ◌↔◌, inl, inr, ℕ, ◌+◌, ◌-◌, ◌^◌, ◌≤◌, min, List, [], ◌∷◌, ◌++◌, length, Option, None, Some, Ok, IfSome, unwrap_or, refl, sym, ap, subst, ◌∙◌, arith}
use Rattle.std.proofs.lemmas.Bool.{cases_lt}
use Rattle.std.proofs.lemmas.List.{append-nil}
use Rattle.stix_json.specs.declared.entry.Entry.{Entry}
use Rattle.taxii_rows.specs.StoreState.{StoreState}
use Rattle.taxii_client.specs.Environment.{ClientLinkView, DialView}
use Rattle.taxii_client.specs.Pulls.{PassThroughDial, ArePagesInTurn as PagesInTurn}
use Rattle.taxii_client.specs.declared.target.Target.{Target}
use Rattle.taxii_client.specs.declared.fetch_end.FetchEnd.{FetchEnd}
use Rattle.taxii_client.specs.declared.cursor.Cursor.{Cursor}
use Rattle.taxii_client.specs.declared.cursor.Cursor.TheVariants.{First}
use Rattle.taxii_store.specs.declared.load_refusal.LoadRefusal.TheVariants as Load
use Rattle.taxii_client.specs.declared.store_refusal.StoreRefusal.TheVariants as Store
use Rattle.command_mirror.specs.declared.ending.MirrorEnding.{MirrorEnding}
use Rattle.command_mirror.specs.declared.ending.MirrorEnding.TheVariants.{Usage, Done, WriteFault, Stopped, NoMemory}
use Rattle.taxii_client.specs.declared.stop.CopyStop.{CopyStop}
use Rattle.taxii_client.specs.declared.stop.CopyStop.TheVariants.{NotLoaded, NotFetched, NotAbsorbed}
use Rattle.taxii_client.specs.declared.stop.FetchStop.TheVariants as Stop
use Rattle.taxii_client.specs.Copying.{Copying}
use Rattle.command_mirror.specs.Arguments.{AskForNoCopy}
use Rattle.taxii_client.specs.Attempts.{Attempt, AreAttemptsInTurn, undialled, links_of, lost_links, pages_of, entries_of, CountsDials}
use Rattle.taxii_client.specs.Filling.{CopyEnvironment}
use Rattle.taxii_client.specs.Endings.{Stops, StopsLost, StopsAt, StopsShort, StopsBefore, ExplainsStop, Copies}
use Rattle.taxii_client.specs.declared.totals.Totals.{Totals}
use Rattle.flow_edges.specs.Flow.{written_with, WritesPart}
use Rattle.command_mirror.specs.Summary.{mirror_summary}
use Rattle.command_mirror.specs.Endings.{EndsMirror, ConcludesCopy, AskForCopyWhere, EndsMirrorArguments, stop_status, mirror_status}
use Rattle.command_mirror.specs.Runs.{CopiesAll, LosesAll, HoldsMirrored}
use Rattle.taxii_client.proofs.AttemptLemmas.{pages_turn, all_failed, lost_counts, undialled_lost, pages_same}

abbrev no_rows : StoreState
no_rows = record { rows = []; watermark = 0 }

-- the statuses of a copy that stopped
stop_is : (stop : CopyStop) → (stop_status stop ≢ 0) × (stop_status stop ≢ 2) × (stop_status stop ≢ 6)
stop_is (NotLoaded Load.NoMemory) = (λ is. cc, λ is. cc, λ is. cc)
stop_is (NotLoaded Load.KeeperFault) = (λ is. cc, λ is. cc, λ is. cc)
stop_is (NotLoaded (Load.BadRow after)) = (λ is. cc, λ is. cc, λ is. cc)
stop_is (NotFetched Stop.LinkLost) = (λ is. cc, λ is. cc, λ is. cc)
stop_is (NotFetched (Stop.Refused refusal)) = (λ is. cc, λ is. cc, λ is. cc)
stop_is (NotFetched Stop.TooManyPages) = (λ is. cc, λ is. cc, λ is. cc)
stop_is (NotFetched Stop.NoMemory) = (λ is. cc, λ is. cc, λ is. cc)
stop_is (NotAbsorbed Store.DatesUsedUp) = (λ is. cc, λ is. cc, λ is. cc)
stop_is (NotAbsorbed Store.Fault) = (λ is. cc, λ is. cc, λ is. cc)
stop_is (NotAbsorbed Store.NoMemory) = (λ is. cc, λ is. cc, λ is. cc)

pub stop_never_six : (stop : CopyStop) → stop_status stop ≢ 6
stop_never_six stop = (stop_is stop).2

module _ (L : Type 0) (view : L → ClientLinkView) (before now : CopyEnvironment L) (written written_now : Option (List ℕ)) where
  pub no_usage : (asked : Copying) (ending : MirrorEnding) → EndsMirror view asked before now written written_now ending → mirror_status ending ≢ 2
  no_usage asked Usage ends is = absurd ends
  no_usage asked Done ends is = cc
  no_usage asked WriteFault ends is = cc
  no_usage asked (Stopped stop) ends is = (stop_is stop).1 is
  no_usage asked NoMemory ends is = cc

  pub usage_exactly : (arguments : List (List ℕ)) (ending : MirrorEnding) → EndsMirrorArguments view arguments before now written written_now ending → (mirror_status ending ≡ 2) ↔ AskForNoCopy arguments
  usage_exactly arguments ending (inl (nothing, is, same, observable)) = (λ status. nothing, λ none. ap mirror_status is)
  usage_exactly arguments ending (inr so) = (
    λ status. absurd (no_usage so.asked ending so.holds status),
    λ nothing. absurd (nothing so.asked so.arguments_ask),
  )

  -- of the ending what holds of a copy holds where the arguments ask for one
  pub of_copy : (Holds : Copying → Type 0) (arguments : List (List ℕ)) (ending : MirrorEnding) → EndsMirrorArguments view arguments before now written written_now ending
      → mirror_status ending ≢ 2 → ((asked : Copying) → EndsMirror view asked before now written written_now ending → Holds asked) → AskForCopyWhere arguments Holds
  of_copy Holds arguments ending (inl (nothing, is, same, observable)) other says = absurd (other (ap mirror_status is))
  of_copy Holds arguments ending (inr so) other says = record { asked = so.asked; arguments_ask = so.arguments_ask; holds = says so.asked so.holds }

  -- what was told at the end of a copy
  pub concluded : (asked : Copying) (totals : Totals) (ending : MirrorEnding) → Copies view asked before now (Ok totals) → ConcludesCopy totals written written_now ending
      → EndsMirror view asked before now written written_now ending
  concluded asked totals Usage copies concludes = absurd concludes
  concluded asked totals Done (copied, is) concludes = (copied, concludes ∙ ap (λ (t : Totals). written_with (mirror_summary t) written) is)
  concluded asked totals WriteFault (copied, is) concludes = (copied, subst (λ (t : Totals). WritesPart (mirror_summary t) written written_now) is concludes)
  concluded asked totals (Stopped stop) copies concludes = absurd concludes
  concluded asked totals NoMemory copies concludes = absurd concludes

  -- ---- all pages came

  pub copies_all : (asked : Copying) (ending : MirrorEnding) → mirror_status ending ≡ 0 → EndsMirror view asked before now written written_now ending
      → CopiesAll view before now written written_now asked
  copies_all asked Usage is ends = absurd ends
  copies_all asked Done is (copied, observable) =
      let stops = copied.stops in
      let turns = subst (λ (those : List (Attempt L)). AreAttemptsInTurn view asked.target First those stops.cursor) (append-nil stops.attempts) stops.in_turn in record {
        pages = pages_of stops.attempts;
        pull = subst (λ (t : Cursor). PagesInTurn view asked.target First (pages_of stops.attempts) t) copied.over (pages_turn view asked.target First stops.cursor stops.attempts turns stops.proceed);
        absorbed = stops.absorbed;
        fills = stops.fills;
        summary = observable;
      }
  copies_all asked WriteFault is ends = absurd (cc is)
  copies_all asked (Stopped stop) is ends = absurd ((stop_is stop).0 is)
  copies_all asked NoMemory is ends = absurd (cc is)

  -- ---- as many were lost as may be

  loses : (asked : Copying) → StopsLost view asked before now → LosesAll view before now asked
  loses asked lost =
      let stops = lost.stops in
      let attempts = stops.attempts in
      let turns = subst (λ (those : List (Attempt L)). AreAttemptsInTurn view asked.target First those stops.cursor) (append-nil attempts) stops.in_turn in
      let counts = subst (λ (those : List (Attempt L)). CountsDials (undialled those) before.dial.faults now.dial.faults) (append-nil attempts) stops.counts in
      let all = lost_counts attempts (undialled_lost view asked.target First stops.cursor attempts turns) in record {
        attempts = attempts;
        through = subst (λ (those : List (Attempt L)). PassThroughDial asked.target (links_of those) before.dial.observable now.dial.observable) (append-nil attempts) stops.through;
        failed = all_failed view asked.target First stops.cursor attempts turns;
        all = lost.all;
        bound = within before.dial.faults (undialled attempts) now.dial.faults (length (lost_links attempts)) asked.tries counts.rose (omega (arith, all, lost.all));
      }
    where
      within : (first undialled last links tries : ℕ) → min (first + undialled) (2 ^ 64 - 1) ≤ last → tries ≡ undialled + links
          → (2 ^ 64 - 1 ≤ last) ⊎ (first + tries ≤ last + links)
      within first undialled last links tries rose all = elim (cases_lt last (2 ^ 64 - 1)) [
        | inl below ↦ inr (omega (arith, rose, all, below))
        | inr full ↦ inl full
      ]

  pub loses_all : (asked : Copying) (ending : MirrorEnding) → mirror_status ending ≡ 5 → EndsMirror view asked before now written written_now ending
      → LosesAll view before now asked
  loses_all asked Usage is ends = absurd ends
  loses_all asked Done is ends = absurd (cc is)
  loses_all asked WriteFault is ends = absurd (cc is)
  loses_all asked (Stopped (NotLoaded Load.NoMemory)) is ends = absurd (cc is)
  loses_all asked (Stopped (NotLoaded Load.KeeperFault)) is ends = absurd (cc is)
  loses_all asked (Stopped (NotLoaded (Load.BadRow after))) is ends = absurd (cc is)
  loses_all asked (Stopped (NotFetched Stop.LinkLost)) is (lost, same) = loses asked lost
  loses_all asked (Stopped (NotFetched (Stop.Refused refusal))) is ends = absurd (cc is)
  loses_all asked (Stopped (NotFetched Stop.TooManyPages)) is ends = absurd (cc is)
  loses_all asked (Stopped (NotFetched Stop.NoMemory)) is ends = absurd (cc is)
  loses_all asked (Stopped (NotAbsorbed Store.DatesUsedUp)) is ends = absurd (cc is)
  loses_all asked (Stopped (NotAbsorbed Store.Fault)) is ends = absurd (cc is)
  loses_all asked (Stopped (NotAbsorbed Store.NoMemory)) is ends = absurd (cc is)
  loses_all asked NoMemory is ends = absurd (cc is)

  -- ---- what the keeper has

  holds_at : (asked : Copying) (status : ℕ) (last : List (Attempt L)) (left : List (List Entry)) (stops : Stops view asked before now last left)
      → pages_of (stops.attempts ++ last) ≡ pages_of stops.attempts → length left ≤ 1 → (status ≢ 1 → status ≢ 9 → status ≢ 14 → left ≡ []) → HoldsMirrored view before now status asked
  holds_at asked status last left stops same few none = record {
    attempts = stops.attempts ++ last;
    cursor = stops.cursor;
    in_turn = stops.in_turn;
    through = stops.through;
    absorbed = stops.absorbed;
    left = left;
    pages_are = ap entries_of same ∙ stops.fills.pages_are;
    few = few;
    none = none;
    first = stops.fills.first;
    loaded = stops.fills.loaded;
    last = stops.fills.last;
    mirrored = stops.fills.mirrored;
    kept = stops.fills.kept;
  }

  holds_all : (asked : Copying) (status : ℕ) (stops : Stops view asked before now [] []) → HoldsMirrored view before now status asked
  holds_all asked status stops = holds_at asked status [] [] stops (ap pages_of (append-nil stops.attempts)) (omega arith) (λ a b c. refl)

  holds_end : (asked : Copying) (status : ℕ) (end : FetchEnd) → StopsAt view asked before now end → HoldsMirrored view before now status asked
  holds_end asked status end stops = holds_at asked status (stops.last ∷ []) [] stops.stops (pages_same stops.stops.attempts stops.last end stops.ended) (omega arith) (λ a b c. refl)

  holds_short : (asked : Copying) (status : ℕ) (Why : List Entry → StoreState → Type 0) → StopsShort view asked before now Why → (status ≢ 1 → status ≢ 9 → status ≢ 14 → ⊥)
      → HoldsMirrored view before now status asked
  holds_short asked status Why stops known =
      holds_at asked status [] (stops.entries ∷ []) stops.stops (ap pages_of (append-nil stops.stops.attempts)) (omega arith) (λ a b c. absurd (known a b c))

  -- no page was asked for
  holds_none : (asked : Copying) (status : ℕ) → PassThroughDial asked.target [] before.dial.observable before.dial.observable → StopsBefore before now → HoldsMirrored view before now status asked
  holds_none asked status none stops = record {
    attempts = [];
    cursor = First;
    in_turn = refl;
    through = subst (λ (d : DialView L). PassThroughDial asked.target [] before.dial.observable d.observable) (sym stops.dial) none;
    absorbed = [];
    left = [];
    pages_are = refl;
    few = omega arith;
    none = λ a b c. refl;
    first = unwrap_or before.kept.observable no_rows;
    loaded = loaded before.kept.observable;
    last = unwrap_or before.kept.observable no_rows;
    mirrored = refl;
    kept = subst (λ (observable : Option StoreState). IfSome observable (λ state. state ≡ unwrap_or before.kept.observable no_rows)) (sym stops.rows) (kept before.kept.observable);
  }
    where
      loaded : (observable : Option StoreState) → IfSome observable (λ state. unwrap_or observable no_rows ≡ state)
      loaded None = tt
      loaded (Some state) = refl

      kept : (observable : Option StoreState) → IfSome observable (λ state. state ≡ unwrap_or observable no_rows)
      kept None = tt
      kept (Some state) = refl

  pub holds_mirrored : ((target : Target) → PassThroughDial target [] before.dial.observable before.dial.observable) → (asked : Copying) (ending : MirrorEnding)
      → EndsMirror view asked before now written written_now ending → HoldsMirrored view before now (mirror_status ending) asked
  holds_mirrored none asked Usage ends = absurd ends
  holds_mirrored none asked Done (copied, observable) = holds_all asked 0 copied.stops
  holds_mirrored none asked WriteFault (copied, observable) = holds_all asked 6 copied.stops
  holds_mirrored none asked (Stopped (NotLoaded Load.NoMemory)) (ends, observable) = holds_none asked 1 (none asked.target) ends
  holds_mirrored none asked (Stopped (NotLoaded Load.KeeperFault)) (ends, observable) = holds_none asked 9 (none asked.target) ends
  holds_mirrored none asked (Stopped (NotLoaded (Load.BadRow after))) (ends, observable) = holds_none asked 10 (none asked.target) ends.0
  holds_mirrored none asked (Stopped (NotFetched Stop.LinkLost)) (ends, observable) = holds_all asked 5 ends.stops
  holds_mirrored none asked (Stopped (NotFetched (Stop.Refused refusal))) (ends, observable) = holds_end asked 11 _ ends
  holds_mirrored none asked (Stopped (NotFetched Stop.TooManyPages)) (ends, observable) = holds_all asked 13 ends.stops
  holds_mirrored none asked (Stopped (NotFetched Stop.NoMemory)) (ends, observable) = holds_end asked 1 _ ends
  holds_mirrored none asked (Stopped (NotAbsorbed Store.DatesUsedUp)) (ends, observable) = holds_short asked 14 (ExplainsStop asked Store.DatesUsedUp) ends (λ a b c. c refl)
  holds_mirrored none asked (Stopped (NotAbsorbed Store.Fault)) (ends, observable) = holds_short asked 9 (ExplainsStop asked Store.Fault) ends (λ a b c. b refl)
  holds_mirrored none asked (Stopped (NotAbsorbed Store.NoMemory)) (ends, observable) = holds_short asked 1 (ExplainsStop asked Store.NoMemory) ends (λ a b c. a refl)
  holds_mirrored none asked NoMemory (same, observable) = holds_none asked 1 (none asked.target) (record {
    dial = ap (λ (o : CopyEnvironment L). o.dial) same;
    rows = ap (λ (o : CopyEnvironment L). o.kept.observable) same;
    moments = ap (λ (o : CopyEnvironment L). o.moments) same;
  })
