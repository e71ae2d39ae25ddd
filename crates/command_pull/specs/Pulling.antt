-- The effects of a run: the pages received, the link over which the next one did not arrive, and
-- the output.
use Rattle.std.specs.Prelude.{◌≡◌, ℕ, ◌≤◌, List, [], ◌∷◌, ◌++◌, map, Option, Err}
use Rattle.flow_edges.specs.Faults.{HasIncreased}
use Rattle.flow_edges.specs.Flow.{written_with, WritesPrefix}
use Rattle.flow_links.specs.Dials.{DialState}
use Rattle.taxii_client.specs.Environment.{ClientLinkView, DialView}
use Rattle.taxii_client.specs.Fetches.{Fetched}
use Rattle.taxii_client.specs.Pulls.{RequestsNext, Lent, Page, PassThroughDial, IsPull}
use Rattle.taxii_client.specs.declared.fetch_end.FetchEnd.{FetchEnd}
use Rattle.taxii_client.specs.declared.fetch_end.FetchEnd.TheVariants as Fetch
use Rattle.taxii_client.specs.declared.target.Target.{Target}
use Rattle.taxii_client.specs.declared.cursor.Cursor.{Cursor}
use Rattle.taxii_client.specs.Telling.{told_of_pages, bad_in_pages}

-- the pull_environment of a run: its dial, and its output
pub record PullEnvironment (L : Type 0) : Type 0 where
  pub dial : DialView L
  pub written : Option (List ℕ)

-- the pull_environment, from its observable parts
abbrev pub pull_environment : {L : Type 0} → Option (DialState L) → ℕ → Option (List ℕ) → PullEnvironment L
pull_environment observable faults written = record { dial = record { observable = observable; faults = faults }; written = written }

abbrev pub page_links : {L : Type 0} → List (Page L) → List (Lent L)
page_links pages = map (λ page. page.link) pages

-- these pages of a pull were received, so that this cursor is next and this many entries were
-- skipped; their links and these further ones were dialled and returned
pub record Pulls {L : Type 0} (view : L → ClientLinkView) (target : Target) (before now : PullEnvironment L) (pages : List (Page L)) (cursor : Cursor)
    (more : List (Lent L)) (skipped : ℕ) : Type 0 where
  pub pull : IsPull view target pages cursor
  pub through : PassThroughDial target (page_links pages ++ more) before.dial.observable now.dial.observable
  pub skipped_is : skipped ≡ bad_in_pages pages

-- the valid entries of the pages were written
abbrev pub WritesPages : {L : Type 0} → List (Page L) → PullEnvironment L → PullEnvironment L → Type 0
WritesPages pages before now = now.written ≡ written_with (told_of_pages pages) before.written

-- the dial counted no fault
abbrev pub DialIsQuiet : {L : Type 0} → PullEnvironment L → PullEnvironment L → Type 0
DialIsQuiet before now = now.dial.faults ≡ before.dial.faults

-- the page at this cursor did not arrive: the dial gave no link and counted that, or the fetch over
-- one link ended this way
abbrev pub LosesPageAt : {L : Type 0} → (L → ClientLinkView) → Target → PullEnvironment L → PullEnvironment L → Cursor → FetchEnd → List (Lent L) → Type 0
LosesPageAt view target before now cursor end [] = (end ≡ Fetch.Fault) × (before.dial.faults ≤ now.dial.faults) × HasIncreased before.dial.faults now.dial.faults
LosesPageAt view target before now cursor end (link ∷ []) = DialIsQuiet before now
    × (next : Option (List ℕ)) × RequestsNext cursor next × Fetched target next (view link.given) (view link.finished) (Err end)
LosesPageAt view target before now cursor end (link ∷ other ∷ links) = ⊥

-- pages arrived and were written, up to one that did not arrive
pub record StopsAsking {L : Type 0} (view : L → ClientLinkView) (target : Target) (before now : PullEnvironment L) (end : FetchEnd) (skipped : ℕ) : Type 0 where
  pub pages : List (Page L)
  pub cursor : Cursor
  pub lost : List (Lent L)
  pub pulls : Pulls view target before now pages cursor lost skipped
  pub loses : LosesPageAt view target before now cursor end lost
  pub writes : WritesPages pages before now

-- pages arrived and were written, and then no page was requested
pub record StopsBehind {L : Type 0} (view : L → ClientLinkView) (target : Target) (before now : PullEnvironment L) (AreLast : List (Page L) → Cursor → Type 0) (skipped : ℕ) : Type 0 where
  pub pages : List (Page L)
  pub cursor : Cursor
  pub last : AreLast pages cursor
  pub pulls : Pulls view target before now pages cursor [] skipped
  pub quiet : DialIsQuiet before now
  pub writes : WritesPages pages before now

-- pages arrived, and of what is to be written of them a prefix was
pub record StopsWriting {L : Type 0} (view : L → ClientLinkView) (target : Target) (before now : PullEnvironment L) (skipped : ℕ) : Type 0 where
  pub pages : List (Page L)
  pub cursor : Cursor
  pub pulls : Pulls view target before now pages cursor [] skipped
  pub quiet : DialIsQuiet before now
  pub part : WritesPrefix (told_of_pages pages) before.written now.written
