-- A walk over the pages of a peer's collection, with a new link per page; each page gives the
-- cursor of the next one.
use Rattle.std.specs.Prelude.{◌≡◌, ◌≢◌, ◌⊎◌, ℕ, ◌+◌, ◌<◌, ◌≤◌, Bool, true, false, List, [], ◌∷◌, ◌++◌, map, Option, Some, None, Result, Ok, Err}
use Rattle.flow_edges.specs.Faults.{HasIncreased}
use Rattle.flow_links.specs.Doors.{Changes}
use Rattle.flow_links.specs.Dials.{DialState}
use Rattle.stix_json.specs.declared.entry.Entry.{Entry}
use Rattle.stix_json.specs.declared.envelope.Envelope.{Envelope}
use Rattle.taxii_client.specs.declared.target.Target.{Target}
use Rattle.taxii_client.specs.declared.fetch_end.FetchEnd.{FetchEnd}
use Rattle.taxii_client.specs.declared.fetch_end.FetchEnd.TheVariants as Fetch
use Rattle.taxii_client.specs.declared.page_end.PageEnd.{PageEnd}
use Rattle.taxii_client.specs.declared.page_end.PageEnd.TheVariants.{Fault, Cut, Refused, TooManyPages, NoMemory}
use Rattle.taxii_client.specs.declared.cursor.Cursor.{Cursor}
use Rattle.taxii_client.specs.declared.cursor.Cursor.TheVariants.{First, Resume, Over}
use Rattle.taxii_client.specs.declared.pull.TheConstants.{MAX_PAGES}
use Rattle.taxii_client.specs.Environment.{ClientLinkView, DialView}
use Rattle.taxii_client.specs.Fetches.{Fetched}

-- ---- turns

-- the `next` requested at a cursor: none for the first page, that of the page before for the
-- others; at the end there is no request
abbrev pub RequestsNext : Cursor → Option (List ℕ) → Type 0
RequestsNext First next = next ≡ None
RequestsNext (Resume text) next = next ≡ Some text
RequestsNext Over next = ⊥

-- the cursor after a page, from `more` and `next`
abbrev pub cursor_of : Bool → Option (List ℕ) → Cursor
cursor_of true (Some next) = Resume next
cursor_of true None = Over
cursor_of false next = Over

abbrev pub cursor_after : Envelope → Cursor
cursor_after envelope = cursor_of envelope.more envelope.next

-- ---- links

-- a link that the dial gave and that was returned to it
pub record Lent (L : Type 0) : Type 0 where
  pub given : L
  pub finished : L

-- these links were dialled at the target's host and port, given and returned, in order, as far as
-- the dial is observable
abbrev pub PassThroughDial : {L : Type 0} → Target → List (Lent L) → Option (DialState L) → Option (DialState L) → Type 0
PassThroughDial target links before now = Changes (λ state after.
    (state.coming ≡ map (λ link. link.given) links ++ after.coming)
    × (after.finished ≡ state.finished ++ map (λ link. link.finished) links)
    × (after.dials ≡ state.dials ++ map (λ link. record { host = target.host; port = target.port }) links)
    × (after.given ≡ state.given)) before now

-- ---- one page

-- a page that arrived: the link that it came over, and its envelope
pub record Page (L : Type 0) : Type 0 where
  pub link : Lent L
  pub envelope : Envelope

-- the page at the cursor was requested, and arrived completely over its link
pub record IsPageAt {L : Type 0} (view : L → ClientLinkView) (target : Target) (cursor : Cursor) (page : Page L) : Type 0 where
  pub next : Option (List ℕ)
  pub asks : RequestsNext cursor next
  pub fetched : Fetched target next (view page.link.given) (view page.link.finished) (Ok page.envelope)

-- pages in order, from one cursor to another
abbrev pub ArePagesInTurn : {L : Type 0} → (L → ClientLinkView) → Target → Cursor → List (Page L) → Cursor → Type 0
ArePagesInTurn view target cursor [] after = after ≡ cursor
ArePagesInTurn view target cursor (page ∷ pages) after = IsPageAt view target cursor page × ArePagesInTurn view target (cursor_after page.envelope) pages after

-- a pull: pages in order from the first one on. It is complete if its cursor is at the end
abbrev pub IsPull : {L : Type 0} → (L → ClientLinkView) → Target → List (Page L) → Cursor → Type 0
IsPull view target pages cursor = ArePagesInTurn view target First pages cursor

-- ---- what one call does

-- the model of a pull: its target, its cursor, and the number of pages received
pub record PullState : Type 0 where
  pub target : Target
  pub cursor : Cursor
  pub pages : ℕ

-- a link was dialled, fetched over and returned
pub record FetchesOver {L : Type 0} (view : L → ClientLinkView) (target : Target) (next : Option (List ℕ)) (dial now : DialView L) (answer : Result Envelope FetchEnd) : Type 0 where
  pub link : Lent L
  pub fetched : Fetched target next (view link.given) (view link.finished) answer
  pub through : PassThroughDial target (link ∷ []) dial.observable now.observable
  pub quiet : now.faults ≡ dial.faults

-- the dial gave no link, and counted that
pub record FailsToDial {L : Type 0} (dial now : DialView L) (answer : Result Envelope FetchEnd) : Type 0 where
  pub same : now.observable ≡ dial.observable
  pub later : dial.faults ≤ now.faults
  pub rose : HasIncreased dial.faults now.faults
  pub fault : answer ≡ Err Fetch.Fault

-- a fetch over a link that was dialled for it, or no link
abbrev pub Dials : {L : Type 0} → (L → ClientLinkView) → Target → Option (List ℕ) → DialView L → DialView L → Result Envelope FetchEnd → Type 0
Dials view target next dial now answer = FetchesOver view target next dial now answer ⊎ FailsToDial dial now answer

-- a page was requested at the cursor
pub record AsksFor {L : Type 0} (view : L → ClientLinkView) (before : PullState) (dial now : DialView L) (answer : Result Envelope FetchEnd) : Type 0 where
  pub few : before.pages < MAX_PAGES
  pub next : Option (List ℕ)
  pub asks : RequestsNext before.cursor next
  pub dials : Dials view before.target next dial now answer

-- a page arrived, and the walk continues after it
pub record GivesPage {L : Type 0} (view : L → ClientLinkView) (before after : PullState) (dial now : DialView L) (entries : List Entry) : Type 0 where
  pub envelope : Envelope
  pub asks : AsksFor view before dial now (Ok envelope)
  pub entries_are : entries ≡ envelope.entries
  pub after_is : after ≡ record { target = before.target; cursor = cursor_after envelope; pages = before.pages + 1 }

-- a page did not arrive, and the cursor is unchanged
abbrev pub LosesPage : {L : Type 0} → (L → ClientLinkView) → PullState → PullState → DialView L → DialView L → FetchEnd → Type 0
LosesPage view before after dial now end = AsksFor view before dial now (Err end) × (after ≡ before)

-- nothing was requested, and nothing changed
abbrev pub Rests : {L : Type 0} → PullState → PullState → DialView L → DialView L → Type 0
Rests before after dial now = (after ≡ before) × (now ≡ dial)

-- what the call for the next page did, by its answer
abbrev pub Answers : {L : Type 0} → (L → ClientLinkView) → PullState → PullState → DialView L → DialView L → Result (Option (List Entry)) PageEnd → Type 0
Answers view before after dial now (Ok None) = (before.cursor ≡ Over) × Rests before after dial now
Answers view before after dial now (Ok (Some entries)) = GivesPage view before after dial now entries
Answers view before after dial now (Err Fault) = LosesPage view before after dial now Fetch.Fault
Answers view before after dial now (Err Cut) = LosesPage view before after dial now Fetch.Cut
Answers view before after dial now (Err (Refused refusal)) = LosesPage view before after dial now (Fetch.Refused refusal)
Answers view before after dial now (Err TooManyPages) = (before.pages ≡ MAX_PAGES) × (before.cursor ≢ Over) × Rests before after dial now
Answers view before after dial now (Err NoMemory) = LosesPage view before after dial now Fetch.NoMemory
