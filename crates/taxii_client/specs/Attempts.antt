-- Attempts at the pages of a peer's collection: each page is requested over a new link until it
-- arrives.
use Rattle.std.specs.Prelude.{◌≡◌, ◌⊎◌, ℕ, ◌+◌, ◌-◌, ◌^◌, ◌≤◌, min, Bool, true, false, List, [], ◌∷◌, map, filter, filter_map, count_by, is_none, Option, Some, None, MatchOption, Result, Ok, Err}
use Rattle.flow_edges.specs.Flow.{IsAtEnd}
use Rattle.http_messages.specs.Replies.{IsCutReply, TakesFromLink}
use Rattle.stix_json.specs.declared.entry.Entry.{Entry}
use Rattle.stix_json.specs.declared.envelope.Envelope.{Envelope}
use Rattle.taxii_client.specs.Environment.{ClientLinkView, LinkFaultsIncreased}
use Rattle.taxii_client.specs.Fetches.{Fetched}
use Rattle.taxii_client.specs.Pulls.{RequestsNext, Lent, Page, cursor_after}
use Rattle.taxii_client.specs.declared.fetch_end.FetchEnd.{FetchEnd}
use Rattle.taxii_client.specs.declared.fetch_end.FetchEnd.TheVariants.{Fault, Cut, Refused, NoMemory}
use Rattle.taxii_client.specs.declared.target.Target.{Target}
use Rattle.taxii_client.specs.declared.cursor.Cursor.{Cursor}

-- an attempt at a page: the link that the dial gave, where it did, and what the fetch over it
-- answered
pub record Attempt (L : Type 0) : Type 0 where
  pub link : Option (Lent L)
  pub answer : Result Envelope FetchEnd

-- ---- attempts in turn

-- the page at the cursor was requested over the link; or the dial gave none
pub record IsAttemptAt {L : Type 0} (view : L → ClientLinkView) (target : Target) (cursor : Cursor) (attempt : Attempt L) : Type 0 where
  pub next : Option (List ℕ)
  pub asks : RequestsNext cursor next
  pub fetched : MatchOption attempt.link (attempt.answer ≡ Err Fault) (λ link. Fetched target next (view link.given) (view link.finished) attempt.answer)

-- the cursor after an attempt: unchanged if no page arrived
abbrev pub cursor_after_attempt : Cursor → Result Envelope FetchEnd → Cursor
cursor_after_attempt cursor (Ok envelope) = cursor_after envelope
cursor_after_attempt cursor (Err end) = cursor

-- attempts in order, from one cursor to another
abbrev pub AreAttemptsInTurn : {L : Type 0} → (L → ClientLinkView) → Target → Cursor → List (Attempt L) → Cursor → Type 0
AreAttemptsInTurn view target cursor [] after = after ≡ cursor
AreAttemptsInTurn view target cursor (attempt ∷ attempts) after = IsAttemptAt view target cursor attempt × AreAttemptsInTurn view target (cursor_after_attempt cursor attempt.answer) attempts after

-- ---- what came of them

-- whether the attempt was lost: the dial or the link failed, or the link's bytes ended inside the
-- reply
abbrev pub is_loss : Result Envelope FetchEnd → Bool
is_loss (Ok envelope) = false
is_loss (Err Fault) = true
is_loss (Err Cut) = true
is_loss (Err (Refused refusal)) = false
is_loss (Err NoMemory) = false

abbrev pub is_lost : {L : Type 0} → Attempt L → Bool
is_lost attempt = is_loss attempt.answer

-- how many were lost
abbrev pub losses : {L : Type 0} → List (Attempt L) → ℕ
losses attempts = count_by is_lost attempts

-- how many got no link
abbrev pub undialled : {L : Type 0} → List (Attempt L) → ℕ
undialled attempts = count_by (λ attempt. is_none attempt.link) attempts

-- the links that were dialled
abbrev pub links_of : {L : Type 0} → List (Attempt L) → List (Lent L)
links_of attempts = filter_map (λ attempt. attempt.link) attempts

-- those over which nothing arrived
abbrev pub lost_links : {L : Type 0} → List (Attempt L) → List (Lent L)
lost_links attempts = links_of (filter is_lost attempts)

-- the page that arrived
abbrev pub page_over : {L : Type 0} → Option (Lent L) → Result Envelope FetchEnd → Option (Page L)
page_over (Some link) (Ok envelope) = Some (record { link = link; envelope = envelope })
page_over (Some link) (Err end) = None
page_over None answer = None

abbrev pub pages_of : {L : Type 0} → List (Attempt L) → List (Page L)
pages_of attempts = filter_map (λ attempt. page_over attempt.link attempt.answer) attempts

-- the entries of pages
abbrev pub entries_of : {L : Type 0} → List (Page L) → List (List Entry)
entries_of pages = map (λ page. page.envelope.entries) pages

-- a page arrived, or the attempt was lost: another one may follow
abbrev pub AllowsNextAttempt : {L : Type 0} → Attempt L → Type 0
AllowsNextAttempt attempt = ((envelope : Envelope) × (attempt.answer ≡ Ok envelope)) ⊎ (is_lost attempt ≡ true)

-- ---- why they were lost

-- the link's bytes ended inside a reply
pub record EndsInside (before now : ClientLinkView) : Type 0 where
  pub taken : List ℕ
  pub takes : TakesFromLink taken before.left now.left
  pub cut : IsCutReply taken
  pub ended : IsAtEnd now.left

abbrev pub LinkFailed : {L : Type 0} → (L → ClientLinkView) → Lent L → Type 0
LinkFailed view link = LinkFaultsIncreased (view link.given) (view link.finished) ⊎ EndsInside (view link.given) (view link.finished)

-- the dial counted each attempt that got no link, and nothing else; a saturated count counts as
-- increased
pub record CountsDials (undialled before now : ℕ) : Type 0 where
  pub rose : min (before + undialled) (2 ^ 64 - 1) ≤ now
  pub quiet : undialled ≡ 0 → now ≡ before
