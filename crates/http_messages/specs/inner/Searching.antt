-- The invariant and the result of the search for the end of a head. No public contract cites these.
use Rattle.std.specs.Prelude.{◌≡◌, ℕ, ◌+◌, ◌<◌, ◌≤◌, ◌⊎◌, true, false, List, ◌++◌, length, drop, slice_index, slice_range}
use Rattle.http_messages.specs.declared.search.HeadSearch.{HeadSearch}
use Rattle.http_messages.specs.declared.request_checking.Found.{Found}
use Rattle.http_messages.specs.declared.request_checking.Found.TheVariants.{More, Request as Given, Refused}
use Rattle.http_messages.specs.declared.request.Request.{Request}
use Rattle.http_messages.specs.RequestHeads.{is_line_byte, HasNoEnd, IsHeadAt}
use Rattle.http_messages.specs.Frames.{NeedsHead, NeedsBody, GivesRequest, IsRefusedRequest}

-- the bytes before `start` are dropped, and no head ends before `next`, whatever bytes follow
pub record IsSearched (bytes : List ℕ) (search : HeadSearch) : Type 0 where
  pub dropped : (offset : ℕ) → offset < search.start → is_line_byte (slice_index bytes offset) ≡ true
  pub order : search.start ≤ search.next
  pub within : search.next ≤ length bytes
  pub settled : search.start < search.next → search.next + 1 < length bytes
  pub begins : search.start < search.next → is_line_byte (slice_index bytes search.start) ≡ false
  pub none : HasNoEnd bytes search.start search.next

-- from `from` on up to `offset` there are CR and LF alone, and no further
pub record SkipsTo (bytes : List ℕ) (from offset : ℕ) : Type 0 where
  pub order : from ≤ offset
  pub within : offset ≤ length bytes
  pub passed : (k : ℕ) → from ≤ k → k < offset → is_line_byte (slice_index bytes k) ≡ true
  pub other : offset < length bytes → is_line_byte (slice_index bytes offset) ≡ false

-- the bytes hold no head
abbrev pub HasNoHead : List ℕ → Type 0
HasNoHead bytes = (start end : ℕ) → IsHeadAt bytes start end → ⊥

-- more bytes are needed
abbrev pub IsMore : ℕ → List ℕ → Type 0
IsMore greatest bytes = NeedsHead bytes ⊎ NeedsBody greatest bytes

-- more bytes are needed as long as fewer than `needed` have arrived
abbrev pub Needs : ℕ → List ℕ → ℕ → Type 0
Needs greatest bytes needed = (more : List ℕ) → length (bytes ++ more) < needed → IsMore greatest (bytes ++ more)

-- the request with this body
abbrev pub with_body : Request → List ℕ → Request
with_body request body = record request { body = body }

-- the first frame of the bytes
abbrev pub IsFoundFrame : ℕ → List ℕ → Found → Type 0
IsFoundFrame greatest bytes (More needed) = IsMore greatest bytes × Needs greatest bytes needed
IsFoundFrame greatest bytes (Given request start end) =
    GivesRequest greatest bytes (with_body request (slice_range bytes start end)) (drop end bytes) × (start ≤ end) × (end ≤ length bytes)
IsFoundFrame greatest bytes (Refused refusal) = IsRefusedRequest greatest bytes refusal
