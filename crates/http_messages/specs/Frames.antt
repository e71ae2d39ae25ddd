-- The bytes of a connection as requests (RFC 9112). The first frame is a request, a refusal, or
-- that more bytes are needed. It is defined on all bytes received, so how they were split is
-- irrelevant.
use Rattle.std.specs.Prelude.{◌≡◌, ℕ, ◌+◌, ◌<◌, ◌≤◌, ◌⊎◌, ◌||◌, if◌then◌else◌, nat_lt, List, [], length, drop, slice_range, codes, Option, Some, None}
use Rattle.httparse.specs.Grammar.{RequestHead, ReadsRequest}
use Rattle.http_messages.specs.declared.frame.TheConstants.{MAX_HEAD}
use Rattle.http_messages.specs.declared.frame.Frame.{Frame}
use Rattle.http_messages.specs.declared.frame.Frame.TheVariants.{More, Request as Given, Refused}
use Rattle.http_messages.specs.declared.request_refusal.Refusal.{Refusal}
use Rattle.http_messages.specs.declared.request_refusal.Refusal.TheVariants.{BadRequest, LengthRequired, BodyTooLarge, HeadTooLarge, TransferCoding}
use Rattle.http_messages.specs.declared.request.Request.{Request}
use Rattle.http_messages.specs.RequestHeads.{IsHeadAt, HasNoHeadIn}
use Rattle.http_messages.specs.Fields.{HeadParts, head_parts, values, method_of, joined_values, first_field_value, closes, body_length, has_bad_host, has_bad_text, has_coding, has_bad_length, lacks_length}

-- why a head that is read is refused, where it is: the first of the conditions that holds
abbrev pub head_refusal : ℕ → HeadParts → Option Refusal
head_refusal greatest h =
    if has_bad_host h || has_bad_text h then Some BadRequest
    else if has_coding h then Some TransferCoding
    else if has_bad_length h then Some BadRequest
    else if lacks_length h then Some LengthRequired
    else if nat_lt greatest (body_length h) then Some BodyTooLarge
    else None

-- the request of a head and a body
abbrev pub framed_request : HeadParts → List ℕ → Request
framed_request h body = record {
  method = method_of h.method;
  target = h.target;
  accept = joined_values (values (codes "accept") h);
  content_type = first_field_value (values (codes "content-type") h);
  body = body;
  close = closes h;
}

-- the head at that position, with what was dropped before it no longer than a head may be
pub record HoldsHead (bytes : List ℕ) (start end : ℕ) : Type 0 where
  pub at : IsHeadAt bytes start end
  pub fits : end ≤ MAX_HEAD

-- the bytes match the grammar of a head, with these parts
pub record IsRequestHeadReadAs (head : List ℕ) (parts : HeadParts) : Type 0 where
  pub tree : RequestHead
  pub reads : ReadsRequest head tree []
  pub parts_are : parts ≡ head_parts tree

-- the bytes do not match the grammar of a head
abbrev pub IsUnreadableRequestHead : List ℕ → Type 0
IsUnreadableRequestHead head = (tree : RequestHead) → ¬ (ReadsRequest head tree [])

-- the bytes begin with a head that is not refused
pub record AcceptsHead (greatest : ℕ) (bytes : List ℕ) (start end : ℕ) (parts : HeadParts) : Type 0 where
  pub head : HoldsHead bytes start end
  pub read : IsRequestHeadReadAs (slice_range bytes start end) parts
  pub fine : head_refusal greatest parts ≡ None

-- no head has ended, and there is room for one yet
pub record NeedsHead (bytes : List ℕ) : Type 0 where
  pub room : length bytes < MAX_HEAD
  pub none : HasNoHeadIn (length bytes) bytes

-- the head is fine, and its body is not whole
pub record NeedsBody (greatest : ℕ) (bytes : List ℕ) : Type 0 where
  pub start : ℕ
  pub end : ℕ
  pub parts : HeadParts
  pub accepts : AcceptsHead greatest bytes start end parts
  pub short : length bytes < end + body_length parts

-- the head is fine, its body is whole, and the rest follows it
pub record GivesRequest (greatest : ℕ) (bytes : List ℕ) (request : Request) (rest : List ℕ) : Type 0 where
  pub start : ℕ
  pub end : ℕ
  pub parts : HeadParts
  pub accepts : AcceptsHead greatest bytes start end parts
  pub whole : end + body_length parts ≤ length bytes
  pub request_is : request ≡ framed_request parts (slice_range bytes end (end + body_length parts))
  pub rest_is : rest ≡ drop (end + body_length parts) bytes

-- as many bytes have arrived as a head may have, without the end of a head
pub record HasLongHead (bytes : List ℕ) : Type 0 where
  pub full : MAX_HEAD ≤ length bytes
  pub none : HasNoHeadIn MAX_HEAD bytes

-- the head does not match the grammar
pub record HasBadHead (bytes : List ℕ) : Type 0 where
  pub start : ℕ
  pub end : ℕ
  pub head : HoldsHead bytes start end
  pub bad : IsUnreadableRequestHead (slice_range bytes start end)

-- the head matches the grammar, and is refused for its contents
pub record HasRefusedHead (greatest : ℕ) (bytes : List ℕ) (refusal : Refusal) : Type 0 where
  pub start : ℕ
  pub end : ℕ
  pub parts : HeadParts
  pub head : HoldsHead bytes start end
  pub read : IsRequestHeadReadAs (slice_range bytes start end) parts
  pub refused : head_refusal greatest parts ≡ Some refusal

-- the bytes are refused so
abbrev pub IsRefusedRequest : ℕ → List ℕ → Refusal → Type 0
IsRefusedRequest greatest bytes refusal =
    (HasLongHead bytes × (refusal ≡ HeadTooLarge))
    ⊎ ((HasBadHead bytes × (refusal ≡ BadRequest)) ⊎ HasRefusedHead greatest bytes refusal)

-- the first frame of the bytes, and what is left of them after it
abbrev pub IsFirstFrame : ℕ → List ℕ → Frame → List ℕ → Type 0
IsFirstFrame greatest bytes More rest = (NeedsHead bytes ⊎ NeedsBody greatest bytes) × (rest ≡ bytes)
IsFirstFrame greatest bytes (Given request) rest = GivesRequest greatest bytes request rest
IsFirstFrame greatest bytes (Refused refusal) rest = IsRefusedRequest greatest bytes refusal × (rest ≡ bytes)

-- the model of a session: the largest body that it takes, and the bytes that were fed and not yet
-- given
pub record SessionState : Type 0 where
  pub max_body : ℕ
  pub fed : List ℕ
