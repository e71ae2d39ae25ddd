-- The head of a response (RFC 9112, sections 2.1 and 4), and what it says. Where it ends is a
-- matter of its bytes alone: nothing is skipped before it.
use Rattle.std.specs.Prelude.{◌≡◌, ℕ, Bool, not, ◌==◌, ◌||◌, if◌then◌else◌, nat_lt, List, [], length, map, codes, Option, Some, None}
use Rattle.std.specs.List.{list_all}
use Rattle.httparse.specs.Grammar.{ResponseHead, ReadsResponse, status_code}
use Rattle.httparse.specs.Spans.{name_and_value}
use Rattle.http_messages.specs.RequestHeads.{after_empty_line, HasNoEnd, IsFirstEnd}
use Rattle.http_messages.specs.Fields.{values_among, first_length, states}
use Rattle.http_messages.specs.declared.reply_refusal.HeadRefusal.{HeadRefusal}
use Rattle.http_messages.specs.declared.reply_refusal.HeadRefusal.TheVariants.{Status, Coding, NoLength, TooLarge}
use Rattle.http_messages.specs.declared.reply_refusal.TheConstants.{MAX_REPLY}

-- a head: the bytes to the first LF that an empty line follows directly, this line included
pub record IsHead (head : List ℕ) : Type 0 where
  pub last : ℕ
  pub first : IsFirstEnd head 0 last
  pub whole : length head ≡ after_empty_line head last

-- no head ends in these bytes: no LF of them is followed by an empty line of them
abbrev pub HoldNoHead : List ℕ → Type 0
HoldNoHead bytes = HasNoEnd bytes 0 (length bytes)

-- a head as its parts: the status and the fields, each a name and a value without the spaces and
-- tabs around it
pub record ReplyHeadParts : Type 0 where
  pub status : ℕ
  pub fields : List (List ℕ × List ℕ)

-- the parts of a head of the grammar
abbrev pub reply_head_parts : ResponseHead → ReplyHeadParts
reply_head_parts h = record { status = status_code h; fields = map name_and_value h.fields }

-- the bytes match the grammar of a head, with these parts
pub record IsResponseHeadReadAs (head : List ℕ) (parts : ReplyHeadParts) : Type 0 where
  pub tree : ResponseHead
  pub reads : ReadsResponse head tree []
  pub parts_are : parts ≡ reply_head_parts tree

-- the bytes do not match the grammar of a head
abbrev pub IsUnreadableResponseHead : List ℕ → Type 0
IsUnreadableResponseHead head = (tree : ResponseHead) → ¬ (ReadsResponse head tree [])

-- the transfer codings, of which none is read (RFC 9112, section 6.1)
abbrev pub codings : ReplyHeadParts → List (List ℕ)
codings h = values_among (codes "transfer-encoding") h.fields

-- the lengths that are stated (RFC 9110, section 8.6)
abbrev pub lengths : ReplyHeadParts → List (List ℕ)
lengths h = values_among (codes "content-length") h.fields

-- how many bytes the body has, where the lengths state one number (RFC 9112, section 6.3)
abbrev pub reply_body_length : ReplyHeadParts → ℕ
reply_body_length h = first_length (lengths h)

-- these values don't state one length: there is none, something else among them, or two that differ
abbrev pub state_no_length : List (List ℕ) → Bool
state_no_length values = length values == 0 || not (list_all (states (first_length values)) values)

-- why a head that is read is refused, where it is: the first of the conditions that holds
abbrev pub reply_head_refusal : ReplyHeadParts → Option HeadRefusal
reply_head_refusal h =
    if not (h.status == 200) then Some (Status h.status)
    else if nat_lt 0 (length (codings h)) then Some Coding
    else if state_no_length (lengths h) then Some NoLength
    else if nat_lt MAX_REPLY (reply_body_length h) then Some TooLarge
    else None
