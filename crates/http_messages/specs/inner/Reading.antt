-- The partial results of reading a response. No public contract cites these.
use Rattle.std.specs.Prelude.{◌≡◌, ◌≤◌, ◌<◌, ℕ, List, length, take, Option, Some, None, Result, Ok, Err}
use Rattle.flow_edges.specs.Flow.{IsAtEnd}
use Rattle.http_messages.specs.declared.frame.TheConstants.{MAX_HEAD}
use Rattle.http_messages.specs.declared.reply_refusal.HeadRefusal.{HeadRefusal}
use Rattle.http_messages.specs.declared.reply_refusal.HeadRefusal.TheVariants.{BadHead}
use Rattle.http_messages.specs.declared.reply_end.ReplyEnd.{ReplyEnd}
use Rattle.http_messages.specs.declared.reply_end.ReplyEnd.TheVariants.{Fault, Cut, Refused, NoMemory}
use Rattle.http_messages.specs.declared.reply_checking.Checked.{Checked}
use Rattle.http_messages.specs.ReplyHeads.{IsHead, ReplyHeadParts, reply_body_length, reply_head_refusal}
use Rattle.http_messages.specs.Replies.{Announces, IsRefusedHead, IsLong, LacksHead, TakesFromLink}

-- the bytes taken while reading a head, by the result
abbrev pub IsHeadTaken : List ℕ → List ℕ → Option (List ℕ) → Result ℕ ReplyEnd → Type 0
IsHeadTaken buffer taken now (Ok end) = IsHead taken × (length taken ≤ MAX_HEAD) × (taken ≡ take end buffer) × (end ≡ length taken)
IsHeadTaken buffer taken now (Err Fault) = LacksHead taken
IsHeadTaken buffer taken now (Err Cut) = LacksHead taken × IsAtEnd now
IsHeadTaken buffer taken now (Err (Refused refusal)) = IsLong taken × (refusal ≡ BadHead)
IsHeadTaken buffer taken now (Err NoMemory) = ⊥

-- a head was read into the front of the buffer
pub record ReadsHead (buffer : List ℕ) (left now : Option (List ℕ)) (answer : Result ℕ ReplyEnd) : Type 0 where
  pub taken : List ℕ
  pub takes : TakesFromLink taken left now
  pub answers : IsHeadTaken buffer taken now answer

-- the bytes taken while reading a body of `count` bytes, by the result
abbrev pub IsBodyTaken : ℕ → List ℕ → Option (List ℕ) → Result (List ℕ) ReplyEnd → Type 0
IsBodyTaken count taken now (Ok body) = (taken ≡ body) × (length body ≡ count)
IsBodyTaken count taken now (Err Fault) = length taken < count
IsBodyTaken count taken now (Err Cut) = (length taken < count) × IsAtEnd now
IsBodyTaken count taken now (Err (Refused refusal)) = ⊥
IsBodyTaken count taken now (Err NoMemory) = length taken ≤ count

-- a body was read
pub record ReadsBody (count : ℕ) (left now : Option (List ℕ)) (answer : Result (List ℕ) ReplyEnd) : Type 0 where
  pub taken : List ℕ
  pub takes : TakesFromLink taken left now
  pub answers : IsBodyTaken count taken now answer

-- the result of checking a head, from its refusal and its length
abbrev pub checked_by : Option HeadRefusal → ℕ → Checked
checked_by (Some refusal) count = Checked.Refused refusal
checked_by None count = Checked.Announces count

abbrev pub refusal_or_length : ReplyHeadParts → Checked
refusal_or_length h = checked_by (reply_head_refusal h) (reply_body_length h)

-- the result of checking a head is correct
abbrev pub ChecksHead : List ℕ → Checked → Type 0
ChecksHead head (Checked.Announces count) = Announces head count
ChecksHead head (Checked.Refused refusal) = IsRefusedHead head refusal
