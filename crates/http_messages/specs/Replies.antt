-- The outcome of a link's bytes after one request: an accepted response, a refused one, or too few
-- bytes to decide. It is defined on all bytes, so how they were split into reads is irrelevant.
use Rattle.std.specs.Prelude.{◌≡◌, ◌⊎◌, ℕ, ◌<◌, ◌≤◌, List, ◌++◌, length, Option, Some, None, option_map, Result, Ok, Err}
use Rattle.flow_edges.specs.Flow.{IsAtEnd}
use Rattle.http_messages.specs.declared.frame.TheConstants.{MAX_HEAD}
use Rattle.http_messages.specs.declared.reply_refusal.HeadRefusal.{HeadRefusal}
use Rattle.http_messages.specs.declared.reply_refusal.HeadRefusal.TheVariants.{BadHead}
use Rattle.http_messages.specs.declared.reply_end.ReplyEnd.{ReplyEnd}
use Rattle.http_messages.specs.declared.reply_end.ReplyEnd.TheVariants.{Fault, Cut, Refused, NoMemory}
use Rattle.http_messages.specs.ReplyHeads.{IsHead, HoldNoHead, ReplyHeadParts, IsResponseHeadReadAs, IsUnreadableResponseHead, reply_body_length, reply_head_refusal}

-- a head that says how many bytes follow it, and is not refused
pub record Announces (head : List ℕ) (count : ℕ) : Type 0 where
  pub is_head : IsHead head
  pub fits : length head ≤ MAX_HEAD
  pub parts : ReplyHeadParts
  pub read : IsResponseHeadReadAs head parts
  pub fine : reply_head_refusal parts ≡ None
  pub count_is : count ≡ reply_body_length parts

-- a reply: a head, and the body that it announces
pub record IsReply (reply body : List ℕ) : Type 0 where
  pub head : List ℕ
  pub announces : Announces head (length body)
  pub bytes : reply ≡ head ++ body

-- as many bytes as a head may have, without the end of a head
pub record IsLong (bytes : List ℕ) : Type 0 where
  pub full : length bytes ≡ MAX_HEAD
  pub none : HoldNoHead bytes

-- why the bytes of a head are refused: they are none by the grammar, or for what they say
abbrev pub IsHeadRefusalOf : List ℕ → HeadRefusal → Type 0
IsHeadRefusalOf head refusal = (IsUnreadableResponseHead head × (refusal ≡ BadHead)) ⊎ ((parts : ReplyHeadParts) × IsResponseHeadReadAs head parts × (reply_head_refusal parts ≡ Some refusal))

-- a head that is refused
pub record IsRefusedHead (head : List ℕ) (refusal : HeadRefusal) : Type 0 where
  pub is_head : IsHead head
  pub fits : length head ≤ MAX_HEAD
  pub refused : IsHeadRefusalOf head refusal

-- bytes that are refused: a head, or more bytes than one may have
abbrev pub IsRefusedReply : List ℕ → HeadRefusal → Type 0
IsRefusedReply bytes refusal = (IsLong bytes × (refusal ≡ BadHead)) ⊎ IsRefusedHead bytes refusal

-- no head has ended, and there is room for one yet
pub record LacksHead (bytes : List ℕ) : Type 0 where
  pub room : length bytes < MAX_HEAD
  pub none : HoldNoHead bytes

-- a head is there, and less than the body that it announces
pub record LacksBody (bytes : List ℕ) : Type 0 where
  pub head : List ℕ
  pub count : ℕ
  pub announces : Announces head count
  pub some : List ℕ
  pub bytes_are : bytes ≡ head ++ some
  pub short : length some < count

-- the bytes end before they are a reply or refused
abbrev pub IsCutReply : List ℕ → Type 0
IsCutReply bytes = LacksHead bytes ⊎ LacksBody bytes

-- all of these bytes were needed to decide: each shorter beginning of them is cut
abbrev pub IsNeeded : List ℕ → Type 0
IsNeeded bytes = (front back : List ℕ) → bytes ≡ front ++ back → 0 < length back → IsCutReply front

-- these bytes were taken from those left on the link, as far as they are observable
abbrev pub TakesFromLink : List ℕ → Option (List ℕ) → Option (List ℕ) → Type 0
TakesFromLink taken left now = left ≡ option_map (λ rest. taken ++ rest) now

-- what was taken, by the answer; where it is that the bytes are cut, none is left
abbrev pub IsReplyTakenFor : List ℕ → Option (List ℕ) → Result (List ℕ) ReplyEnd → Type 0
IsReplyTakenFor taken now (Ok body) = IsReply taken body
IsReplyTakenFor taken now (Err Fault) = IsCutReply taken
IsReplyTakenFor taken now (Err Cut) = IsCutReply taken × IsAtEnd now
IsReplyTakenFor taken now (Err (Refused refusal)) = IsRefusedReply taken refusal
IsReplyTakenFor taken now (Err NoMemory) = IsNeeded taken

-- the result of a read from what was left on the link; this is left now
pub record ReadsReply (left now : Option (List ℕ)) (answer : Result (List ℕ) ReplyEnd) : Type 0 where
  pub taken : List ℕ
  pub takes : TakesFromLink taken left now
  pub answers : IsReplyTakenFor taken now answer

-- the outcomes of a byte string, of which at most one holds
pub data Outcome : Type 0 where
  Whole : List ℕ → Outcome
  Fails : HeadRefusal → Outcome
  Ends : Outcome

-- the bytes begin with a reply that has this body, or with bytes that are refused so, or they are
-- cut
abbrev pub IsOutcome : List ℕ → Outcome → Type 0
IsOutcome bytes (Whole body) = (reply rest : List ℕ) × (bytes ≡ reply ++ rest) × IsReply reply body
IsOutcome bytes (Fails refusal) = (front rest : List ℕ) × (bytes ≡ front ++ rest) × IsRefusedReply front refusal
IsOutcome bytes Ends = IsCutReply bytes
