-- One request over a link, and the reply to it: a page of a collection (TAXII 2.1, section 3.7), or
-- why there is none.
use Rattle.std.specs.Prelude.{◌≡◌, ◌≢◌, ◌⊎◌, ℕ, List, ◌++◌, Option, Result, Ok, Err}
use Rattle.flow_edges.specs.Flow.{written_with, WritesPrefix, IsAtEnd}
use Rattle.stix_json.specs.declared.envelope.Envelope.{Envelope}
use Rattle.stix_json.specs.declared.refusal.JsonRefusal.{JsonRefusal}
use Rattle.stix_json.specs.declared.refusal.JsonRefusal.TheVariants as Json
use Rattle.stix_json.specs.Envelopes.{IsEnvelopeOf, HasNoEnvelopeAs}
use Rattle.http_messages.specs.declared.reply_refusal.HeadRefusal.{HeadRefusal}
use Rattle.http_messages.specs.Replies.{IsReply, IsRefusedReply, IsCutReply, IsNeeded, TakesFromLink}
use Rattle.taxii_client.specs.declared.reply_refusal.ReplyRefusal.{ReplyRefusal}
use Rattle.taxii_client.specs.declared.reply_refusal.ReplyRefusal.TheVariants.{NotEnvelope}
use Rattle.taxii_client.specs.declared.target.Target.{Target}
use Rattle.taxii_client.specs.declared.fetch_end.FetchEnd.{FetchEnd}
use Rattle.taxii_client.specs.declared.fetch_end.FetchEnd.TheVariants.{Fault, Cut, Refused, NoMemory}
use Rattle.taxii_client.specs.Requests.{request_of}
use Rattle.taxii_client.specs.ReplyRefusals.{for_head}
use Rattle.taxii_client.specs.Environment.{ClientLinkView, CountsLink}

-- a reply whose body is this page
pub record IsPageReply (reply : List ℕ) (envelope : Envelope) : Type 0 where
  pub body : List ℕ
  pub is_reply : IsReply reply body
  pub is_envelope : IsEnvelopeOf body envelope

-- a body that is no page, for another cause than memory
abbrev pub IsNoEnvelope : List ℕ → Type 0
IsNoEnvelope body = (refusal : JsonRefusal) × (refusal ≢ Json.NoMemory) × HasNoEnvelopeAs body refusal

-- bytes that are refused: for their head, or a reply whose body is no page
abbrev pub IsRefusedPage : List ℕ → ReplyRefusal → Type 0
IsRefusedPage bytes refusal =
    ((head : HeadRefusal) × (refusal ≡ for_head head) × IsRefusedReply bytes head)
    ⊎ ((refusal ≡ NotEnvelope) × (body : List ℕ) × IsReply bytes body × IsNoEnvelope body)

-- what was taken from a link, by the answer; where it is that the reply is cut, none is left
abbrev pub IsFetchTakenFor : List ℕ → Option (List ℕ) → Result Envelope FetchEnd → Type 0
IsFetchTakenFor taken now (Ok envelope) = IsPageReply taken envelope
IsFetchTakenFor taken now (Err Fault) = IsCutReply taken
IsFetchTakenFor taken now (Err Cut) = IsCutReply taken × IsAtEnd now
IsFetchTakenFor taken now (Err (Refused refusal)) = IsRefusedPage taken refusal
IsFetchTakenFor taken now (Err NoMemory) = IsNeeded taken

-- the result of a read from what was left on the link; this is left now
pub record ReadsPage (left now : Option (List ℕ)) (answer : Result Envelope FetchEnd) : Type 0 where
  pub taken : List ℕ
  pub takes : TakesFromLink taken left now
  pub answers : IsFetchTakenFor taken now answer

-- the request was written, whole where the reply was read to where it is decided
abbrev pub WritesRequest : List ℕ → Option (List ℕ) → Option (List ℕ) → Result Envelope FetchEnd → Type 0
WritesRequest text before now (Ok envelope) = now ≡ written_with text before
WritesRequest text before now (Err Fault) = WritesPrefix text before now
WritesRequest text before now (Err Cut) = now ≡ written_with text before
WritesRequest text before now (Err (Refused refusal)) = now ≡ written_with text before
WritesRequest text before now (Err NoMemory) = WritesPrefix text before now

-- a fetch over a link: what was written, what was read, and that it failed only where the link says
-- so
pub record Fetched (target : Target) (next : Option (List ℕ)) (before now : ClientLinkView) (answer : Result Envelope FetchEnd) : Type 0 where
  pub writes : WritesRequest (request_of target next) before.written now.written answer
  pub reads : ReadsPage before.left now.left answer
  pub counts : CountsLink (answer ≡ Err Fault) before now

-- what bytes begin with: a page, bytes that are refused so, or less than it takes to decide
pub data FetchOutcome : Type 0 where
  Comes : FetchOutcome
  Fails : ReplyRefusal → FetchOutcome
  Ends : FetchOutcome

abbrev pub IsFetchOutcome : List ℕ → FetchOutcome → Type 0
IsFetchOutcome bytes Comes = (reply rest : List ℕ) × (envelope : Envelope) × (bytes ≡ reply ++ rest) × IsPageReply reply envelope
IsFetchOutcome bytes (Fails refusal) = (front rest : List ℕ) × (bytes ≡ front ++ rest) × IsRefusedPage front refusal
IsFetchOutcome bytes Ends = IsCutReply bytes
