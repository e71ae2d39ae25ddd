-- Why a page does not arrive, layer by layer, and how a refusal is reported.
use Rattle.std.specs.Prelude.{ℕ, List, ◌++◌, codes, decimal}
use Rattle.stix_json.specs.declared.refusal.JsonRefusal.{JsonRefusal}
use Rattle.stix_json.specs.declared.refusal.JsonRefusal.TheVariants as Json
use Rattle.http_messages.specs.declared.reply_refusal.HeadRefusal.{HeadRefusal}
use Rattle.http_messages.specs.declared.reply_refusal.HeadRefusal.TheVariants as Head
use Rattle.http_messages.specs.declared.reply_end.ReplyEnd.{ReplyEnd}
use Rattle.http_messages.specs.declared.reply_end.ReplyEnd.TheVariants as Reply
use Rattle.taxii_client.specs.declared.fetch_end.FetchEnd.{FetchEnd}
use Rattle.taxii_client.specs.declared.fetch_end.FetchEnd.TheVariants as Fetch
use Rattle.taxii_client.specs.declared.page_end.PageEnd.{PageEnd}
use Rattle.taxii_client.specs.declared.page_end.PageEnd.TheVariants as Page
use Rattle.taxii_client.specs.declared.reply_refusal.ReplyRefusal.{ReplyRefusal}
use Rattle.taxii_client.specs.declared.reply_refusal.ReplyRefusal.TheVariants.{BadHead, Status, Coding, NoLength, TooLarge, NotEnvelope}

-- the refusal of a reply for its head
abbrev pub for_head : HeadRefusal → ReplyRefusal
for_head Head.BadHead = BadHead
for_head (Head.Status code) = Status code
for_head Head.Coding = Coding
for_head Head.NoLength = NoLength
for_head Head.TooLarge = TooLarge

-- why no page was fetched where no reply was read
abbrev pub for_reply : ReplyEnd → FetchEnd
for_reply Reply.Fault = Fetch.Fault
for_reply Reply.Cut = Fetch.Cut
for_reply (Reply.Refused head) = Fetch.Refused (for_head head)
for_reply Reply.NoMemory = Fetch.NoMemory

-- why no page was fetched where the body of a reply is refused
abbrev pub for_body : JsonRefusal → FetchEnd
for_body Json.NotJson = Fetch.Refused NotEnvelope
for_body (Json.TooDeep path) = Fetch.Refused NotEnvelope
for_body (Json.NotWhole path) = Fetch.Refused NotEnvelope
for_body (Json.Null path) = Fetch.Refused NotEnvelope
for_body (Json.OutOfRange path) = Fetch.Refused NotEnvelope
for_body Json.NotList = Fetch.Refused NotEnvelope
for_body Json.NoMemory = Fetch.NoMemory

-- why no page arrived where none was fetched
abbrev pub for_fetch : FetchEnd → PageEnd
for_fetch Fetch.Fault = Page.Fault
for_fetch Fetch.Cut = Page.Cut
for_fetch (Fetch.Refused refusal) = Page.Refused refusal
for_fetch Fetch.NoMemory = Page.NoMemory

-- the name of a refusal, and after that of a status its code
abbrev pub reply_refusal_text : ReplyRefusal → List ℕ
reply_refusal_text BadHead = codes "BadHead"
reply_refusal_text (Status code) = codes "Status " ++ decimal code
reply_refusal_text Coding = codes "Coding"
reply_refusal_text NoLength = codes "NoLength"
reply_refusal_text TooLarge = codes "TooLarge"
reply_refusal_text NotEnvelope = codes "NotEnvelope"
