-- The message for a refused response.
use Rattle.std.specs.Prelude.{ℕ, List, ◌++◌, codes}
use Rattle.taxii_client.specs.ReplyRefusals.{reply_refusal_text}
use Rattle.taxii_client.specs.declared.reply_refusal.ReplyRefusal.{ReplyRefusal}

-- peer refused: NAME
abbrev pub peer_reason : ReplyRefusal → List ℕ
peer_reason refusal = codes "peer refused: " ++ (reply_refusal_text refusal ++ codes "\n")
