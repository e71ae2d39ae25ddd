-- The name of a refusal, and its byte offset.
use Rattle.std.specs.Prelude.{ℕ, List, codes}
use Rattle.pattern_lexer.specs.declared.refusal.TokenRefusal.{TokenRefusal}
use Rattle.pattern_lexer.specs.declared.refusal.TokenRefusal.TheVariants.{BadToken, LeftOut, BadNumber, BadTime, BadBytes}

-- its name
abbrev pub token_refusal_name : TokenRefusal → List ℕ
token_refusal_name (BadToken at) = codes "BadToken"
token_refusal_name (LeftOut at word) = codes "LeftOut"
token_refusal_name (BadNumber at) = codes "BadNumber"
token_refusal_name (BadTime at) = codes "BadTime"
token_refusal_name (BadBytes at) = codes "BadBytes"

-- its byte offset
abbrev pub token_refusal_offset : TokenRefusal → ℕ
token_refusal_offset (BadToken at) = at
token_refusal_offset (LeftOut at word) = at
token_refusal_offset (BadNumber at) = at
token_refusal_offset (BadTime at) = at
token_refusal_offset (BadBytes at) = at
