-- For private clauses: steps of the lexer.
use Rattle.std.specs.Prelude.{◌≡◌, ◌≢◌, ℕ, ◌<◌, ◌≤◌, ◌⊎◌, ◌==◌, if◌then◌else◌, List, ◌∷◌, ◌++◌, length, drop, slice_range, All, Option, Some, None, IsSome, Result, Ok, Err}
use Rattle.std.specs.Char.{IsAsciiDigit}
use Rattle.pattern_lexer.specs.declared.{token.Token.Token, token.TokenKind.TokenKind, refusal.TokenRefusal.TokenRefusal}
use Rattle.pattern_lexer.specs.declared.token.TokenKind.TheVariants.{SquareOpen, SquareClose, RoundOpen, RoundClose, Dot, Colon, Comma, Star, Equal, Differ, Less, LessEqual, Greater, GreaterEqual, Number, Hex, Binary, Timestamp}
use Rattle.pattern_lexer.specs.declared.refusal.TokenRefusal.TheVariants.{BadNumber, BadTime, BadBytes}
use Rattle.pattern_lexer.specs.{Word.IsWordStart, Word.IsHyphenWordPart, Word.HasAt, Values.HasValue, Spans.token_text_at}
use Rattle.pattern_lexer.specs.Reading.{IsBlank, IsFirst, IsUsable, AreTokens, IsRefusalAt}
use Rattle.pattern_lexer.specs.declared.runs.CharacterClass.{CharacterClass}
use Rattle.pattern_lexer.specs.declared.runs.CharacterClass.TheVariants.{Blank, Digit, NamePart, Unquoted}

-- the bytes of a class
abbrev pub InClass : CharacterClass → ℕ → Type 0
InClass Blank c = IsBlank c
InClass Digit c = IsAsciiDigit c
InClass NamePart c = IsHyphenWordPart c
InClass Unquoted c = c ≢ 39

-- the longest prefix of bytes that meet the condition, and the rest
pub record IsRun (P : ℕ → Type 0) (whole front after : List ℕ) : Type 0 where
  pub spelled : whole ≡ front ++ after
  pub all : All P front
  pub ends : ¬ HasAt 0 P after

-- a letter or `_`, then such, digits and `-`: each name and keyword
pub record IsNameOrKeyword (text : List ℕ) : Type 0 where
  pub starts : HasAt 0 IsWordStart text
  pub parts : All IsHyphenWordPart text

-- a digit or a sign
abbrev pub IsNumberStart : ℕ → Type 0
IsNumberStart c = IsAsciiDigit c ⊎ (c ≡ 43) ⊎ (c ≡ 45)

-- no letter, digit, sign or quote begins the text
pub record StartsAsPunctuation (whole : List ℕ) : Type 0 where
  pub letter : ¬ HasAt 0 IsWordStart whole
  pub number : ¬ HasAt 0 IsNumberStart whole
  pub quote : ¬ HasAt 0 (λ c. c ≡ 39) whole

-- the text's first token is of this kind, and the rest follows it
abbrev pub BeginsToken : List ℕ → TokenKind → List ℕ → Type 0
BeginsToken whole kind after = (text : List ℕ) × IsFirst whole kind text after

-- the token is at the offset in the text, and has no refusal
pub record StandsAt (text : List ℕ) (at : ℕ) (token : Token) : Type 0 where
  pub from : token.from ≡ at
  pub ordered : token.from < token.to
  pub within : token.to ≤ length text
  pub first : IsFirst (drop at text) token.kind (token_text_at text token) (drop token.to text)
  pub usable : IsUsable token.kind (token_text_at text token) (drop token.to text)
  pub value : HasValue token.kind (token_text_at text token)

-- the result of reading the token at the offset
abbrev pub ReadsAt : List ℕ → ℕ → Result Token TokenRefusal → Type 0
ReadsAt text at (Ok token) = StandsAt text at token
ReadsAt text at (Err refusal) = IsRefusalAt at (drop at text) refusal

-- the tokens are in the text up to white space that ends at the offset
pub record ReadUpTo (text : List ℕ) (tokens : List Token) (at : ℕ) : Type 0 where
  pub within : at ≤ length text
  pub blanks : List ℕ
  pub stand : AreTokens 0 text tokens (blanks ++ drop at text)
  pub blank : All IsBlank blanks
  pub ends : ¬ HasAt 0 IsBlank (drop at text)

-- the kind of a literal with this prefix letter: 104 is `h`, 98 is `b` and 116 is `t`
abbrev pub letter_kind : ℕ → Option TokenKind
letter_kind c = if c == 104 then Some Hex else if c == 98 then Some Binary else if c == 116 then Some Timestamp else None

-- no literal with a prefix letter begins the text
abbrev pub HasNoPrefixed : List ℕ → Type 0
HasNoPrefixed whole = (letter : ℕ) (inside more : List ℕ) → IsSome (letter_kind letter) → All (λ c. c ≢ 39) inside
    → whole ≢ letter ∷ 39 ∷ (inside ++ 39 ∷ more)

-- the refusal of a token without a value
abbrev pub invalid_value_refusal : TokenKind → ℕ → TokenRefusal
invalid_value_refusal Number at = BadNumber at
invalid_value_refusal Timestamp at = BadTime at
invalid_value_refusal _ at = BadBytes at

-- white space from the first offset to the second, and none after it
pub record ArePassed (text : List ℕ) (from to : ℕ) : Type 0 where
  pub ordered : from ≤ to
  pub within : to ≤ length text
  pub blank : All IsBlank (slice_range text from to)
  pub ends : ¬ HasAt 0 IsBlank (drop to text)

-- the kind of a one-byte mark
abbrev pub single_kind : ℕ → Option TokenKind
single_kind c =
    if c == 91 then Some SquareOpen else if c == 93 then Some SquareClose else if c == 40 then Some RoundOpen else if c == 41 then Some RoundClose else if c == 46 then Some Dot else if c == 58 then Some Colon else if c == 44 then Some Comma else if c == 42 then Some Star else if c == 61 then Some Equal else if c == 60 then Some Less else if c == 62 then Some Greater else None

-- the kind of the mark of this byte and `=`
abbrev pub double_kind : ℕ → Option TokenKind
double_kind c = if c == 33 then Some Differ else if c == 60 then Some LessEqual else if c == 62 then Some GreaterEqual else None
