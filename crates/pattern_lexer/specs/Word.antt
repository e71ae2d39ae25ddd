-- The punctuation, keywords and names of a pattern: tokens of the grammar of STIX 2.1, section 9.
use Rattle.std.specs.Prelude.{◌≡◌, ℕ, ◌⊎◌, List, [], ◌∷◌, All, Contains, IsSomeAnd, slice_get, codes, map}
use Rattle.std.specs.Char.{IsAsciiAlphabetic, IsAsciiDigit}
use Rattle.pattern_lexer.specs.declared.token.TokenKind.{TokenKind}
use Rattle.pattern_lexer.specs.declared.token.TokenKind.TheVariants.{SquareOpen, SquareClose, RoundOpen, RoundClose, Dot, Colon, Comma, Star, Equal, Differ, Less, LessEqual, Greater, GreaterEqual, And, Or, Not, FollowedBy, Within, Seconds, Repeats, Times, Start, Stop, Among, Like, Subset, Superset, Exists, TrueWord, FalseWord}

-- a letter a to z or A to Z, or `_`
abbrev pub IsWordStart : ℕ → Type 0
IsWordStart c = IsAsciiAlphabetic c ⊎ (c ≡ 95)

-- a letter, `_` or a digit
abbrev pub IsWordPart : ℕ → Type 0
IsWordPart c = IsWordStart c ⊎ IsAsciiDigit c

-- a letter, `_`, a digit or `-`
abbrev pub IsHyphenWordPart : ℕ → Type 0
IsHyphenWordPart c = IsWordPart c ⊎ (c ≡ 45)

-- the text has a byte at this offset, and it meets the condition
abbrev pub HasAt : ℕ → (ℕ → Type 0) → List ℕ → Type 0
HasAt place P text = IsSomeAnd (slice_get text place) P

-- the one spelling of a punctuation mark or keyword
abbrev pub spelling : TokenKind → List ℕ
spelling SquareOpen = codes "["
spelling SquareClose = codes "]"
spelling RoundOpen = codes "("
spelling RoundClose = codes ")"
spelling Dot = codes "."
spelling Colon = codes ":"
spelling Comma = codes ","
spelling Star = codes "*"
spelling Equal = codes "="
spelling Differ = codes "!="
spelling Less = codes "<"
spelling LessEqual = codes "<="
spelling Greater = codes ">"
spelling GreaterEqual = codes ">="
spelling And = codes "AND"
spelling Or = codes "OR"
spelling Not = codes "NOT"
spelling FollowedBy = codes "FOLLOWEDBY"
spelling Within = codes "WITHIN"
spelling Seconds = codes "SECONDS"
spelling Repeats = codes "REPEATS"
spelling Times = codes "TIMES"
spelling Start = codes "START"
spelling Stop = codes "STOP"
spelling Among = codes "IN"
spelling Like = codes "LIKE"
spelling Subset = codes "ISSUBSET"
spelling Superset = codes "ISSUPERSET"
spelling Exists = codes "EXISTS"
spelling TrueWord = codes "true"
spelling FalseWord = codes "false"
spelling _ = []

-- the keywords
abbrev pub keywords : List (List ℕ)
keywords = map spelling (And ∷ Or ∷ Not ∷ FollowedBy ∷ Within ∷ Seconds ∷ Repeats ∷ Times ∷ Start
    ∷ Stop ∷ Among ∷ Like ∷ Subset ∷ Superset ∷ Exists ∷ TrueWord ∷ FalseWord ∷ [])

-- Word = ( letter | "_" ) { letter | digit | "_" }, and no keyword
pub record IsWord (text : List ℕ) : Type 0 where
  pub starts : HasAt 0 IsWordStart text
  pub parts : All IsWordPart text
  pub free : ¬ (Contains keywords text)

-- HyphenWord = a Word that may have "-" after the first character, and has at least one
pub record IsHyphenWord (text : List ℕ) : Type 0 where
  pub starts : HasAt 0 IsWordStart text
  pub parts : All IsHyphenWordPart text
  pub hyphen : Contains text 45
