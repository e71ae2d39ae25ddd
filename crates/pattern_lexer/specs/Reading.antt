-- The result of tokenizing a text: the tokens, or the first refusal from the left.
use Rattle.std.specs.Prelude.{◌≡◌, ℕ, ◌+◌, ◌-◌, ◌≤◌, ◌⊎◌, List, [], ◌∷◌, ◌++◌, length, slice_get, Some, All, codes, Result, Ok, Err}
use Rattle.std.specs.Char.{IsAsciiDigit}
use Rattle.pattern_lexer.specs.declared.{token.Token.Token, token.TokenKind.TokenKind, refusal.LeftWord.LeftWord}
use Rattle.pattern_lexer.specs.declared.token.TokenKind.TheVariants.{Equal, Less, Number, Hex, Binary, Timestamp}
use Rattle.pattern_lexer.specs.declared.refusal.LeftWord.TheVariants.{Matches, Fraction, DoubleEqual, LessGreater}
use Rattle.pattern_lexer.specs.{declared.refusal.TokenRefusal.TokenRefusal, Word.IsWordStart, Word.HasAt, Values.HasValue, Table.IsToken}
use Rattle.pattern_lexer.specs.declared.refusal.TokenRefusal.TheVariants.{BadToken, LeftOut, BadNumber, BadTime, BadBytes}

-- a space, a tab, a carriage return or a line feed, which belongs to no token
abbrev pub IsBlank : ℕ → Type 0
IsBlank c = (c ≡ 32) ⊎ (c ≡ 9) ⊎ (c ≡ 13) ⊎ (c ≡ 10)

-- the token at the start of a text: the longest text in the table, and the bytes after it
pub record IsFirst (whole : List ℕ) (kind : TokenKind) (text after : List ℕ) : Type 0 where
  pub spelled : whole ≡ text ++ after
  pub token : IsToken kind text
  pub longest : (other : TokenKind) (longer more : List ℕ) → whole ≡ longer ++ more → IsToken other longer → length longer ≤ length text

-- a Number that is directly followed by a letter or `_`
pub record RunsOn (kind : TokenKind) (after : List ℕ) : Type 0 where
  pub number : kind ≡ Number
  pub letter : HasAt 0 IsWordStart after

-- unsupported syntax: the word MATCHES, a Number directly followed by `.` and a digit, `==` and
-- `<>`
abbrev pub IsUnsupported : LeftWord → TokenKind → List ℕ → List ℕ → Type 0
IsUnsupported Matches kind text after = text ≡ codes "MATCHES"
IsUnsupported Fraction kind text after = (kind ≡ Number) × (slice_get after 0 ≡ Some 46) × HasAt 1 IsAsciiDigit after
IsUnsupported DoubleEqual kind text after = (kind ≡ Equal) × (slice_get after 0 ≡ Some 61)
IsUnsupported LessGreater kind text after = (kind ≡ Less) × (slice_get after 0 ≡ Some 62)

-- the token ends there, and is supported
pub record IsUsable (kind : TokenKind) (text after : List ℕ) : Type 0 where
  pub ends : ¬ RunsOn kind after
  pub used : (word : LeftWord) → ¬ IsUnsupported word kind text after

-- the token follows white space in the rest of a text, and has no refusal; the rest begins at
-- offset `at`
pub record IsNextToken (at : ℕ) (left : List ℕ) (token : Token) (after : List ℕ) : Type 0 where
  pub blanks : List ℕ
  pub text : List ℕ
  pub blank : All IsBlank blanks
  pub spelled : left ≡ blanks ++ text ++ after
  pub first : IsFirst (text ++ after) token.kind text after
  pub usable : IsUsable token.kind text after
  pub value : HasValue token.kind text
  pub from : token.from ≡ at + length blanks
  pub to : token.to ≡ token.from + length text

-- the tokens follow one another in the rest of a text, which begins at the offset; the remainder
-- follows them
abbrev pub AreTokens : ℕ → List ℕ → List Token → List ℕ → Type 0
AreTokens at left [] rest = left ≡ rest
AreTokens at left (token ∷ tokens) rest = (after : List ℕ) × IsNextToken at left token after × AreTokens token.to after tokens rest

-- the text has these tokens, with white space after the last
pub record TokensOf (text : List ℕ) (tokens : List Token) : Type 0 where
  pub rest : List ℕ
  pub stand : AreTokens 0 text tokens rest
  pub blank : All IsBlank rest

-- no token begins the text: so too at a `'` that isn't closed, or with a backslash before a
-- character other than `'` and `\` after it
abbrev pub HasNoToken : List ℕ → Type 0
HasNoToken whole = (kind : TokenKind) (text after : List ℕ) → whole ≡ text ++ after → ¬ IsToken kind text

-- the token at the start of the text runs into a letter
pub record IsUnterminated (whole : List ℕ) : Type 0 where
  pub kind : TokenKind
  pub text : List ℕ
  pub after : List ℕ
  pub first : IsFirst whole kind text after
  pub runs_on : RunsOn kind after

-- it has an end, and is not supported
pub record IsUnsupportedToken (whole : List ℕ) (word : LeftWord) : Type 0 where
  pub kind : TokenKind
  pub text : List ℕ
  pub after : List ℕ
  pub first : IsFirst whole kind text after
  pub ends : ¬ RunsOn kind after
  pub left_out : IsUnsupported word kind text after

-- it has an end and is supported, is of this kind, and has no value
pub record IsInvalidValue (whole : List ℕ) (kind : TokenKind) : Type 0 where
  pub text : List ℕ
  pub after : List ℕ
  pub first : IsFirst whole kind text after
  pub usable : IsUsable kind text after
  pub invalid_value : ¬ HasValue kind text

-- the refusal of the token that begins the text, at this offset
abbrev pub IsRefusalAt : ℕ → List ℕ → TokenRefusal → Type 0
IsRefusalAt place whole (BadToken at) = (at ≡ place) × (HasNoToken whole ⊎ IsUnterminated whole)
IsRefusalAt place whole (LeftOut at word) = (at ≡ place) × IsUnsupportedToken whole word
IsRefusalAt place whole (BadNumber at) = (at ≡ place) × IsInvalidValue whole Number
IsRefusalAt place whole (BadTime at) = (at ≡ place) × IsInvalidValue whole Timestamp
IsRefusalAt place whole (BadBytes at) = (at ≡ place) × (IsInvalidValue whole Hex ⊎ IsInvalidValue whole Binary)

-- tokens without a refusal, then white space, then a non-blank byte with the refusal
pub record HasRefusal (text : List ℕ) (refusal : TokenRefusal) : Type 0 where
  pub tokens : List Token
  pub blanks : List ℕ
  pub rest : List ℕ
  pub stand : AreTokens 0 text tokens (blanks ++ rest)
  pub blank : All IsBlank blanks
  pub begins : HasAt 0 (λ c. ¬ IsBlank c) rest
  pub refused : IsRefusalAt (length text - length rest) rest refusal

-- the result of tokenizing the text
abbrev pub ReadsTokens : List ℕ → Result (List Token) TokenRefusal → Type 0
ReadsTokens text (Ok tokens) = TokensOf text tokens
ReadsTokens text (Err refusal) = HasRefusal text refusal
