-- The values of the tokens of a text.
use Rattle.std.specs.Prelude.{◌≡◌, ◌≤◌, ℕ, List, slice_range, pos}
use Rattle.std.specs.Str.{IsCharBoundary}
use Rattle.pattern_lexer.specs.{declared.token.Token.Token, Values.IsIntegerText}

-- the token's range is in the text, at character boundaries
pub record IsCut (text : List ℕ) (token : Token) : Type 0 where
  pub ordered : token.from ≤ token.to
  pub from : IsCharBoundary text token.from
  pub to : IsCharBoundary text token.to

-- the token's text
abbrev pub token_text_at : List ℕ → Token → List ℕ
token_text_at text token = slice_range text token.from token.to

-- the token is in the text, and its text has the value
pub record At {V : Type 0} (IsTextOf : List ℕ → V → Type 0) (text : List ℕ) (token : Token) (value : V) : Type 0 where
  pub cut : IsCut text token
  pub is : IsTextOf (token_text_at text token) value

-- a text is its own value
abbrev pub IsItself : List ℕ → List ℕ → Type 0
IsItself text value = value ≡ text

-- the number in the brackets of a path: 0 to 4294967295
pub record IsIndexToken (text : List ℕ) (token : Token) (place : ℕ) : Type 0 where
  pub whole : At IsIntegerText text token (pos place)
  pub high : place ≤ 4_294_967_295

-- the number after WITHIN or REPEATS: 1 to 4294967295
pub record IsCount (text : List ℕ) (token : Token) (count : ℕ) : Type 0 where
  pub whole : At IsIntegerText text token (pos count)
  pub low : 1 ≤ count
  pub high : count ≤ 4_294_967_295
