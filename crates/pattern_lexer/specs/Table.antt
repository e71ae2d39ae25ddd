-- The table of tokens (STIX 2.1, section 9): which texts are tokens of a kind.
use Rattle.std.specs.Prelude.{◌≡◌, ℕ, List, codes}
use Rattle.pattern_lexer.specs.{declared.token.TokenKind.TokenKind, Word.IsWord, Word.IsHyphenWord, Word.spelling}
use Rattle.pattern_lexer.specs.declared.token.TokenKind.TheVariants.{Word, HyphenWord, Number, String, Hex, Binary, Timestamp}
use Rattle.pattern_lexer.specs.Values.{IsNumberText, IsStringText, IsPrefixedText}

-- the text is a token of this kind, with or without a value
abbrev pub IsToken : TokenKind → List ℕ → Type 0
IsToken Word text = IsWord text
IsToken HyphenWord text = IsHyphenWord text
IsToken Number text = IsNumberText text
IsToken String text = (words : List ℕ) × IsStringText text words
IsToken Hex text = (inside : List ℕ) × IsPrefixedText (codes "h") text inside
IsToken Binary text = (inside : List ℕ) × IsPrefixedText (codes "b") text inside
IsToken Timestamp text = (inside : List ℕ) × IsPrefixedText (codes "t") text inside
IsToken kind text = text ≡ spelling kind
