-- The pattern that a text is read as, and why other texts are refused.
use Rattle.std.specs.Prelude.{◌<◌, ◌≤◌, ℕ, List, length}
use Rattle.pattern_lexer.specs.declared.token.Token.{Token}
use Rattle.pattern_lexer.specs.Reading.{TokensOf, HasRefusal}
use Rattle.pattern_grammar.specs.{declared.refusal.SyntaxRefusal.SyntaxRefusal, Tree.Tree, Answer.IsTreeOf, Answer.IsMisread}
use Rattle.pattern_types.specs.{declared.pattern.Pattern.Pattern, PlainPattern.plain_pattern}
use Rattle.pattern_reader.specs.{declared.value_refusal.ValueRefusal.ValueRefusal, ValueRefusal.IsEarliest, Refusals.RefusalOf}
use Rattle.pattern_reader.specs.Answer.{IsNarrowlyMeant, IsWidelyMeant}
use Rattle.pattern_reader.specs.declared.{read.TheConstants.MAX_TEXT, pattern_refusal.PatternRefusal.PatternRefusal}
use Rattle.pattern_reader.specs.declared.pattern_refusal.PatternRefusal.TheVariants.{TooLong, Token as TokenRefused, Syntax, Value, TooWide, NoMemory}

-- the text isn't too long
abbrev pub IsShortText : List ℕ → Type 0
IsShortText text = length text ≤ MAX_TEXT

-- the tokens of the text have the syntax tree, within the limits of depth
pub record IsSpelled (text : List ℕ) (tree : Tree) : Type 0 where
  pub tokens : List Token
  pub of_text : TokensOf text tokens
  pub of_tokens : IsTreeOf tokens tree

-- the text has a syntax tree, which means the pattern within all limits
pub record IsReadAs (text : List ℕ) (pattern : Pattern) : Type 0 where
  pub short : IsShortText text
  pub tree : Tree
  pub spelled : IsSpelled text tree
  pub meant : IsNarrowlyMeant text tree (plain_pattern pattern)

-- its tokens have no syntax tree, for this refusal
pub record IsUnspelled (text : List ℕ) (refusal : SyntaxRefusal) : Type 0 where
  pub tokens : List Token
  pub of_text : TokensOf text tokens
  pub misread : IsMisread tokens (length text) refusal

-- they have one in which this value is the first refused one
pub record IsFaulty (text : List ℕ) (refusal : ValueRefusal) : Type 0 where
  pub tree : Tree
  pub spelled : IsSpelled text tree
  pub earliest : IsEarliest (RefusalOf text tree) refusal

-- they have one that means a pattern that is too wide
pub record IsWide (text : List ℕ) : Type 0 where
  pub tree : Tree
  pub spelled : IsSpelled text tree
  pub wide : IsWidelyMeant text tree

-- why a text is refused: by its length; by its tokens, by their order, by their values; by the width of
-- its pattern
abbrev pub IsRefusedAs : List ℕ → PatternRefusal → Type 0
IsRefusedAs text TooLong = MAX_TEXT < length text
IsRefusedAs text (TokenRefused refusal) = IsShortText text × HasRefusal text refusal
IsRefusedAs text (Syntax refusal) = IsShortText text × IsUnspelled text refusal
IsRefusedAs text (Value refusal) = IsShortText text × IsFaulty text refusal
IsRefusedAs text TooWide = IsShortText text × IsWide text
IsRefusedAs text NoMemory = ⊥
