-- The refusals of a pattern: their names, byte offsets, and texts.
use Rattle.std.specs.Prelude.{ℕ, List, ◌++◌, codes, decimal, Option, Some, None}
use Rattle.pattern_lexer.specs.TokenRefusal as token
use Rattle.pattern_grammar.specs.SyntaxRefusal as syntax
use Rattle.pattern_reader.specs.ValueRefusal as value
use Rattle.pattern_reader.specs.declared.pattern_refusal.PatternRefusal.{PatternRefusal}
use Rattle.pattern_reader.specs.declared.pattern_refusal.PatternRefusal.TheVariants.{TooLong, Token, Syntax, Value, TooWide, NoMemory}

abbrev pub pattern_refusal_name : PatternRefusal → List ℕ
pattern_refusal_name TooLong = codes "TooLong"
pattern_refusal_name (Token refusal) = token.token_refusal_name refusal
pattern_refusal_name (Syntax refusal) = syntax.syntax_refusal_name refusal
pattern_refusal_name (Value refusal) = value.value_refusal_name refusal
pattern_refusal_name TooWide = codes "TooWide"
pattern_refusal_name NoMemory = codes "out of memory"

abbrev pub pattern_refusal_offset : PatternRefusal → Option ℕ
pattern_refusal_offset (Token refusal) = Some (token.token_refusal_offset refusal)
pattern_refusal_offset (Syntax refusal) = Some (syntax.syntax_refusal_offset refusal)
pattern_refusal_offset (Value refusal) = Some (value.value_refusal_offset refusal)
pattern_refusal_offset _ = None

-- a name, and an offset if there is one
abbrev pub placed_text : List ℕ → Option ℕ → List ℕ
placed_text name None = name
placed_text name (Some at) = name ++ (codes " at " ++ decimal at)

abbrev pub pattern_refusal_text : PatternRefusal → List ℕ
pattern_refusal_text refusal = placed_text (pattern_refusal_name refusal) (pattern_refusal_offset refusal)
