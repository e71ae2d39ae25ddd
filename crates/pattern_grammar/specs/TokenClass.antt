-- Sets of token kinds that the grammar allows at one point.
use denote.Enum.Bare.{sameb}
use Rattle.std.specs.Prelude.{◌≡◌, Bool, true, ◌||◌}
use Rattle.pattern_lexer.specs.{contracts.token.TokenKind.the_type, declared.token.Token.Token, declared.token.TokenKind.TokenKind}
use Rattle.pattern_lexer.specs.declared.token.TokenKind.TheVariants.{SquareOpen, Dot, Star, Equal, Differ, Less, LessEqual, Greater, GreaterEqual, Within, Repeats, Start, Like, Subset, Superset, TrueWord, FalseWord, Word, HyphenWord, Number, String, Hex, Binary, Timestamp}
use Rattle.pattern_grammar.specs.declared.class.TokenClass.{TokenClass}
use Rattle.pattern_grammar.specs.declared.class.TokenClass.TheVariants.{Only, Root, Name, Index, Equality, Order, Textual, Ordered, Constant, Qualifying, Stepping}

-- the two kinds are equal
abbrev pub is_same_kind : TokenKind → TokenKind → Bool
is_same_kind a b = sameb the_type a b

-- a constant that has an order
abbrev pub is_ordered : TokenKind → Bool
is_ordered kind = is_same_kind Number kind || is_same_kind String kind || is_same_kind Hex kind || is_same_kind Binary kind || is_same_kind Timestamp kind

-- the class has the kind. The classes are object types, properties, indices in brackets, operators,
-- constants, and the first tokens of qualifiers and of further steps
abbrev pub is_in : TokenClass → TokenKind → Bool
is_in (Only expected) kind = is_same_kind expected kind
is_in Root kind = is_same_kind Word kind || is_same_kind HyphenWord kind
is_in Name kind = is_same_kind Word kind || is_same_kind String kind
is_in Index kind = is_same_kind Number kind || is_same_kind Star kind
is_in Equality kind = is_same_kind Equal kind || is_same_kind Differ kind
is_in Order kind = is_same_kind Less kind || is_same_kind LessEqual kind || is_same_kind Greater kind || is_same_kind GreaterEqual kind
is_in Textual kind = is_same_kind Like kind || is_same_kind Subset kind || is_same_kind Superset kind
is_in Ordered kind = is_ordered kind
is_in Constant kind = is_ordered kind || is_same_kind TrueWord kind || is_same_kind FalseWord kind
is_in Qualifying kind = is_same_kind Within kind || is_same_kind Repeats kind || is_same_kind Start kind
is_in Stepping kind = is_same_kind Dot kind || is_same_kind SquareOpen kind

-- the token is of the class
abbrev pub IsA : TokenClass → Token → Type 0
IsA class token = is_in class token.kind ≡ true
