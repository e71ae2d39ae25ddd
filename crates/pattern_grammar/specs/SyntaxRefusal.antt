-- The name of a refusal, and its byte offset.
use Rattle.std.specs.Prelude.{ℕ, List, codes}
use Rattle.pattern_grammar.specs.declared.refusal.SyntaxRefusal.{SyntaxRefusal, TheVariants.Syntax, TheVariants.TooDeep}

-- its name
abbrev pub syntax_refusal_name : SyntaxRefusal → List ℕ
syntax_refusal_name (Syntax at) = codes "Syntax"
syntax_refusal_name (TooDeep at) = codes "TooDeep"

-- its byte offset
abbrev pub syntax_refusal_offset : SyntaxRefusal → ℕ
syntax_refusal_offset (Syntax at) = at
syntax_refusal_offset (TooDeep at) = at
