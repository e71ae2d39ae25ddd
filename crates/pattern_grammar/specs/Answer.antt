-- The result of parsing all of the tokens, and the byte offset of a refusal.
use Rattle.std.specs.Prelude.{◌≡◌, List, [], ◌∷◌, ◌++◌, ℕ, Result, Ok, Err}
use Rattle.pattern_lexer.specs.declared.token.Token.{Token}
use Rattle.pattern_grammar.specs.declared.stop.Stop.{Stop, TheVariants.Memory, TheVariants.Syntax}
use Rattle.pattern_grammar.specs.{Tree.Tree, Tree.shape, Grammar.IsPattern, inner.Machine.Prefix, declared.pattern.PatternTree.PatternTree}
use Rattle.pattern_grammar.specs.{Prefixes.PrefixOf, Prefixes.line, Prefixes.pattern, declared.refusal.SyntaxRefusal.SyntaxRefusal}
use Rattle.pattern_grammar.specs.declared.refusal.SyntaxRefusal.TheVariants as refused
use Rattle.pattern_grammar.specs.Depth.{NoneTooMany, FirstTooMany}

-- the tokens are a viable prefix of a pattern
abbrev pub BeginsPattern : List Token → Type 0
BeginsPattern = PrefixOf (line pattern)

-- some extension of the tokens is a pattern
abbrev pub Completes : List Token → Type 0
Completes = Prefix IsPattern

-- the tokens before the rest are a viable prefix, and with the first of the rest they aren't; with
-- no rest they aren't a pattern
abbrev pub EndsAt : List Token → List Token → Type 0
EndsAt read [] = (p : Tree) → ¬ IsPattern read p
EndsAt read (t ∷ rest) = ¬ BeginsPattern (read ++ t ∷ [])

pub record SyntaxErrorAt (ts rest : List Token) : Type 0 where
  pub read : List Token
  pub all_are : ts ≡ read ++ rest
  pub prefix : BeginsPattern read
  pub ends : EndsAt read rest

abbrev pub SyntaxError : List Token → Stop → Type 0
SyntaxError ts Memory = Unit {0}
SyntaxError ts (Syntax rest) = SyntaxErrorAt ts rest.now

-- the byte offset of the rest in a text of this length
abbrev pub offset : List Token → ℕ → ℕ
offset [] end = end
offset (t ∷ ts) end = t.from

-- the tokens before the rest are a viable prefix, with its first they aren't, and none of them
-- exceeds a limit
pub record SyntaxAt (ts : List Token) (end at : ℕ) : Type 0 where
  pub rest : List Token
  pub syntax_error : SyntaxErrorAt ts rest
  pub shallow : NoneTooMany syntax_error.read
  pub here : at ≡ offset rest end

-- the tokens through the first that exceeds a limit are a viable prefix
pub record DeepAt (ts : List Token) (at : ℕ) : Type 0 where
  pub first : FirstTooMany ts
  pub prefix : BeginsPattern (first.before ++ first.token ∷ [])
  pub here : at ≡ first.token.from

-- why the tokens of a text of this length aren't a pattern
abbrev pub IsMisread : List Token → ℕ → SyntaxRefusal → Type 0
IsMisread ts end (refused.Syntax at) = SyntaxAt ts end at
IsMisread ts end (refused.TooDeep at) = DeepAt ts at

-- the tokens have this syntax tree, and none of them exceeds a limit
pub record IsTreeOf (ts : List Token) (tree : Tree) : Type 0 where
  pub spells : IsPattern ts tree
  pub shallow : NoneTooMany ts

-- the result of parsing the tokens of a text of this length
abbrev pub AnswersTree : List Token → ℕ → Result PatternTree SyntaxRefusal → Type 0
AnswersTree ts end (Ok tree) = IsTreeOf ts (shape tree)
AnswersTree ts end (Err refusal) = IsMisread ts end refusal
