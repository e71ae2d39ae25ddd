-- The limits on nesting. A token exceeds one if it is a `(` while MAX_DEPTH parentheses are open,
-- or the first of a qualifier after MAX_DEPTH of them.
use Rattle.std.specs.Prelude.{◌≡◌, ℕ, ◌+◌, ◌≤◌, ◌⊎◌, List, [], ◌∷◌, ◌++◌, count_by}
use Rattle.pattern_lexer.specs.declared.token.Token.{Token}
use Rattle.pattern_lexer.specs.declared.token.TokenKind.TheVariants.{RoundOpen, RoundClose, Among}
use Rattle.pattern_grammar.specs.declared.class.TokenClass.{TokenClass, TheVariants.Only, TheVariants.Qualifying}
use Rattle.pattern_grammar.specs.declared.depth.TheConstants.{MAX_DEPTH}
use Rattle.pattern_grammar.specs.TokenClass.{is_in, IsA}

-- the number of tokens of the class
abbrev pub class_count : TokenClass → List Token → ℕ
class_count class ts = count_by (λ t. is_in class t.kind) ts

-- the last of the tokens is IN
pub record EndsWithIn (ts : List Token) : Type 0 where
  pub prefix : List Token
  pub last : Token
  pub spelled : ts ≡ prefix ++ last ∷ []
  pub among : IsA (Only Among) last

-- a `(` while MAX_DEPTH more `(` than `)` precede it, but not the one directly after IN
pub record IsDeepOpen (before : List Token) (token : Token) : Type 0 where
  pub opens : IsA (Only RoundOpen) token
  pub groups : ¬ EndsWithIn before
  pub deep : class_count (Only RoundClose) before + MAX_DEPTH ≤ class_count (Only RoundOpen) before

-- the first token of a qualifier after MAX_DEPTH of them
pub record IsDeepQualifier (before : List Token) (token : Token) : Type 0 where
  pub qualifies : IsA Qualifying token
  pub deep : MAX_DEPTH ≤ class_count Qualifying before

-- the token after those exceeds a limit
abbrev pub IsTooMany : List Token → Token → Type 0
IsTooMany before token = IsDeepOpen before token ⊎ IsDeepQualifier before token

-- none of the tokens exceeds a limit
abbrev pub NoneTooMany : List Token → Type 0
NoneTooMany ts = (before : List Token) (token : Token) (after : List Token) → ts ≡ before ++ token ∷ after → ¬ IsTooMany before token

-- the first token that exceeds a limit, and the tokens around it
pub record FirstTooMany (ts : List Token) : Type 0 where
  pub before : List Token
  pub token : Token
  pub after : List Token
  pub spelled : ts ≡ before ++ token ∷ after
  pub none_before : NoneTooMany before
  pub too_many : IsTooMany before token

-- none but the last exceeds a limit
abbrev pub IsShallow : List Token → Type 0
IsShallow ts = (before : List Token) (token : Token) (after : List Token) → ts ≡ before ++ token ∷ after → IsTooMany before token → after ≡ []
