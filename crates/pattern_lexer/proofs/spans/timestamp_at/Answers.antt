use Rattle.std.proofs.Common.{ℤ, List, ℕ, Option, Some, None, IfNone}
use Rattle.pattern_lexer.specs.declared.token.Token.{Token}
use Rattle.pattern_lexer.specs.Values.{IsTimestampText}
use Rattle.pattern_lexer.specs.Spans.{At, IsItself}
use Rattle.pattern_lexer.proofs.SpansLemmas.{no_value}
use Rattle.pattern_lexer.proofs.spans.timestamp_at.Goals as goal

none_at : (text : List ℕ) (token : Token) (part : List ℕ) (o : Option ℤ) → At IsItself text token part → IfNone o ((i : ℤ) → ¬ IsTimestampText part i) → IfNone o ((i : ℤ) → ¬ At IsTimestampText text token i)
none_at text token part None p h = λ i. no_value text token part p h i
none_at text token part (Some i) p h = tt

pub returns-clause-none : goal.returns-clause-none
returns-clause-none c = none_at _ _ _ _ c.in_ok-text_of.ensures.some c.timestamp_of.ensures.none
