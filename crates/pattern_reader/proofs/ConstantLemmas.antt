-- Constants that tokens don't represent.
use Rattle.std.proofs.Common.{◌≡◌, inl, inr, ℕ, ℤ, List, sym, ◌∙◌}
use Rattle.pattern_lexer.specs.declared.token.Token.{Token}
use Rattle.pattern_lexer.specs.declared.token.TokenKind.TheVariants as kind
use Rattle.pattern_lexer.specs.Values.{IsHexText, IsTimestampText}
use Rattle.pattern_types.specs.declared.constant.Constant.{Constant}
use Rattle.pattern_types.specs.declared.constant.Constant.TheVariants as constant
use Rattle.pattern_lexer.specs.Spans.{At}
use Rattle.pattern_reader.specs.Meaning.{IsConstantOf}

pub no_hex : (text : List ℕ) (token : Token) → token.kind ≡ kind.Hex → ((bytes : List ℕ) → ¬ At IsHexText text token bytes) → (other : Constant) → ¬ IsConstantOf text token other
no_hex text token e none (constant.Boolean truth) (inl h) = let g = sym e ∙ h.0 in absurd (cc)
no_hex text token e none (constant.Boolean truth) (inr h) = let g = sym e ∙ h.0 in absurd (cc)
no_hex text token e none (constant.Hex bytes) h = none bytes h.1
no_hex text token e none _ h = let g = sym e ∙ h.0 in absurd (cc)

pub no_time : (text : List ℕ) (token : Token) → token.kind ≡ kind.Timestamp → ((instant : ℤ) → ¬ At IsTimestampText text token instant) → (other : Constant) → ¬ IsConstantOf text token other
no_time text token e none (constant.Boolean truth) (inl h) = let g = sym e ∙ h.0 in absurd (cc)
no_time text token e none (constant.Boolean truth) (inr h) = let g = sym e ∙ h.0 in absurd (cc)
no_time text token e none (constant.Timestamp instant) h = none instant h.1
no_time text token e none _ h = let g = sym e ∙ h.0 in absurd (cc)
