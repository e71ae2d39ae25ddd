use Rattle.std.proofs.Common.{◌↔◌, IsTrue, subst, sym}
use Rattle.pattern_lexer.specs.declared.token.TokenKind.TheVariants.{Hex, Binary}
use Rattle.pattern_lexer.specs.Values.{HasValue, IsTimestampText}
use Rattle.pattern_lexer.specs.Spans.{token_text_at}
use Rattle.pattern_lexer.proofs.TokenValueLemmas.{has_one, at_kind}
use Rattle.pattern_lexer.proofs.refusals.has_value.Goals as goal

pub returns-in-Timestamp : goal.returns-in-Timestamp
returns-in-Timestamp c =
    let text = c.args.text.now in
    let token = c.args.token in
    subst (λ kind. IsTrue c.is_some-in-Timestamp.result ↔ HasValue kind (token_text_at text token)) (sym c.in-Timestamp.is)
    (has_one IsTimestampText text token c.timestamp_at.result c.is_some-in-Timestamp.result c.requires.cut c.timestamp_at.ensures.some c.timestamp_at.ensures.none c.is_some-in-Timestamp.ensures)

pub returns-in-Hex : goal.returns-in-Hex
returns-in-Hex c = at_kind c.args.token.kind Hex (token_text_at c.args.text.now c.args.token) c.is_hex.result c.in-Hex.is c.is_hex.ensures

pub returns-in-Binary : goal.returns-in-Binary
returns-in-Binary c = at_kind c.args.token.kind Binary (token_text_at c.args.text.now c.args.token) c.is_base64.result c.in-Binary.is c.is_base64.ensures
