use Rattle.pattern_lexer.specs.Values.{IsHexText}
use Rattle.pattern_lexer.proofs.TokenValueLemmas.{has_found}
use Rattle.pattern_lexer.proofs.refusals.is_hex.Goals as goal

pub returns : goal.returns
returns c = has_found IsHexText c.args.text.now c.args.token c.in_ok-bytes.bytes c.is_some.result c.requires c.in_ok-bytes.ensures c.is_some.ensures
