use Rattle.std.proofs.Common.{◌∙◌}
use Rattle.http_messages.proofs.ValueLemmas.{utf8_test}
use Rattle.http_messages.proofs.texts.is_text.Goals as goal

pub returns : goal.returns
returns c = c.is_ok.ensures.value ∙ utf8_test (λ s. s.now) _ _ _ c.from_utf8.ensures.cases
