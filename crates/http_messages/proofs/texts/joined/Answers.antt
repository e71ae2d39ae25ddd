use Rattle.std.proofs.Common.{◌∙◌}
use Rattle.http_messages.proofs.ValueLemmas.{joined_is}
use Rattle.http_messages.proofs.texts.joined.Goals as goal

pub returns : goal.returns
returns c =
    joined_is _ c.in-Some.first.now _ _ _ c.loop-value.value-index c.in-Some.ensures.cases.0 (c.in_ok-text.ensures ∙ c.text_of.ensures) c.loop-value.invariant c.loop-value-test.false
