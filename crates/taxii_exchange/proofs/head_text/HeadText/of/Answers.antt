use Rattle.taxii_exchange.proofs.AnswerLemmas.{head_of_lines}
use Rattle.taxii_exchange.proofs.head_text.HeadText.of.Goals as goal

pub returns : goal.returns
returns c =
    head_of_lines _ _ _ _ _ _ _ _ _ _ _ _ _ c.push_status.ensures.line
    c.push_if_some.ensures.line c.media_type.ensures.value
    c.push_if_some-2.ensures.line c.methods.ensures.value
    c.push_date.ensures.line c.push_date-2.ensures.line
    c.push_length.ensures.line c.body_length.ensures
    c.push_close.ensures.line c.push.ensures
