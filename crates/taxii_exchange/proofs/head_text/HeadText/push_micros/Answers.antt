use Rattle.taxii_exchange.proofs.AnswerLemmas.{some_is, pushes_date}
use Rattle.taxii_exchange.proofs.head_text.HeadText.push_micros.Goals as goal

pub returns-clause-line : goal.returns-clause-line
returns-clause-line c =
    pushes_date _ _ _ _ _ _ c.write_micros-end.ensures.text
    (some_is _ _ _ _ c.from_micros.ensures c.unwrap-instant.ensures)
    c.push_line.ensures.line
