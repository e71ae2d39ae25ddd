use Rattle.taxii_exchange.proofs.AnswerLemmas.{one_text}
use Rattle.taxii_exchange.proofs.laws.one_answer_text.Goals as goal

pub returns : goal.returns
returns c = one_text c.one_text_of_digits.ensures
