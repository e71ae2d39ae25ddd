use Rattle.pattern_reader.proofs.OneReadingLemmas.{one_refused}
use Rattle.pattern_reader.proofs.reader_laws.one_refusal.Goals as goal

pub returns : goal.returns
returns c = one_refused c.one_reading.ensures c.one_pattern.ensures c.one_answer.ensures.tree c.one_answer.ensures.refusal c.none_refused.ensures c.one_refusal.ensures
