use Rattle.pattern_reader.proofs.OneReadingLemmas.{not_refused}
use Rattle.pattern_reader.proofs.reader_laws.none_refused.Goals as goal

pub returns : goal.returns
returns c = not_refused c.one_reading.ensures c.one_pattern.ensures c.one_answer.ensures.tree c.one_meaning.ensures c.none_refused.ensures
