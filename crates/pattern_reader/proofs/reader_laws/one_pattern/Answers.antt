use Rattle.pattern_reader.proofs.OneReadingLemmas.{one_read}
use Rattle.pattern_reader.proofs.reader_laws.one_pattern.Goals as goal

pub returns : goal.returns
returns c = one_read c.one_reading.ensures c.one_pattern.ensures c.one_meaning.ensures
