use Rattle.pattern_reader.proofs.NoValueLemmas.{no_value}
use Rattle.pattern_reader.proofs.reader_laws.no_value.Goals as goal

pub returns : goal.returns
returns c = λ text at x. no_value text at x.1
