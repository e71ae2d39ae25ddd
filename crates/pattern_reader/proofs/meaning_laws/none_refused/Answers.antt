use Rattle.pattern_reader.proofs.NoneRefusedLemmas.{none_is_refused}
use Rattle.pattern_reader.proofs.meaning_laws.none_refused.Goals as goal

pub returns : goal.returns
returns c = none_is_refused
