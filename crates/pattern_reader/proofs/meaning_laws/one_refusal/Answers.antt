use Rattle.pattern_reader.specs.Refusals.{RefusalOf}
use Rattle.pattern_reader.proofs.EarliestLemmas.{one_earliest}
use Rattle.pattern_reader.proofs.meaning_laws.one_refusal.Goals as goal

pub returns : goal.returns
returns c = λ text tree. one_earliest (RefusalOf text tree)
