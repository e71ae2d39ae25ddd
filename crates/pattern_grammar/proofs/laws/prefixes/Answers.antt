use Rattle.pattern_grammar.proofs.DerivesLemmas.{prefix_completes, completes_prefix}
use Rattle.pattern_grammar.proofs.laws.prefixes.Goals as goal

pub returns-clause-continues : goal.returns-clause-continues
returns-clause-continues c = λ ts x. prefix_completes x

pub returns-clause-begins : goal.returns-clause-begins
returns-clause-begins c = λ ts more p x. completes_prefix (record { more = more; value = p; spells = x })
