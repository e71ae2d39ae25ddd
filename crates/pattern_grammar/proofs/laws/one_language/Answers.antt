use Rattle.pattern_grammar.proofs.DerivesLemmas.{derive_pattern, spell_pattern}
use Rattle.pattern_grammar.proofs.laws.one_language.Goals as goal

pub returns-clause-derived : goal.returns-clause-derived
returns-clause-derived c = λ ts p x. derive_pattern x

pub returns-clause-spelled : goal.returns-clause-spelled
returns-clause-spelled c = λ ts x. let h = spell_pattern x in (h.value, h.spells)
