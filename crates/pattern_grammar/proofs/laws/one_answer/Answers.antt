use Rattle.pattern_grammar.proofs.OneAnswerLemmas.{not_misread, one_refusal}
use Rattle.pattern_grammar.proofs.laws.one_answer.Goals as goal

pub returns-clause-tree : goal.returns-clause-tree
returns-clause-tree c = not_misread

pub returns-clause-refusal : goal.returns-clause-refusal
returns-clause-refusal c = one_refusal
