use Rattle.pattern_types.proofs.LeavesLemmas.{leaves_brackets}
use Rattle.pattern_types.proofs.leaf_laws.leaves_are_brackets.Goals as goal

pub returns : goal.returns
returns c = leaves_brackets
