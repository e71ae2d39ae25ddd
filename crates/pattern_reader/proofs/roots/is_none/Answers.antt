use Rattle.pattern_reader.proofs.RootSetLemmas.{no_names, some_name}
use Rattle.pattern_reader.proofs.roots.is_none.Goals as goal

pub returns-clause-none : goal.returns-clause-none
returns-clause-none c = no_names _ _ c.is_empty.ensures

pub returns-clause-some : goal.returns-clause-some
returns-clause-some c = some_name _ _ c.is_empty.ensures
