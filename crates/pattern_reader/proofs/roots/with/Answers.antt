use Rattle.pattern_reader.proofs.RootSetLemmas.{joined_names}
use Rattle.pattern_reader.proofs.roots.with.Goals as goal

pub returns : goal.returns
returns c = joined_names _ _ _ c.in_ok-append.ensures.inserts_all.0
