use Rattle.pattern_reader.proofs.RootSetLemmas.{alone_name}
use Rattle.pattern_reader.proofs.roots.singleton.Goals as goal

pub returns : goal.returns
returns c = alone_name c.args.name _ _ c.new-names.ensures.empty c.in_ok-insert.ensures.updates.0
