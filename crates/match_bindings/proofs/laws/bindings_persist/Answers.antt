use Rattle.match_bindings.proofs.LongerLogLemmas.{bindings_persist}
use Rattle.match_bindings.proofs.laws.bindings_persist.Goals as goal

pub returns : goal.returns
returns c = bindings_persist
