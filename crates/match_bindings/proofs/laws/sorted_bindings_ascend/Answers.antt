use Rattle.match_bindings.proofs.FlatLemmas.{sorted_ascend}
use Rattle.match_bindings.proofs.laws.sorted_bindings_ascend.Goals as goal

pub returns : goal.returns
returns c = sorted_ascend
