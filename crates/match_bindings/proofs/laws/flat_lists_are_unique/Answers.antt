use Rattle.match_bindings.proofs.FlatLemmas.{flats_tell}
use Rattle.match_bindings.proofs.laws.flat_lists_are_unique.Goals as goal

pub returns : goal.returns
returns c = flats_tell
