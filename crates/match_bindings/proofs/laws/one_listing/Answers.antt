use Rattle.match_bindings.proofs.FlatLemmas.{one_listing}
use Rattle.match_bindings.proofs.laws.one_listing.Goals as goal

pub returns : goal.returns
returns c = one_listing
