use Rattle.match_bindings.proofs.ExistenceLemmas.{listing_exists}
use Rattle.match_bindings.proofs.laws.listings_exist.Goals as goal

pub returns : goal.returns
returns c = listing_exists
