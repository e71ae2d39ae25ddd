use Rattle.match_bindings.proofs.FlatLemmas.{listed_exactly, exactly_listed}
use Rattle.match_bindings.proofs.laws.listing_is_by_the_test.Goals as goal

pub returns : goal.returns
returns c o p xs = (λ h. (listed_exactly o p xs h, h.ascends), λ h. exactly_listed o p xs h.0 h.1)
