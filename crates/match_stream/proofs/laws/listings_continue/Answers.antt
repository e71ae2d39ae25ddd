use Rattle.match_stream.proofs.PrefixLemmas.{prefix_law}
use Rattle.match_stream.proofs.laws.listings_continue.Goals as goal

pub returns : goal.returns
returns c = prefix_law c.listing_is_by_the_test.ensures c.one_listing.ensures c.ascending_lists_are_ordered.ensures
