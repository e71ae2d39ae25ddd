use Rattle.match_stream.proofs.ListingLemmas.{answers_listed}
use Rattle.match_stream.proofs.laws.answers_are_the_listing.Goals as goal

pub returns : goal.returns
returns c = answers_listed c.test_is_the_rule.ensures c.listing_is_by_the_test.ensures
