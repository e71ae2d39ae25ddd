use Rattle.match_run.proofs.OneLogLemmas.{one_text}
use Rattle.match_run.proofs.listing_laws.one_output.Goals as goal

pub returns : goal.returns
returns c = one_text c.one_reading.ensures c.one_listing.ensures
