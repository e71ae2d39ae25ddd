use Rattle.match_run.proofs.OneLogLemmas.{one_entries}
use Rattle.match_run.proofs.listing_laws.one_log.Goals as goal

pub returns : goal.returns
returns c = one_entries
