use Rattle.hunt_report.proofs.HitsLemmas.{are_hits}
use Rattle.hunt_report.proofs.hit_laws.answers_are_the_hits.Goals as goal

pub returns : goal.returns
returns c = are_hits c.one_log.ensures c.answers_are_the_listing.ensures
