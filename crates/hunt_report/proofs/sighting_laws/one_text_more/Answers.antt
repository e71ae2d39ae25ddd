use Rattle.hunt_report.proofs.EnvelopeLemmas.{opened_first, opened_more}
use Rattle.hunt_report.proofs.sighting_laws.one_text_more.Goals as goal

pub returns : goal.returns
returns c = record { first = opened_first; other = opened_more }
