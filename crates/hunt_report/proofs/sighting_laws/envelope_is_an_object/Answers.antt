use Rattle.hunt_report.proofs.EnvelopeLemmas.{envelope_whole}
use Rattle.hunt_report.proofs.sighting_laws.envelope_is_an_object.Goals as goal

pub returns : goal.returns
returns c = envelope_whole
