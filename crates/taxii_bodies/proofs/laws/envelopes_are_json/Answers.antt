use Rattle.taxii_bodies.proofs.EnvelopeJsonLemmas.{envelope_is}
use Rattle.taxii_bodies.proofs.laws.envelopes_are_json.Goals as goal

pub returns : goal.returns
returns c = envelope_is
