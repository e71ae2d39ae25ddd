use Rattle.stix_json.proofs.SomeJsonLemmas.{value_or_refusal}
use Rattle.stix_json.proofs.laws.value_or_refusal.Goals as goal

pub returns : goal.returns
returns c = value_or_refusal
