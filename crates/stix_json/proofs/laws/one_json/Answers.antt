use Rattle.stix_json.proofs.OneJsonLemmas.{same_value, one_refusal, not_both}
use Rattle.stix_json.proofs.laws.one_json.Goals as goal

pub returns-clause-value : goal.returns-clause-value
returns-clause-value c = same_value

pub returns-clause-refusal : goal.returns-clause-refusal
returns-clause-refusal c = one_refusal

pub returns-clause-either : goal.returns-clause-either
returns-clause-either c = not_both
