use Rattle.stix_bundles.proofs.OneBundleLemmas.{bundle_once, refusal_once, bundle_or_refusal}
use Rattle.stix_bundles.proofs.laws.one_reading.Goals as goal

pub returns : goal.returns
returns c = record {
  bundle = bundle_once;
  refusal = refusal_once c.one_list.ensures;
  either = bundle_or_refusal c.one_list.ensures;
}
