use Rattle.stix_bundles.proofs.SomeBundleLemmas.{not_neither}
use Rattle.stix_bundles.proofs.laws.bundle_or_refusal.Goals as goal

pub returns : goal.returns
returns c = not_neither c.some_list.ensures
