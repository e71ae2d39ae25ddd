use Rattle.stix_bundles.proofs.FirstOfLemmas.{first_embedding}
use Rattle.stix_bundles.proofs.laws.first_embedding_or_none.Goals as goal

pub returns : goal.returns
returns c = first_embedding
