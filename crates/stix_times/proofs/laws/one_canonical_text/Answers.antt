use Rattle.stix_times.proofs.LawLemmas.{one_canonical_text}
use Rattle.stix_times.proofs.laws.one_canonical_text.Goals as goal

pub returns : goal.returns
returns c = one_canonical_text
