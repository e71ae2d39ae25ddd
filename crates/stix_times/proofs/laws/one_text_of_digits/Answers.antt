use Rattle.stix_times.proofs.LawLemmas.{one_text_of_digits}
use Rattle.stix_times.proofs.laws.one_text_of_digits.Goals as goal

pub returns : goal.returns
returns c = one_text_of_digits
