use Rattle.taxii_rows.proofs.StateLemmas.{later_can_append}
use Rattle.taxii_rows.proofs.laws.later_rows.Goals as goal

pub returns : goal.returns
returns c = later_can_append
