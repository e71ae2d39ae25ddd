use Rattle.pattern_types.proofs.BlockTextLemmas.{one_named}
use Rattle.pattern_types.proofs.block_laws.one_block.Goals as goal

pub returns : goal.returns
returns c = one_named
