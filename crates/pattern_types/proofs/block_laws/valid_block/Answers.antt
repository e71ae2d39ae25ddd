use Rattle.pattern_types.proofs.BlockTextLemmas.{named_valid}
use Rattle.pattern_types.proofs.block_laws.valid_block.Goals as goal

pub returns : goal.returns
returns c = named_valid
