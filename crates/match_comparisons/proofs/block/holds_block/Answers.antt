use Rattle.stix_json.specs.DataOf.{data_of}
use Rattle.pattern_types.specs.Block.{IsWithin}
use Rattle.match_comparisons.proofs.BlockLemmas.{block_stands, no_block}
use Rattle.match_comparisons.proofs.block.holds_block.Goals as goal

pub returns-in-Some : goal.returns-in-Some
returns-in-Some c = block_stands (λ block. IsWithin c.args.inner.now block) (data_of c.args.value.now) c.block_of.result c.block_of.ensures.exact c.in-Some.block c.within.result c.in-Some.is c.within.ensures

pub returns-in-None : goal.returns-in-None
returns-in-None c = no_block (λ block. IsWithin c.args.inner.now block) (data_of c.args.value.now) c.block_of.result c.block_of.ensures.exact c.in-None.is
