use Rattle.taxii_routes.proofs.ValueLemmas.{found_instant}
use Rattle.taxii_routes.proofs.value.read_instant.Goals as goal

pub returns : goal.returns
returns c = found_instant c.args.value.now c.read.result c.ok.result c.read.ensures.ok c.read.ensures.only c.ok.ensures.value
