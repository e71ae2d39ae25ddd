use Rattle.std.proofs.Common.{◌∙◌}
use Rattle.taxii_rows.proofs.AscendLemmas.{found_among}
use Rattle.taxii_memory.proofs.held.is_among.Goals as goal

pub returns : goal.returns
returns c =
    c.is_ok.ensures.value ∙ found_among c.args.dates.now c.args.date c.binary_search.result c.requires c.binary_search.ensures.position
