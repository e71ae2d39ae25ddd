use Rattle.std.proofs.Common.{rules}
use Rattle.taxii_index.specs.Names.{text_name_of}
use Rattle.taxii_index.proofs.names.text_name.Goals as goal

pub returns : goal.returns
unfolding text_name_of
returns c = search rules
