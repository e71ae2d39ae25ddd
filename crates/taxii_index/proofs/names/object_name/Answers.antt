use Rattle.std.proofs.Common.{rules}
use Rattle.taxii_index.specs.Names.{name_of}
use Rattle.taxii_index.proofs.names.object_name.Goals as goal

pub returns : goal.returns
unfolding name_of
returns c = search rules
