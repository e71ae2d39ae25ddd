use Rattle.std.proofs.Common.{map, take}
use Rattle.command_line.specs.CommandLines.{AreCollectionsOf}
use Rattle.command_line.specs.Request.{plain_collection}
use Rattle.command_line.specs.inner.Rows.{parsed_rows, arguments_at}
use Rattle.command_line.proofs.serve.collections_in.Given as goal

abbrev pub invariant-loop-name : goal.invariant-loop-name
invariant-loop-name l = AreCollectionsOf (arguments_at (map (λ name. name.now) (take l.name-index l.names)) (parsed_rows l.values)) (map plain_collection l.collections)
