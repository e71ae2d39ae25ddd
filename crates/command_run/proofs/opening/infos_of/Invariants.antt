use Rattle.std.proofs.Common.{◌≡◌, take}
use Rattle.std.specs.Prelude.{map}
use Rattle.command_line.specs.Request.{plain_collection}
use Rattle.command_run.specs.Services.{info_of}
use Rattle.command_run.proofs.opening.infos_of.Given as goal

abbrev pub invariant-loop-collection : goal.invariant-loop-collection
invariant-loop-collection l = l.infos ≡ map info_of (map plain_collection (take l.collection-index l.asked))
