use Rattle.std.proofs.Common.{◌↔◌, drop, map}
use Rattle.stix_json.specs.DataOf.{data_of}
use Rattle.stix_objects.specs.Forms.{LacksAll}
use Rattle.stix_objects.proofs.records.lacks_all.Given as goal

abbrev pub invariant-loop-name : goal.invariant-loop-name
invariant-loop-name l =
    LacksAll (map (λ name. name.now) l.names) (data_of l.object) ↔ LacksAll (map (λ name. name.now) (drop l.name-index l.names)) (data_of l.object)
