use Rattle.std.proofs.Common.{take}
use Rattle.std.specs.Prelude.{map}
use Rattle.std.specs.List.{AllZip}
use Rattle.stix_json.specs.DataOf.{data_of}
use Rattle.taxii_bodies.specs.Versions.{IsVersionOf}
use Rattle.taxii_bodies.proofs.versions.versions_of.Given as goal

abbrev pub invariant-loop-row : goal.invariant-loop-row
invariant-loop-row l = AllZip IsVersionOf (map (λ row. row.now) (take l.row-index l.rows)) (map data_of l.versions)
