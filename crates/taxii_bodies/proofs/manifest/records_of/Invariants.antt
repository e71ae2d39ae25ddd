use Rattle.std.proofs.Common.{take}
use Rattle.std.specs.Prelude.{map}
use Rattle.std.specs.List.{AllZip}
use Rattle.stix_json.specs.DataOf.{data_of}
use Rattle.taxii_bodies.specs.Manifest.{IsRecordOf}
use Rattle.taxii_bodies.proofs.manifest.records_of.Given as goal

abbrev pub invariant-loop-row : goal.invariant-loop-row
invariant-loop-row l = AllZip IsRecordOf (map (λ row. row.now) (take l.row-index l.rows)) (map data_of l.records)
