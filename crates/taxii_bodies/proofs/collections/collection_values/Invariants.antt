use Rattle.std.proofs.Common.{◌≡◌, take}
use Rattle.std.specs.Prelude.{map}
use Rattle.stix_json.specs.DataOf.{data_of}
use Rattle.taxii_bodies.specs.Collections.{collection_data}
use Rattle.taxii_bodies.proofs.collections.collection_values.Given as goal

abbrev pub invariant-loop-info : goal.invariant-loop-info
invariant-loop-info l = map data_of l.values ≡ map collection_data (take l.info-index l.infos)
