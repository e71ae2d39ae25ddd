use Rattle.std.proofs.Common.{◌≡◌, take}
use Rattle.std.specs.Prelude.{map}
use Rattle.stix_json.specs.DataOf.{data_of}
use Rattle.taxii_bodies.specs.Status.{detail_data}
use Rattle.taxii_bodies.proofs.status.detail_values.Given as goal

abbrev pub invariant-loop-detail : goal.invariant-loop-detail
invariant-loop-detail l = map data_of l.values ≡ map detail_data (take l.detail-index l.details)
