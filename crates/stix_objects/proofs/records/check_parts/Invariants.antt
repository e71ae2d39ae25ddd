use Rattle.std.proofs.Common.{Option, drop, map}
use Rattle.stix_json.specs.DataOf.{data_of}
use Rattle.stix_objects.specs.BreakAt.{BreakAt}
use Rattle.stix_objects.specs.Forms.{ChecksParts}
use Rattle.stix_objects.specs.inner.Views.{part_view}
use Rattle.stix_objects.proofs.records.check_parts.Given as goal

abbrev pub invariant-loop-part : goal.invariant-loop-part
invariant-loop-part l =
    (outcome : Option BreakAt) → ChecksParts (map part_view (drop l.part-index l.parts)) (data_of l.object) outcome
    → ChecksParts (map part_view l.parts) (data_of l.object) outcome
