use Rattle.std.proofs.Common.{Option, drop, map}
use Rattle.serde_json.specs.View.{items_of}
use Rattle.stix_json.specs.DataOf.{data_of}
use Rattle.stix_objects.specs.BreakAt.{BreakAt}
use Rattle.stix_objects.specs.Forms.{ChecksParts, ChecksItems}
use Rattle.stix_objects.specs.inner.Views.{part_view}
use Rattle.stix_objects.proofs.records.first_broken_record.Given as goal

abbrev pub invariant-loop-at : goal.invariant-loop-at
invariant-loop-at l =
    (outcome : Option BreakAt) → ChecksItems (ChecksParts (map part_view l.parts)) l.at (items_of (map data_of (drop l.at l.items))) outcome
    → ChecksItems (ChecksParts (map part_view l.parts)) 0 (items_of (map data_of l.items)) outcome
