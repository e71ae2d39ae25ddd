use Rattle.std.proofs.Common.{Option, drop, map}
use Rattle.serde_json.specs.View.{items_of}
use Rattle.stix_json.specs.DataOf.{data_of}
use Rattle.stix_objects.specs.BreakAt.{BreakAt}
use Rattle.stix_objects.specs.Forms.{ChecksHere, ChecksItems}
use Rattle.stix_objects.specs.inner.Views.{single_view}
use Rattle.stix_objects.proofs.list.first_broken.Given as goal

abbrev pub invariant-loop-at : goal.invariant-loop-at
invariant-loop-at l =
    (outcome : Option BreakAt) → ChecksItems (ChecksHere (single_view l.single)) l.at (items_of (map data_of (drop l.at l.items))) outcome
    → ChecksItems (ChecksHere (single_view l.single)) 0 (items_of (map data_of l.items)) outcome
