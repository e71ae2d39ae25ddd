use Rattle.std.proofs.Common.{◌≡◌, ◌++◌, List, take}
use Rattle.stix_json.specs.DataOf.{data_of}
use Rattle.stix_bundles.specs.Objects.{data_in}
use Rattle.stix_versions.specs.declared.marking_break.MarkingBreak.{MarkingBreak}
use Rattle.stix_versions.specs.Markings.{AreBreaksOfMarkings}
use Rattle.stix_versions.proofs.markings.add_list.Given as goal

abbrev pub invariant-loop-at : goal.invariant-loop-at
invariant-loop-at l =
    (own : List MarkingBreak) × AreBreaksOfMarkings l.object_at (data_of l.object) 0 (take l.at (data_in l.markings)) own × (l.found ≡ l.initial.found ++ own)
