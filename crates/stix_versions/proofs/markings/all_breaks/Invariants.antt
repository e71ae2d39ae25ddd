use Rattle.std.proofs.Common.{take}
use Rattle.stix_bundles.specs.Objects.{data_in}
use Rattle.stix_versions.specs.Markings.{AreMarkingBreaksFrom}
use Rattle.stix_versions.proofs.markings.all_breaks.Given as goal

abbrev pub invariant-loop-at : goal.invariant-loop-at
invariant-loop-at l = AreMarkingBreaksFrom 0 (take l.at (data_in l.objects)) l.found
