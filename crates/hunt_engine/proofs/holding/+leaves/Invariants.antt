use Rattle.std.proofs.Common.{drop}
use Rattle.std.specs.Prelude.{◌↔◌}
use Rattle.stix_bundles.specs.Objects.{data_in}
use Rattle.pattern_types.specs.PlainLeaf.{leaves_of_list}
use Rattle.pattern_types.specs.Soundness.{AreSoundLeaves}
use Rattle.match_comparisons.specs.Tests.{AllHold, SomeHold}
use Rattle.hunt_engine.proofs.holding.+leaves.Given as goal

abbrev pub invariant-all_hold_at-loop-part : goal.invariant-all_hold_at-loop-part
invariant-all_hold_at-loop-part l = record {
  sound : AreSoundLeaves (leaves_of_list (drop l.part-index l.parts));
  rest : AllHold (data_in l.bundle) l.root (leaves_of_list l.parts) ↔ AllHold (data_in l.bundle) l.root (leaves_of_list (drop l.part-index l.parts));
}

abbrev pub invariant-some_hold_at-loop-part : goal.invariant-some_hold_at-loop-part
invariant-some_hold_at-loop-part l = record {
  sound : AreSoundLeaves (leaves_of_list (drop l.part-index l.parts));
  rest : SomeHold (data_in l.bundle) l.root (leaves_of_list l.parts) ↔ SomeHold (data_in l.bundle) l.root (leaves_of_list (drop l.part-index l.parts));
}
