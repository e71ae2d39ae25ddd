use Rattle.std.proofs.Common.{◌≡◌, drop, map}
use Rattle.std.specs.List.{flat_map}
use Rattle.stix_objects.specs.Types.{first_named}
use Rattle.stix_objects.specs.inner.Views.{type_view}
use Rattle.stix_objects.proofs.object_type.first_in.Given as goal

abbrev pub invariant-loop-types : goal.invariant-loop-types
invariant-loop-types l =
    first_named l.name (flat_map (λ types. map type_view types.now) l.tables) ≡ first_named l.name (flat_map (λ types. map type_view types.now) (drop l.types-index l.tables))
