use Rattle.std.proofs.Common.{◌≡◌, drop, map}
use Rattle.stix_objects.specs.Types.{first_named}
use Rattle.stix_objects.specs.inner.Views.{type_view}
use Rattle.stix_objects.proofs.object_type.first_named.Given as goal

abbrev pub invariant-loop-object_type : goal.invariant-loop-object_type
invariant-loop-object_type l =
    first_named l.name (map type_view l.types) ≡ first_named l.name (map type_view (drop l.object_type-index l.types))
