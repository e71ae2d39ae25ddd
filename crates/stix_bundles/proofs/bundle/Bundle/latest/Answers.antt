use Rattle.std.proofs.Common.{ℕ, List, Option, sym, subst}
use Rattle.stix_ids.specs.PartsOf.{id_of}
use Rattle.stix_json.specs.declared.value.Json.{Json}
use Rattle.stix_bundles.specs.declared.index.Index.{Index}
use Rattle.stix_bundles.specs.Objects.{data_in}
use Rattle.stix_bundles.specs.inner.Index.{position_of, IsPositionOf, IsIndexOfObjects}
use Rattle.stix_bundles.proofs.bundle.Bundle.latest.Goals as goal

pub returns-in-Many : goal.returns-in-Many
returns-in-Many c =
    let id = id_of c.args.id in
    let held = subst (λ (index : Index). IsIndexOfObjects (data_in c.self.inside.objects) index) c.in-Many.is c.self.invariant.indexed id in
    subst (λ (o : Option ℕ). IsPositionOf (data_in c.args.self.now) id o) (sym c.get.ensures)
    (subst (λ (values : List Json). IsPositionOf (data_in values) id (position_of c.in-Many.positions id)) c.self.view_is held)
