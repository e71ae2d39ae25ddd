-- The positions of the latest versions of the objects before a place, with the object at the place added.
use Rattle.std.proofs.Common.{◌≡◌, ◌+◌, ℕ, ℤ, List, Option, Some, Result, Ok, Err, OnOk, take, slice_get, sym, subst, ◌∙◌}
use Rattle.serde_json.specs.Data.{Data}
use Rattle.flow_values.specs.declared.no_memory.NoMemory.{NoMemory}
use Rattle.stix_ids.specs.declared.id.Id.{Id}
use Rattle.stix_bundles.specs.declared.positions.Positions.{Positions}
use Rattle.stix_objects.specs.Properties.{HasId}
use Rattle.stix_bundles.specs.Lookup.{IsModified, IsOf, IsLatest}
use Rattle.stix_bundles.specs.inner.Index.{position_of, PutsPosition, Supersedes, IsPositionOf, ArePositionsOf}
use Rattle.stix_bundles.proofs.ObjectsLemmas.{same_some}
use Rattle.stix_bundles.proofs.IndexLemmas.{OneModified, OneId, held_beside, held_newly, positions_put}

pub add_beside : (ds : List Data) (at : ℕ) (d : Data) → slice_get ds at ≡ Some d → (positions : Positions) → ((id : Id) → ¬ HasId d id) → ArePositionsOf (take at ds) positions
    → ArePositionsOf (take (at + 1) ds) positions
add_beside ds at d there positions none is = λ id. held_beside ds at d there id (none id) (position_of positions id) (is id)

pub put_well : OneId → (ds : List Data) (at : ℕ) (d : Data) → slice_get ds at ≡ Some d → (id : Id) → HasId d id → (latest : ℕ) → IsLatest (take (at + 1) ds) id latest
    → (before after : Positions) → ArePositionsOf (take at ds) before → (outcome : Result (Unit {0}) NoMemory) → OnOk outcome (PutsPosition before after id latest)
    → OnOk outcome (ArePositionsOf (take (at + 1) ds) after)
put_well one_id ds at d there id has latest is_latest before after is (Ok done) puts = positions_put one_id ds at d there id has latest is_latest before after is puts
put_well one_id ds at d there id has latest is_latest before after is (Err error) puts = tt

-- the object at the place is the latest version where it isn't superseded
pub newly : OneModified → (ds : List Data) (at : ℕ) (d : Data) → slice_get ds at ≡ Some d → (time : Option ℤ) → IsModified d time → (place : Option ℕ)
    → ¬ Supersedes ds place time → (id : Id) → IsOf ds id at → IsPositionOf (take at ds) id place → IsLatest (take (at + 1) ds) id at
newly one ds at d there time modified place not id of is =
    let same : of.object ≡ d = same_some of.object d (sym of.there ∙ there) in
    held_newly one ds at d there id (subst (λ (x : Data). HasId x id) same of.has) time modified place not is
