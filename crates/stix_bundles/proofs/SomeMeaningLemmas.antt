-- No text is without a place that it means, or none: an object more at a time, the latest version stays or is the new one.
use Rattle.std.proofs.Common.{arith, ◌≡◌, ℕ, zero, suc, ◌+◌, ◌<◌, ◌≤◌, ℤ, List, length, take, get_or, slice_get, Option, Some, None, subst}
use Rattle.std.proofs.Math.Seq.{take-length}
use Rattle.std.proofs.lemmas.Option.{slice_get-get_or}
use Rattle.serde_json.specs.Data.{Data, null}
use Rattle.stix_ids.specs.declared.id.Id.{Id}
use Rattle.stix_objects.specs.Properties.{HasId}
use Rattle.stix_bundles.specs.Lookup.{IsModified, ResolvesTo}
use Rattle.stix_bundles.specs.inner.Index.{Supersedes, IsPositionOf}
use Rattle.stix_bundles.proofs.TakeLemmas.{taken_before}
use Rattle.stix_bundles.proofs.LookupLemmas.{OneIdentifier, held_is_resolved}
use Rattle.stix_bundles.proofs.IndexLemmas.{OneModified, held_beside, held_superseded, held_newly}

-- an object isn't without a time at which it was modified, or none
some_time : (d : Data) → ¬ ((when : Option ℤ) → ¬ IsModified d when)
some_time d = λ fails. fails None (λ time is. fails (Some time) is)

-- nor the first objects without a place of an identifier's latest version, or none
abbrev HasPosition : List Data → Id → Type 0
HasPosition objects id = ¬ ((place : Option ℕ) → ¬ IsPositionOf objects id place)

none_taken : (ds : List Data) (id : Id) → IsPositionOf (take 0 ds) id None
none_taken ds id = λ n of. let before = taken_before 0 n ds of.object of.there in absurd (omega (arith, before))

-- the new object is the identifier's, at that time
with_version : OneModified → (ds : List Data) (at : ℕ) (d : Data) → slice_get ds at ≡ Some d → (id : Id) → HasId d id → (time : Option ℤ) → IsModified d time
    → (place : Option ℕ) → IsPositionOf (take at ds) id place → HasPosition (take (at + 1) ds) id
with_version one ds at d there id has time modified place is = λ fails.
    let new : ¬ Supersedes ds place time → ⊥ = λ not. fails (Some at) (held_newly one ds at d there id has time modified place not is) in
    new (λ over. fails place (held_superseded one ds at d there id time modified place over is))

with_object : OneModified → (ds : List Data) (at : ℕ) (d : Data) → slice_get ds at ≡ Some d → (id : Id) (place : Option ℕ) → IsPositionOf (take at ds) id place
    → HasPosition (take (at + 1) ds) id
with_object one ds at d there id place is = λ fails.
    let other : ¬ HasId d id → ⊥ = λ not. fails place (held_beside ds at d there id not place is) in
    other (λ has. some_time d (λ time modified. with_version one ds at d there id has time modified place is fails))

position_before : OneModified → (ds : List Data) (id : Id) (at : ℕ) → at ≤ length ds → HasPosition (take at ds) id
position_before one ds id zero within = λ fails. fails None (none_taken ds id)
position_before one ds id (suc at) within = λ fails.
    let next : at + 1 ≡ suc at = omega arith in
    let inside : at < length ds = omega arith in
    position_before one ds id at (omega arith) (λ place is.
    subst (λ n. HasPosition (take n ds) id) next (with_object one ds at (get_or ds at null) (slice_get-get_or ds at null inside) id place is) fails)

some_position : OneModified → (ds : List Data) (id : Id) → HasPosition ds id
some_position one ds id = subst (λ (objects : List Data). HasPosition objects id) (take-length ds) (position_before one ds id (length ds) (omega arith))

pub some_meaning : OneIdentifier → OneModified → (objects : List Data) (text : List ℕ) → ¬ ((resolved : Option ℕ) → ¬ ResolvesTo objects text resolved)
some_meaning one_identifier one objects text = λ fails.
    fails None (λ id at reads of.
    some_position one objects id (λ place is. fails place (held_is_resolved one_identifier objects text id reads place is)))
