-- One more entry.
use Rattle.std.specs.Prelude.{◌≡◌, ◌⊎◌, ⊤, ℕ, ◌+◌, ◌<◌, ◌≤◌, List, [], ◌∷◌, ◌++◌, length, None}
use Rattle.stix_json.specs.declared.entry.Entry.{Entry}
use Rattle.stix_json.specs.declared.entry.Entry.TheVariants.{Good, Bad}
use Rattle.stix_json.specs.DataOf.{data_of}
use Rattle.stix_json.specs.Ordered.{IsOrdered}
use Rattle.stix_json.specs.Refusal.{data_refusal}
use Rattle.taxii_rows.specs.declared.described.Described.{Described}
use Rattle.taxii_store.specs.Planned.{IsSound}
use Rattle.taxii_bodies.specs.declared.details.Detail.{Detail}
use Rattle.taxii_service.specs.declared.posted.Posted.{Posted}
use Rattle.taxii_service.specs.declared.posted.TheConstants.{MAX_DETAILS}
use Rattle.taxii_service.specs.Posted.{IsKept, Fails, IsDetailOf}

-- where the entry is a value, JSON's limits take it, and its names are in order
abbrev pub IsTakenEntry : Entry → Type 0
IsTakenEntry (Good value) = (data_refusal (data_of value) ≡ None) × IsOrdered (data_of value)
IsTakenEntry (Bad refusal) = ⊤

-- one more object
pub record AddsObject (entry : Entry) (old new : Posted) : Type 0 where
  pub object : Described
  pub kept : IsKept entry object
  pub sound : IsSound object
  pub objects : new.objects.items ≡ old.objects.items ++ object ∷ []
  pub failures : new.failures ≡ old.failures
  pub count : new.failure_count ≡ old.failure_count

-- the detail of one more failure, where there is room for it
abbrev pub AddsDetail : ℕ → Entry → List Detail → List Detail → Type 0
AddsDetail moment entry old new =
    ((detail : Detail) × (length old < MAX_DETAILS) × IsDetailOf moment entry detail × (new ≡ old ++ detail ∷ []))
    ⊎ ((MAX_DETAILS ≤ length old) × (new ≡ old))

-- one more failure
pub record AddsFailure (moment : ℕ) (entry : Entry) (old new : Posted) : Type 0 where
  pub fails : Fails entry
  pub objects : new.objects.items ≡ old.objects.items
  pub failures : AddsDetail moment entry old.failures new.failures
  pub count : new.failure_count ≡ old.failure_count + 1

-- one more entry
abbrev pub AddsEntry : ℕ → Entry → Posted → Posted → Type 0
AddsEntry moment entry old new = AddsObject entry old new ⊎ AddsFailure moment entry old new
