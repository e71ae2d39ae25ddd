-- For private clauses: the observed-data objects by their last_observed.
use Rattle.std.specs.Prelude.{◌≡◌, ◌⊎◌, ◌==◌, ℕ, ◌+◌, ◌<◌, ◌≤◌, ◌<ℤ◌, List, length, map, take, All, Contains, Some, slice_get, codes}
use Rattle.std.specs.List.{IsDistinct}
use Rattle.serde_json.specs.Data.{Data}
use Rattle.stix_objects.specs.declared.form.Precision.TheVariants.{Any}
use Rattle.stix_objects.specs.Properties.{IsTimestampAt}
use Rattle.stix_bundles.specs.declared.last_time.LastTime.{LastTime}
use Rattle.stix_bundles.specs.declared.observation.Observation.{Observation}
use Rattle.stix_bundles.specs.Observations.{IsObservedData, IsObservedAt, IsObservationAt, ObservationAt, observation_count}

-- the last time is that of an observed-data of the objects
pub record IsLastTimeOf (objects : List Data) (last_time : LastTime) : Type 0 where
  pub object : Data
  pub there : slice_get objects last_time.at ≡ Some object
  pub observed : IsObservedData object
  pub last : IsTimestampAt Any (codes "last_observed") object last_time.last

-- the last times of the observed-data before a position, one for each
pub record AreLastTimesBefore (objects : List Data) (end : ℕ) (last_times : List LastTime) : Type 0 where
  pub each : All (IsLastTimeOf objects) last_times
  pub before : All (λ m. m.at < end) last_times
  pub all : (at : ℕ) → at < end → IsObservedAt objects at → (m : LastTime) × Contains last_times m × (m.at ≡ at)
  pub once : IsDistinct (λ m n. m.at == n.at) last_times
  pub count : length last_times ≡ observation_count (take end objects)

-- the last times of all observed-data of the objects
abbrev pub AreLastTimes : List Data → List LastTime → Type 0
AreLastTimes objects last_times = AreLastTimesBefore objects (length objects) last_times

-- the last time is less than or equal to the other, by time and then by position
abbrev pub IsUpTo : LastTime → LastTime → Type 0
IsUpTo last_time other = (last_time.last <ℤ other.last) ⊎ ((last_time.last ≡ other.last) × (last_time.at ≤ other.at))

-- the last times are sorted
abbrev pub AreInOrder : List LastTime → Type 0
AreInOrder last_times = (k : ℕ) (m n : LastTime) → slice_get last_times k ≡ Some m → slice_get last_times (k + 1) ≡ Some n → IsUpTo m n

-- the last time of an observation
abbrev pub last_time_of : ObservationAt → LastTime
last_time_of seen = record { last = seen.observation.last; at = seen.at }

-- the observations at these last times, numbered from the first number on
pub record AreObservationsAt (objects : List Data) (first : ℕ) (last_times : List LastTime) (observations : List Observation) : Type 0 where
  pub seen : List ObservationAt
  pub are : observations ≡ map (λ s. s.observation) seen
  pub at : map last_time_of seen ≡ last_times
  pub each : (k : ℕ) (s : ObservationAt) → slice_get seen k ≡ Some s → IsObservationAt objects s.at (first + k) s.observation
