-- No observation ends before it begins.
use Rattle.std.proofs.Common.{◌≡◌, ℕ, ℤ, ◌≤ℤ◌, ◌+◌, List, [], ◌∷◌, codes, All, Some, slice_get, get_or, arith, sym, subst}
use Rattle.std.proofs.lemmas.List.Elements.{All-from_get_or, All-map}
use Rattle.std.proofs.lemmas.Option.{slice_get-get_or}
use Rattle.serde_json.specs.Data.{Data}
use Rattle.stix_json.specs.Properties.{property_text}
use Rattle.stix_objects.specs.declared.form.Precision.{Precision}
use Rattle.stix_objects.specs.declared.form.Precision.TheVariants.{Any}
use Rattle.stix_objects.specs.Breaks.{AreBreaksOf}
use Rattle.stix_objects.specs.Properties.{IsTimestampAt}
use Rattle.stix_objects.specs.Sound.{IsTimed}
use Rattle.stix_bundles.specs.declared.observation.Observation.{Observation}
use Rattle.stix_bundles.specs.Bundle.{AreAllBreaks}
use Rattle.stix_bundles.specs.Observations.{IsObservationAt, ObservationAt, AreObservations}
use Rattle.stix_bundles.proofs.UnbrokenLemmas.{unbroken_at}

abbrev Timed : Type 0
Timed = (value : Data) → AreBreaksOf value [] → property_text (codes "type") value ≡ Some (codes "observed-data")
    → IsTimed (codes "first_observed") (codes "last_observed") value

abbrev OneTimestamp : Type 0
OneTimestamp = (precision : Precision) (name : List ℕ) (object : Data) (first second : ℤ) → IsTimestampAt precision name object first
    → IsTimestampAt precision name object second → first ≡ second

one_span : Timed → OneTimestamp → (objects : List Data) → AreAllBreaks 0 objects [] → (at number : ℕ) (o : Observation) → IsObservationAt objects at number o → o.first ≤ℤ o.last
one_span timed one objects unbroken at number o is =
    let times = timed is.object (unbroken_at 0 objects unbroken at is.object is.there) is.observed in
    let first = one Any (codes "first_observed") is.object times.from o.first times.begins is.first in
    let last = one Any (codes "last_observed") is.object times.to o.last times.ends is.last in
    subst (λ (i : ℤ). o.first ≤ℤ i) last (subst (λ (i : ℤ). i ≤ℤ times.to) first times.ordered)

abbrev IsSpan : Observation → Type 0
IsSpan o = o.first ≤ℤ o.last

all_seen : (seen : List ObservationAt) → ((k : ℕ) (s : ObservationAt) → slice_get seen k ≡ Some s → IsSpan s.observation) → All (λ s. IsSpan s.observation) seen
all_seen [] each = λ i s h. absurd (omega arith)
all_seen (first ∷ seen) each =
    All-from_get_or (λ (s : ObservationAt). IsSpan s.observation) (first ∷ seen) first
    (λ i h. each i (get_or (first ∷ seen) i first) (slice_get-get_or (first ∷ seen) i first h))

pub spans : Timed → OneTimestamp → (objects : List Data) (number : ℕ) (observations : List Observation) → AreAllBreaks 0 objects []
    → AreObservations objects number observations → All IsSpan observations
spans timed one objects number observations unbroken are =
    let each = all_seen are.seen (λ k s there. one_span timed one objects unbroken s.at (number + k) s.observation (are.each k s there)) in
    subst (λ (os : List Observation). All IsSpan os) (sym are.are) (All-map IsSpan (λ (s : ObservationAt). s.observation) are.seen each)
