-- The last times in order, and the observations that are reported at them.
use Rattle.std.proofs.Common.{arith, length, ◌≡◌, ◌≢◌, ◌⊎◌, inl, inr, ◌+◌, ◌-◌, ◌<◌, ◌<ℤ◌, ℕ, zero, suc, ℤ, List, map, get_or, slice_get, Option, Some, None, option_map, Result, Ok, Err, IfOk, false, is_lt, int_cmp, nat_cmp, sym, ap, refl, subst, ◌∙◌}
use Rattle.std.specs.declared.cmp.Ordering.{Ordering}
use Rattle.std.specs.declared.cmp.Ordering.TheVariants.{Less, Equal, Greater}
use Rattle.std.specs.Ordering.{ordering_then, MatchOrdering}
use Rattle.std.specs.List.{IsDistinct}
use Rattle.std.specs.List.Sorted.{IsSorted}
use Rattle.std.proofs.lemmas.List.{length-map}
use Rattle.std.proofs.Math.Seq.{take-length}
use Rattle.std.proofs.lemmas.Int.{ints}
use Rattle.std.proofs.lemmas.Bool.Decides.{nat_tests}
use Rattle.std.proofs.lemmas.Cmp.{int_ranked}
use Rattle.std.proofs.lemmas.Bool.{eqb-false, false≢true}
use Rattle.std.proofs.lemmas.Option.{slice_get_within, slice_get-get_or, slice_get-map, get_or_from_slice_get}
use Rattle.std.proofs.lemmas.Map.Keys.{apart_from_distinct}
use Rattle.serde_json.specs.Data.{Data}
use Rattle.flow_values.specs.declared.no_memory.NoMemory.{NoMemory}
use Rattle.stix_bundles.specs.declared.last_time.LastTime.{LastTime}
use Rattle.stix_bundles.specs.declared.observation.Observation.{Observation}
use Rattle.stix_bundles.specs.Observations.{ObservationAt, AreObservations, observation_count}
use Rattle.stix_bundles.specs.inner.LastTimes.{AreLastTimes, IsUpTo, AreInOrder, last_time_of, AreObservationsAt}
use Rattle.stix_bundles.proofs.ObjectsLemmas.{same_some}
use Rattle.stix_bundles.proofs.LastTimesLemmas.{same_place}

by_orders : (first second : Ordering) (m n : LastTime) → is_lt (ordering_then first second) ≡ false
    → MatchOrdering first (n.last <ℤ m.last) (n.last ≡ m.last) (m.last <ℤ n.last) → MatchOrdering second (n.at < m.at) (n.at ≡ m.at) (m.at < n.at) → IsUpTo m n
by_orders Less second m n not ranks places = absurd (false≢true (sym not))
by_orders Equal Less m n not ranks places = absurd (false≢true (sym not))
by_orders Equal Equal m n not ranks places = inr (sym ranks, omega arith)
by_orders Equal Greater m n not ranks places = inr (sym ranks, omega arith)
by_orders Greater second m n not ranks places = inl ranks

nat_ranks : (a b : ℕ) → MatchOrdering (nat_cmp a b) (a < b) (a ≡ b) (b < a)
nat_ranks a b = grind (arith, nat_tests)

up_to_from : (m n : LastTime) → is_lt (ordering_then (int_cmp n.last m.last) (nat_cmp n.at m.at)) ≡ false → IsUpTo m n
up_to_from m n not =
    by_orders (int_cmp n.last m.last) (nat_cmp n.at m.at) m n not (int_ranked n.last m.last (int_cmp n.last m.last) refl)
    (nat_ranks n.at m.at)

-- what a sort says
pub in_order_sorted : (ms : List LastTime) → IsSorted (λ m n. ordering_then (int_cmp m.last n.last) (nat_cmp m.at n.at)) ms → AreInOrder ms
in_order_sorted ms sorted = λ k m n here next.
    let inside = slice_get_within ms (k + 1) n next in
    let not = sorted k m (omega arith) inside in
    up_to_from m n
    (subst (λ (x : LastTime). is_lt (ordering_then (int_cmp n.last x.last) (nat_cmp n.at x.at)) ≡ false) (get_or_from_slice_get ms k m m here)
    (subst (λ (y : LastTime). is_lt (ordering_then (int_cmp y.last (get_or ms k m).last) (nat_cmp y.at (get_or ms k m).at)) ≡ false)
    (get_or_from_slice_get ms (k + 1) n m next) not))

up_to_both : (l m n : LastTime) → IsUpTo l m → IsUpTo m n → IsUpTo l n
up_to_both l m n first second = elim first [
  | inl earlier ↦ elim second [
    | inl then ↦ inl (omega (arith, ints, earlier, then))
    | inr same ↦ inl (subst (λ (t : ℤ). l.last <ℤ t) same.0 earlier)
  ]
  | inr same ↦ elim second [
    | inl then ↦ inl (subst (λ (t : ℤ). t <ℤ n.last) (sym same.0) then)
    | inr also ↦ inr (same.0 ∙ also.0, omega arith)
  ]
]

up_to_far : (ms : List LastTime) → AreInOrder ms → (more j : ℕ) (m n : LastTime) → slice_get ms j ≡ Some m → slice_get ms (j + 1 + more) ≡ Some n → IsUpTo m n
up_to_far ms ordered zero j m n here there =
    let next : j + 1 + zero ≡ j + 1 = omega arith in
    ordered j m n here (ap (slice_get ms) (sym next) ∙ there)
up_to_far ms ordered (suc more) j m n here there =
    let next : j + 1 + suc more ≡ j + 1 + more + 1 = omega arith in
    let inside = slice_get_within ms (j + 1 + suc more) n there in
    let middle = get_or ms (j + 1 + more) m in
    let stands : slice_get ms (j + 1 + more) ≡ Some middle = slice_get-get_or ms (j + 1 + more) m (omega arith) in
    up_to_both m middle n (up_to_far ms ordered more j m middle here stands) (ordered (j + 1 + more) middle n stands (ap (slice_get ms) (sym next) ∙ there))

-- of two last times at different places, the first in order is before the other
before_far : (ms : List LastTime) → AreInOrder ms → IsDistinct same_place ms → (j k : ℕ) (m n : LastTime) → j < k → slice_get ms j ≡ Some m → slice_get ms k ≡ Some n
    → (m.last <ℤ n.last) ⊎ ((m.last ≡ n.last) × (m.at < n.at))
before_far ms ordered once j k m n less here there =
    let gap : j + 1 + (k - (j + 1)) ≡ k = omega arith in
    let inside = slice_get_within ms k n there in
    let first = get_or_from_slice_get ms j m m here in
    let second = get_or_from_slice_get ms k n m there in
    let apart : same_place m n ≡ false =
    ap (λ (x : LastTime). same_place x n) (sym first) ∙ ap (λ (y : LastTime). same_place (get_or ms j m) y) (sym second) ∙ apart_from_distinct same_place ms j k m once less inside in
    let different : m.at ≢ n.at = eqb-false m.at n.at apart in
    elim (up_to_far ms ordered (k - (j + 1)) j m n here (ap (slice_get ms) gap ∙ there)) [
      | inl earlier ↦ inl earlier
      | inr same ↦ inr (same.0, omega arith)
    ]

-- the last times of observations by place
moment_at : (ms : List LastTime) (seen : List ObservationAt) → map last_time_of seen ≡ ms → (k : ℕ) (s : ObservationAt) → slice_get seen k ≡ Some s → slice_get ms k ≡ Some (last_time_of s)
moment_at ms seen are k s there =
    ap (λ (xs : List LastTime). slice_get xs k) (sym are) ∙ slice_get-map last_time_of seen k ∙ ap (λ (o : Option ObservationAt). option_map last_time_of o) there

seen_of : (o : Option ObservationAt) (m : LastTime) → option_map last_time_of o ≡ Some m → (s : ObservationAt) × (o ≡ Some s) × (last_time_of s ≡ m)
seen_of None m is = absurd cc
seen_of (Some s) m is = (s, refl, same_some (last_time_of s) m is)

-- the observations at all last times in order are those of the objects
pub observations_of : (ds : List Data) (first : ℕ) (ms : List LastTime) (list : List Observation) → AreLastTimes ds ms → AreInOrder ms → AreObservationsAt ds first ms list
    → AreObservations ds first list
observations_of ds first ms list are ordered told = record {
  seen = told.seen;
  are = told.are;
  each = told.each;
  all = λ at is.
      let inside = slice_get_within ds at is.object is.there in
      let found = are.all at inside is in
      let k = found.1.0 in
      let there : slice_get ms k ≡ Some found.0 = slice_get-get_or ms k found.0 found.1.1 ∙ ap Some found.1.2 in
      let at_seen = sym (slice_get-map last_time_of told.seen k) ∙ ap (λ (xs : List LastTime). slice_get xs k) told.at ∙ there in
      let its = seen_of (slice_get told.seen k) found.0 at_seen in
      (k, its.0, its.1, ap (λ (m : LastTime). m.at) its.2 ∙ found.2);
  in_order = λ j k s t less here there.
      before_far ms ordered are.once j k (last_time_of s) (last_time_of t) less (moment_at ms told.seen told.at j s here) (moment_at ms told.seen told.at k t there);
}

pub observations_well : (ds : List Data) (first : ℕ) (ms : List LastTime) → AreLastTimes ds ms → AreInOrder ms → (outcome : Result (List Observation) NoMemory)
    → IfOk outcome (AreObservationsAt ds first ms) → IfOk outcome (AreObservations ds first)
observations_well ds first ms are ordered (Ok list) told = observations_of ds first ms list are ordered told
observations_well ds first ms are ordered (Err error) told = tt

-- there are as many of them as observed-data
pub counted_well : (ds : List Data) (first : ℕ) (ms : List LastTime) → AreLastTimes ds ms → (outcome : Result (List Observation) NoMemory)
    → IfOk outcome (AreObservationsAt ds first ms) → IfOk outcome (λ list. length list ≡ observation_count ds)
counted_well ds first ms are (Ok list) told =
    ap length told.are ∙ length-map told.seen (λ s. s.observation) ∙ sym (length-map told.seen last_time_of) ∙ ap length told.at
    ∙ are.count ∙ ap observation_count (take-length ds)
counted_well ds first ms are (Err error) told = tt
