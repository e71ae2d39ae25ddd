-- Where no object breaks a rule, the objects aren't without observations: last times at all observed-data, put in order, and
-- an observation at each.
use Rattle.std.proofs.Common.{arith, ◌≡◌, ◌⊎◌, inl, inr, ℕ, zero, suc, ◌+◌, ◌<◌, ◌≤◌, List, [], ◌∷◌, ◌++◌, length, take, get_or, slice_get, All, Option, Some, option_to_list, codes, refl, sym, ap, subst, ◌∙◌}
use Rattle.std.specs.Prelude.{⊤}
use Rattle.std.specs.List.Sorted.{IsPermutation}
use Rattle.std.proofs.Math.Seq.{take-length}
use Rattle.std.proofs.lemmas.Bool.{cases_lt}
use Rattle.std.proofs.lemmas.Int.{ints, by_lt_z}
use Rattle.std.proofs.lemmas.Option.{slice_get-get_or, get_or_from_slice_get}
use Rattle.std.proofs.lemmas.List.Sorted.{IsPermutation-refl, IsPermutation-cons, IsPermutation-trans, IsPermutation-middle}
use Rattle.serde_json.specs.Data.{Data}
use Rattle.stix_ids.specs.declared.id.Id.{Id}
use Rattle.stix_json.specs.Properties.{property_text}
use Rattle.stix_objects.specs.Breaks.{AreBreaksOf}
use Rattle.stix_objects.specs.Sound.{IsNamed, IsTimed}
use Rattle.stix_bundles.specs.declared.last_time.LastTime.{LastTime}
use Rattle.stix_bundles.specs.declared.observation.Observation.{Observation}
use Rattle.stix_bundles.specs.Bundle.{AreAllBreaks}
use Rattle.stix_bundles.specs.Lookup.{ResolvesTo}
use Rattle.stix_bundles.specs.Observations.{IsObservedAt, IsObservationAt, AreResolved, references, AreObservations}
use Rattle.stix_bundles.specs.inner.LastTimes.{IsLastTimeOf, AreLastTimesBefore, AreLastTimes, IsUpTo, AreInOrder, AreObservationsAt}
use Rattle.stix_bundles.proofs.ObjectsLemmas.{same_some}
use Rattle.stix_bundles.proofs.UnbrokenLemmas.{unbroken_at}
use Rattle.stix_bundles.proofs.LastTimesLemmas.{none_before, skip_at, push_at, last_times_moved}
use Rattle.stix_bundles.proofs.ObservationsAtLemmas.{none_told, told_more}
use Rattle.stix_bundles.proofs.ObservationsLemmas.{observations_of}

-- what an observation rests on
pub record Laws : Type 0 where
  pub named : (value : Data) → AreBreaksOf value [] → IsNamed value
  pub timed : (value : Data) → AreBreaksOf value [] → property_text (codes "type") value ≡ Some (codes "observed-data")
      → IsTimed (codes "first_observed") (codes "last_observed") value
  pub meaning : (objects : List Data) (text : List ℕ) → ¬ ((resolved : Option ℕ) → ¬ ResolvesTo objects text resolved)

-- ---- last times

with_place : Laws → (ds : List Data) → AreAllBreaks 0 ds [] → (at : ℕ) → at < length ds → (ms : List LastTime) → AreLastTimesBefore ds at ms
    → ¬ ((more : List LastTime) → ¬ AreLastTimesBefore ds (at + 1) more)
with_place laws ds unbroken at inside ms are = λ fails.
    let other : ¬ IsObservedAt ds at → ⊥ = λ not. fails ms (skip_at ds at ms inside not are) in
    other (λ is.
    let times = laws.timed is.object (unbroken_at 0 ds unbroken at is.object is.there) is.observed in
    let m : LastTime = record { last = times.to; at = at } in
    fails (ms ++ m ∷ []) (push_at ds at ms m refl (record { object = is.object; there = is.there; observed = is.observed; last = times.ends }) are))

times_before : Laws → (ds : List Data) → AreAllBreaks 0 ds [] → (at : ℕ) → at ≤ length ds → ¬ ((ms : List LastTime) → ¬ AreLastTimesBefore ds at ms)
times_before laws ds unbroken zero within = λ fails. fails [] (none_before ds)
times_before laws ds unbroken (suc at) within = λ fails.
    let next : at + 1 ≡ suc at = omega arith in
    let inside : at < length ds = omega arith in
    times_before laws ds unbroken at (omega arith) (λ ms are.
    with_place laws ds unbroken at inside ms are (λ more all. fails more (subst (λ n. AreLastTimesBefore ds n more) next all)))

-- ---- in order

up_to_cases : (m n : LastTime) → IsUpTo m n ⊎ IsUpTo n m
up_to_cases m n =
    by_lt_z m.last n.last (λ earlier. inl (inl earlier))
    (λ not_earlier. by_lt_z n.last m.last (λ later. inr (inl later))
    (λ not_later.
    let same : m.last ≡ n.last = omega (arith, ints, not_earlier, not_later) in
    elim (cases_lt n.at m.at) [ inl after ↦ inr (inr (sym same, omega arith)) | inr upto ↦ inl (inr (same, upto)) ]))

abbrev IsUpToFirst : LastTime → List LastTime → Type 0
IsUpToFirst m [] = ⊤
IsUpToFirst m (n ∷ ns) = IsUpTo m n

-- each is up to the next, by recursion
abbrev Ascends : List LastTime → Type 0
Ascends [] = ⊤
Ascends (m ∷ ms) = IsUpToFirst m ms × Ascends ms

up_to_next : (l : LastTime) (ms : List LastTime) (n : LastTime) → IsUpToFirst l ms → slice_get ms 0 ≡ Some n → IsUpTo l n
up_to_next l [] n is there = absurd cc
up_to_next l (m ∷ ms) n is there = subst (IsUpTo l) (same_some m n there) is

in_order : (ms : List LastTime) → Ascends ms → AreInOrder ms
in_order [] ascends k l n here there = absurd cc
in_order (m ∷ ms) ascends zero l n here there = subst (λ (x : LastTime). IsUpTo x n) (same_some m l here) (up_to_next m ms n ascends.0 there)
in_order (m ∷ ms) ascends (suc k) l n here there =
    let next : suc k + 1 ≡ suc (k + 1) = omega arith in
    in_order ms ascends.1 k l n here (ap (slice_get (m ∷ ms)) (sym next) ∙ there)

-- a last time in its place among some in order
record IsPlaced (m : LastTime) (ms ns : List LastTime) : Type 0 where
  ascends : Ascends ns
  moves : IsPermutation (m ∷ ms) ns
  first : (l : LastTime) → IsUpTo l m → IsUpToFirst l ms → IsUpToFirst l ns

place_behind : (m n : LastTime) (ms ns : List LastTime) → Ascends (n ∷ ms) → IsUpTo n m → IsPlaced m ms ns → IsPlaced m (n ∷ ms) (n ∷ ns)
place_behind m n ms ns ascends later placed = record {
  ascends = (placed.first n later ascends.0, placed.ascends);
  moves = IsPermutation-trans (m ∷ n ∷ ms) (n ∷ m ∷ ms) (n ∷ ns) (IsPermutation-middle (m ∷ []) n ms) (IsPermutation-cons n (m ∷ ms) ns placed.moves);
  first = λ l upto its. its;
}

place : (m : LastTime) (ms : List LastTime) → Ascends ms → (ns : List LastTime) × IsPlaced m ms ns
place m [] ascends = (m ∷ [], record { ascends = (tt, tt); moves = IsPermutation-refl (m ∷ []); first = λ l upto none. upto })
place m (n ∷ ms) ascends = elim (up_to_cases m n) [
  | inl upto ↦ (m ∷ n ∷ ms, record { ascends = (upto, ascends); moves = IsPermutation-refl (m ∷ n ∷ ms); first = λ l first its. first })
  | inr later ↦
      let behind = place m ms ascends.1 in
      (n ∷ behind.0, place_behind m n ms behind.0 ascends later behind.1)
]

sorted : (ms : List LastTime) → (ns : List LastTime) × Ascends ns × IsPermutation ms ns
sorted [] = ([], tt, IsPermutation-refl [])
sorted (m ∷ ms) =
    let rest = sorted ms in
    let placed = place m rest.0 rest.1 in
    (placed.0, placed.1.ascends, IsPermutation-trans (m ∷ ms) (m ∷ rest.0) placed.0 (IsPermutation-cons m ms rest.0 rest.2) placed.1.moves)

-- ---- an observation at each

some_roots : Laws → (objects : List Data) (texts : List (List ℕ)) → ¬ ((places : List ℕ) → ¬ AreResolved objects texts places)
some_roots laws objects [] = λ fails. fails [] refl
some_roots laws objects (text ∷ texts) = λ fails.
    laws.meaning objects text (λ place is. some_roots laws objects texts (λ rest are.
    fails (option_to_list place ++ rest) (place, rest, is, are, refl)))

-- the observation at a last time, with a number
record IsToldAt (ds : List Data) (m : LastTime) (number : ℕ) (observation : Observation) : Type 0 where
  is : IsObservationAt ds m.at number observation
  last : observation.last ≡ m.last

some_observation : Laws → (ds : List Data) → AreAllBreaks 0 ds [] → (m : LastTime) (number : ℕ) → IsLastTimeOf ds m
    → ¬ ((observation : Observation) → ¬ IsToldAt ds m number observation)
some_observation laws ds unbroken m number is = λ fails.
    let sound = unbroken_at 0 ds unbroken m.at is.object is.there in
    let named = laws.named is.object sound in
    let times = laws.timed is.object sound is.observed in
    let id : Id = record { kind = named.type; number = named.number } in
    some_roots laws ds (references is.object) (λ roots resolved.
    fails (record { number = number; id = id; first = times.from; last = m.last; roots = roots }) (record {
      is = record {
        object = is.object;
        there = is.there;
        observed = is.observed;
        numbered = refl;
        named = record { text = named.text; there = named.named; reads = named.id };
        first = times.begins;
        last = is.last;
        roots = resolved;
      };
      last = refl;
    }))

told_before : Laws → (ds : List Data) → AreAllBreaks 0 ds [] → (first : ℕ) (ms : List LastTime) → All (IsLastTimeOf ds) ms → (at : ℕ) → at ≤ length ms
    → ¬ ((list : List Observation) → ¬ AreObservationsAt ds first (take at ms) list)
told_before laws ds unbroken first ms each zero within = λ fails. fails [] (none_told ds first)
told_before laws ds unbroken first [] each (suc at) within = absurd (omega arith)
told_before laws ds unbroken first (m ∷ ms) each (suc at) within = λ fails.
    let inside : at < length (m ∷ ms) = omega arith in
    let next : at + 1 ≡ suc at = omega arith in
    let here = get_or (m ∷ ms) at m in
    let read = get_or_from_slice_get (m ∷ ms) at here here (slice_get-get_or (m ∷ ms) at m inside) in
    told_before laws ds unbroken first (m ∷ ms) each at (omega arith) (λ list told.
    some_observation laws ds unbroken here (first + at) (each at m inside) (λ o is.
    fails (list ++ o ∷ []) (subst (λ n. AreObservationsAt ds first (take n (m ∷ ms)) (list ++ o ∷ [])) next
    (told_more ds first (m ∷ ms) at here list o inside read told is.is is.last))))

observed_in : Laws → (ds : List Data) → AreAllBreaks 0 ds [] → (first : ℕ) (ms : List LastTime) → AreLastTimes ds ms → AreInOrder ms
    → ¬ ((list : List Observation) → ¬ AreObservations ds first list)
observed_in laws ds unbroken first ms are ordered = λ fails.
    told_before laws ds unbroken first ms are.each (length ms) (omega arith) (λ list told.
    fails list (observations_of ds first ms list are ordered (subst (λ (xs : List LastTime). AreObservationsAt ds first xs list) (take-length ms) told)))

pub some_observations : Laws → (objects : List Data) (number : ℕ) → AreAllBreaks 0 objects []
    → ¬ ((observations : List Observation) → ¬ AreObservations objects number observations)
some_observations laws ds number unbroken = λ fails.
    times_before laws ds unbroken (length ds) (omega arith) (λ ms are.
    let ns = sorted ms in
    observed_in laws ds unbroken number ns.0 (last_times_moved ds (length ds) ms ns.0 ns.2 are) (in_order ns.0 ns.1) fails)
