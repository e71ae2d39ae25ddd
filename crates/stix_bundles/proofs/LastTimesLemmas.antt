-- The last times of the observed-data before a place, and of the one at the place.
use Rattle.std.proofs.Common.{arith, ◌≡◌, ◌≢◌, inl, inr, ◌==◌, ◌+◌, ◌<◌, ℕ, List, [], ◌∷◌, ◌++◌, length, All, get_or, slice_get, Option, Some, None, Bool, true, false, bytes_eq, codes, length-append, sym, ap, refl, subst, ◌∙◌}
use Rattle.std.specs.Option.{option_map_or}
use Rattle.std.specs.List.{IsDistinct}
use Rattle.std.proofs.lemmas.Bool.{cases_lt, cases_Bool, ne_eqb}
use Rattle.std.proofs.lemmas.Option.{slice_get_within, slice_get-get_or, get_or_from_slice_get}
use Rattle.std.proofs.lemmas.List.{get_or_append_left, get_or_push}
use Rattle.std.proofs.lemmas.List.Elements.{All-nil, All-push, All-weaker, Contains-push, Contains-append_left}
use Rattle.std.proofs.lemmas.List.Sums.{count_by_more_yes, count_by_more_no}
use Rattle.std.proofs.lemmas.Map.Keys.{IsDistinct-from_apart, apart_from_distinct, IsDistinct-IsPermutation}
use Rattle.std.proofs.lemmas.List.Sorted.{All-permutation, Contains-permutation, length_permutation}
use Rattle.std.proofs.lemmas.Bool.Decides.{nat_tests}
use Rattle.std.specs.List.Sorted.{IsPermutation}
use Rattle.std.proofs.lemmas.Slice.Eq.{bytes_eq-Decides}
use Rattle.serde_json.specs.Data.{Data, null}
use Rattle.stix_bundles.specs.declared.last_time.LastTime.{LastTime}
use Rattle.stix_bundles.specs.Observations.{IsObservedData, is_observed_data, IsObservedAt}
use Rattle.stix_bundles.specs.inner.LastTimes.{IsLastTimeOf, AreLastTimesBefore}
use Rattle.stix_json.specs.Properties.{property_text}
use Rattle.stix_bundles.proofs.ObjectsLemmas.{same_some}

-- whether two last times stand at one place
abbrev pub same_place : LastTime → LastTime → Bool
same_place m n = m.at == n.at

test_yes : (type : Option (List ℕ)) (wanted : List ℕ) → type ≡ Some wanted → option_map_or (λ t. bytes_eq t wanted) type false ≡ true
test_yes type wanted is =
    ap (λ (o : Option (List ℕ)). option_map_or (λ t. bytes_eq t wanted) o false) is ∙ (bytes_eq-Decides wanted wanted).1 refl

test_no : (type : Option (List ℕ)) (wanted : List ℕ) → type ≢ Some wanted → option_map_or (λ t. bytes_eq t wanted) type false ≡ false
test_no None wanted not = refl
test_no (Some t) wanted not = elim (cases_Bool (bytes_eq t wanted)) [
  | inl same ↦ absurd (not (ap Some ((bytes_eq-Decides t wanted).0 same)))
  | inr other ↦ other
]

pub observed_test : (d : Data) → IsObservedData d → is_observed_data d ≡ true
observed_test d is = test_yes (property_text (codes "type") d) (codes "observed-data") is

pub other_test : (d : Data) → ¬ IsObservedData d → is_observed_data d ≡ false
other_test d is = test_no (property_text (codes "type") d) (codes "observed-data") is

pub none_before : (ds : List Data) → AreLastTimesBefore ds 0 []
none_before ds = record {
  each = All-nil (IsLastTimeOf ds);
  before = All-nil (λ m. m.at < 0);
  all = λ at less is. absurd (omega arith);
  once = IsDistinct-from_apart same_place [] (λ i j d less inside. absurd (omega arith));
  count = refl;
}

-- what is before a place is before the next
before_next : (ms : List LastTime) (end : ℕ) → All (λ m. m.at < end) ms → All (λ m. m.at < end + 1) ms
before_next ms end before = All-weaker (λ (m : LastTime). m.at < end) (λ (m : LastTime). m.at < end + 1) (λ m less. omega arith) ms before

skip_place : (ds : List Data) (at : ℕ) (d : Data) (ms : List LastTime) → slice_get ds at ≡ Some d → ¬ IsObservedAt ds at → AreLastTimesBefore ds at ms
    → AreLastTimesBefore ds (at + 1) ms
skip_place ds at d ms there not are = record {
  each = are.each;
  before = before_next ms at are.before;
  all = λ n less is. elim (cases_lt n at) [
    | inl earlier ↦ are.all n earlier is
    | inr not_earlier ↦
        let here : n ≡ at = omega arith in
        absurd (not (subst (IsObservedAt ds) here is))
  ];
  once = are.once;
  count = are.count
      ∙ sym (count_by_more_no is_observed_data ds at d (slice_get_within ds at d there)
      (ap is_observed_data (get_or_from_slice_get ds at d d there) ∙ other_test d (λ is. not (record { object = d; there = there; observed = is }))));
}

-- a place with no observed-data adds no last time
pub skip_at : (ds : List Data) (at : ℕ) (ms : List LastTime) → at < length ds → ¬ IsObservedAt ds at → AreLastTimesBefore ds at ms → AreLastTimesBefore ds (at + 1) ms
skip_at ds at ms inside not are = skip_place ds at (get_or ds at null) ms (slice_get-get_or ds at null inside) not are

apart_push : (ms : List LastTime) (m : LastTime) → All (λ n. n.at < m.at) ms → IsDistinct same_place ms → IsDistinct same_place (ms ++ m ∷ [])
apart_push ms m before once = IsDistinct-from_apart same_place (ms ++ m ∷ []) (λ i j d less inside.
    elim (cases_lt j (length ms)) [
      | inl within ↦
          let first = get_or_append_left ms (m ∷ []) d i (omega arith) in
          let second = get_or_append_left ms (m ∷ []) d j within in
          ap (λ (n : LastTime). same_place n (get_or (ms ++ m ∷ []) j d)) first ∙ ap (λ (n : LastTime). same_place (get_or ms i d) n) second
          ∙ apart_from_distinct same_place ms i j d once less within
      | inr past ↦
          let count = length-append ms (m ∷ []) in
          let last : j ≡ length ms = omega arith in
          let first = get_or_append_left ms (m ∷ []) d i (omega arith) in
          let second : get_or (ms ++ m ∷ []) j d ≡ m = get_or_push ms m d j (sym last) in
          let lower : (get_or ms i d).at < m.at = before i d (omega arith) in
          let different : (get_or ms i d).at ≢ m.at = λ same. absurd (omega arith) in
          ap (λ (n : LastTime). same_place n (get_or (ms ++ m ∷ []) j d)) first ∙ ap (λ (n : LastTime). same_place (get_or ms i d) n) second
          ∙ ne_eqb (get_or ms i d).at m.at different
    ])

push_place : (ds : List Data) (at : ℕ) (d : Data) (ms : List LastTime) (m : LastTime) → slice_get ds at ≡ Some d → m.at ≡ at → IsLastTimeOf ds m → AreLastTimesBefore ds at ms
    → AreLastTimesBefore ds (at + 1) (ms ++ m ∷ [])
push_place ds at d ms m there here is are =
    let same : is.object ≡ d = same_some is.object d (sym is.there ∙ ap (slice_get ds) here ∙ there) in
    let observed : IsObservedData d = subst IsObservedData same is.observed in
    let one_more = count_by_more_yes is_observed_data ds at d (slice_get_within ds at d there) (ap is_observed_data (get_or_from_slice_get ds at d d there) ∙ observed_test d observed) in
    let count = length-append ms (m ∷ []) in
    let was = are.count in
    record {
      each = All-push (IsLastTimeOf ds) ms m are.each is;
      before = All-push (λ (n : LastTime). n.at < at + 1) ms m (before_next ms at are.before) (omega arith);
      all = λ n less its. elim (cases_lt n at) [
        | inl earlier ↦
            let found = are.all n earlier its in
            (found.0, Contains-append_left ms (m ∷ []) found.0 found.1, found.2)
        | inr not_earlier ↦
            let at_n : n ≡ at = omega arith in
            (m, Contains-push ms m, here ∙ sym at_n)
      ];
      once = apart_push ms m (subst (λ e. All (λ (n : LastTime). n.at < e) ms) (sym here) are.before) are.once;
      count = omega arith;
    }

-- and a place with one adds its last time
pub push_at : (ds : List Data) (at : ℕ) (ms : List LastTime) (m : LastTime) → m.at ≡ at → IsLastTimeOf ds m → AreLastTimesBefore ds at ms → AreLastTimesBefore ds (at + 1) (ms ++ m ∷ [])
push_at ds at ms m here is are = push_place ds at is.object ms m (ap (slice_get ds) (sym here) ∙ is.there) here is are

eqb_flips : (a b : ℕ) → (a == b) ≡ (b == a)
eqb_flips a b = grind (arith, nat_tests)

-- in another order they are the last times still
pub last_times_moved : (ds : List Data) (end : ℕ) (ms ns : List LastTime) → IsPermutation ms ns → AreLastTimesBefore ds end ms → AreLastTimesBefore ds end ns
last_times_moved ds end ms ns moves are = record {
  each = All-permutation (IsLastTimeOf ds) ms ns moves are.each;
  before = All-permutation (λ m. m.at < end) ms ns moves are.before;
  all = λ at less is.
      let found = are.all at less is in
      (found.0, Contains-permutation ms ns found.0 moves found.1, found.2);
  once = IsDistinct-IsPermutation same_place (λ m n. eqb_flips m.at n.at) ms ns moves are.once;
  count = length_permutation ms ns moves ∙ are.count;
}
