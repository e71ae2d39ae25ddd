-- The entries with a key stand together in a sorted list.
use Rattle.std.proofs.Common.{arith, ◌≡◌, ℕ, ◌+◌, ◌-◌, ◌<◌, ◌≤◌, List, length, take, drop, get_or, true, false, refl, sym, ap, subst, ◌∙◌, Ordering}
use Rattle.std.specs.Prelude.{Contains}
use Rattle.std.specs.Ordering.{is_lt, is_le, ordering_index}
use Rattle.std.specs.declared.cmp.Ordering.TheVariants.{Less, Equal, Greater}
use Rattle.std.specs.List.Sorted.{IsSortedByKey, IsNonDecreasingBy, IsPartitionedBy, IsPartitionPoint}
use Rattle.std.specs.Cmp.{IsTotalOrder}
use Rattle.std.proofs.lemmas.Bool.{false≢true}
use Rattle.std.proofs.lemmas.List.{get_or-drop, get_or-take, length-drop, length-take}
use Rattle.std.proofs.lemmas.List.Sorted.{searchable_from_sorted, IsNonDecreasingBy-drop}

below_lt : (r s : Ordering) → ordering_index r ≤ ordering_index s → is_lt s ≡ true → is_lt r ≡ true
below_lt Less s low is = refl
below_lt Equal Less low is = absurd (omega (arith, low))
below_lt Equal Equal low is = is
below_lt Equal Greater low is = is
below_lt Greater Less low is = absurd (omega (arith, low))
below_lt Greater Equal low is = is
below_lt Greater Greater low is = is

below_le : (r s : Ordering) → ordering_index r ≤ ordering_index s → is_le s ≡ true → is_le r ≡ true
below_le Less s low is = refl
below_le Equal s low is = refl
below_le Greater Less low is = absurd (omega (arith, low))
below_le Greater Equal low is = absurd (omega (arith, low))
below_le Greater Greater low is = is

not_below : (k from : ℕ) → ¬ (k < from) → from ≤ k
not_below k from not = grind arith

not_above : (k count : ℕ) → ¬ (count ≤ k) → k < count
not_above k count not = grind arith

neither : (r : Ordering) → is_le r ≡ true → is_lt r ≡ false → r ≡ Equal
neither Less le lt = absurd (false≢true (sym lt))
neither Equal le lt = refl
neither Greater le lt = absurd (false≢true le)

module _ {K V : Type 0} {R : K → K → Ordering} (total : IsTotalOrder R) (entries : List (K × V)) (key : K) (sorted : IsSortedByKey (λ (entry : K × V). entry.0) R entries) where
  ascends : IsNonDecreasingBy (λ (entry : K × V). ordering_index (R entry.0 key)) entries
  ascends = searchable_from_sorted total (λ (entry : K × V). entry.0) entries key sorted

  -- those with a lesser key stand first
  pub lesser_first : IsPartitionedBy (λ (entry : K × V). is_lt (R entry.0 key)) entries
  lesser_first i j d low below is = below_lt (R (get_or entries i d).0 key) (R (get_or entries j d).0 key) (ascends i j d low below) is

  -- and of the others those that aren't greater
  pub equal_first : (from : ℕ) → IsPartitionedBy (λ (entry : K × V). is_le (R entry.0 key)) (drop from entries)
  equal_first from i j d low below is =
      below_le (R (get_or (drop from entries) i d).0 key) (R (get_or (drop from entries) j d).0 key)
      (IsNonDecreasingBy-drop (λ (entry : K × V). ordering_index (R entry.0 key)) from entries ascends i j d low below) is

  -- so that those between are all with the key
  pub found_between : (from count : ℕ) → IsPartitionPoint (λ (entry : K × V). is_lt (R entry.0 key) ≡ true) (λ (entry : K × V). is_lt (R entry.0 key) ≡ false) entries from
      → IsPartitionPoint (λ (entry : K × V). is_le (R entry.0 key) ≡ true) (λ (entry : K × V). is_le (R entry.0 key) ≡ false) (drop from entries) count
      → (own : K) (value : V) → R own key ≡ Equal → Contains entries (own, value) → Contains (take count (drop from entries)) (own, value)
  found_between from count first second own value alike has =
      let entry : K × V = (own, value) in
      let k = has.0 in
      let not_before : from ≤ k = not_below k from (λ before. false≢true (ap is_lt (sym alike) ∙ subst (λ (e : K × V). is_lt (R e.0 key) ≡ true) has.2 (first.0 k entry (omega arith) before))) in
      let there : get_or (drop from entries) (k - from) entry ≡ entry = get_or-drop from entries (k - from) entry ∙ ap (λ (n : ℕ). get_or entries n entry) (omega arith) ∙ has.2 in
      let within : k - from < length (drop from entries) = omega (arith, length-drop from entries, has.1) in
      let not_behind : k - from < count = not_above (k - from) count (λ behind. false≢true (sym (subst (λ (e : K × V). is_le (R e.0 key) ≡ false) there (second.1 (k - from) entry behind within)) ∙ ap is_le alike)) in
      (k - from, omega (arith, length-take count (drop from entries)), get_or-take count (drop from entries) (k - from) entry not_behind ∙ there)

  -- and with no other
  pub keyed_between : (from count : ℕ) → IsPartitionPoint (λ (entry : K × V). is_lt (R entry.0 key) ≡ true) (λ (entry : K × V). is_lt (R entry.0 key) ≡ false) entries from
      → IsPartitionPoint (λ (entry : K × V). is_le (R entry.0 key) ≡ true) (λ (entry : K × V). is_le (R entry.0 key) ≡ false) (drop from entries) count
      → (entry : K × V) → Contains (take count (drop from entries)) entry → R entry.0 key ≡ Equal
  keyed_between from count first second entry has =
      let k = has.0 in
      let long = length-take count (drop from entries) in
      let before : k < count = omega (arith, long, has.1) in
      let within : k < length (drop from entries) = omega (arith, long, has.1) in
      let there : get_or (drop from entries) k entry ≡ entry = sym (get_or-take count (drop from entries) k entry before) ∙ has.2 in
      let behind : get_or entries (from + k) entry ≡ entry = sym (get_or-drop from entries k entry) ∙ there in
      neither (R entry.0 key) (subst (λ (e : K × V). is_le (R e.0 key) ≡ true) there (second.0 k entry (omega arith) before))
      (subst (λ (e : K × V). is_lt (R e.0 key) ≡ false) behind (first.1 (from + k) entry (omega arith) (omega (arith, length-drop from entries, within))))
