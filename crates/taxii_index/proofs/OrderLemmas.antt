-- The order of keys of one name: by number, and of one number by date.
use Rattle.std.proofs.Common.{◌≡◌, ◌⊎◌, ℕ, ◌+◌, ◌<◌, ◌≤◌, ℤ, ◌<ℤ◌, List, [], ◌∷◌, true, false, not, inl, inr, refl, sym, ap, ◌∙◌, subst, arith, nat_cmp}
use Rattle.std.specs.List.{Contains}
use Rattle.std.specs.List.Sorted.{IsStrictlySortedBy}
use Rattle.std.specs.declared.cmp.Ordering.{Ordering}
use Rattle.std.specs.declared.cmp.Ordering.TheVariants.{Less, Equal, Greater}
use Rattle.std.specs.Ordering.{ordering_then, ordering_reverse, int_cmp, is_lt, is_le}
use Rattle.std.proofs.lemmas.Bool.{false≢true, false_from_ne_true}
use Rattle.std.proofs.lemmas.Cmp.{nat_cmp_total, ranked, int_ranked, tied_itself}
use Rattle.std.proofs.lemmas.Int.{ints}
use Rattle.std.proofs.lemmas.List.Elements.{All-from_recursion, All-contains}
use Rattle.std.proofs.lemmas.Map.Keys.{sorted_head, sorted_tail}
use Rattle.taxii_rows.specs.StoreState.{AscendFrom}
use Rattle.taxii_index.specs.Keys.{Key, key_cmp}
use Rattle.taxii_index.specs.Index.{key_dates}
use Rattle.taxii_index.proofs.ListLemmas.{first, later}
use Rattle.taxii_index.proofs.KeyLemmas.{key_total}

-- the first is earlier: by number, and of one number by date
abbrev pub Precedes : ℤ → ℕ → ℤ → ℕ → Type 0
Precedes number date other_number other_date = (number <ℤ other_number) ⊎ ((number ≡ other_number) × (date < other_date))

from_less : (v w : ℤ) (d e : ℕ) (numbers dates : Ordering) → numbers ≡ int_cmp v w → dates ≡ nat_cmp d e → is_lt (ordering_then numbers dates) ≡ true → Precedes v d w e
from_less v w d e Less dates number date less = inl (int_ranked v w Less number)
from_less v w d e Equal Less number date less = inr (int_ranked v w Equal number, ranked d e Less date)
from_less v w d e Equal Equal number date less = absurd (false≢true less)
from_less v w d e Equal Greater number date less = absurd (false≢true less)
from_less v w d e Greater dates number date less = absurd (false≢true less)

pub never : (v w : ℤ) (d e : ℕ) → w <ℤ v → Precedes v d w e → ⊥
never v w d e back order = elim order [
  | inl less ↦ omega (arith, ints)
  | inr same ↦ let is : v ≡ w = same.0 in omega (arith, ints)
]

pub never_of_one : (v w : ℤ) (d e : ℕ) → v ≡ w → e ≤ d → Precedes v d w e → ⊥
never_of_one v w d e is back order = elim order [
  | inl less ↦ omega (arith, ints)
  | inr same ↦ let date : d < e = same.1 in omega arith
]

to_less : (v w : ℤ) (d e : ℕ) (numbers dates : Ordering) → numbers ≡ int_cmp v w → dates ≡ nat_cmp d e → Precedes v d w e → is_lt (ordering_then numbers dates) ≡ true
to_less v w d e Less dates number date order = refl
to_less v w d e Equal Less number date order = refl
to_less v w d e Equal Equal number date order =
    let one : d ≡ e = ranked d e Equal date in absurd (never_of_one v w d e (int_ranked v w Equal number) (omega arith) order)
to_less v w d e Equal Greater number date order =
    let back : e < d = ranked d e Greater date in absurd (never_of_one v w d e (int_ranked v w Equal number) (omega arith) order)
to_less v w d e Greater dates number date order = absurd (never v w d e (int_ranked v w Greater number) order)

one_name : (key other : Key) → key.0 ≡ other.0 → key_cmp key other ≡ ordering_then (int_cmp key.1 other.1) (nat_cmp key.2 other.2)
one_name key other name =
    let tied : nat_cmp key.0 other.0 ≡ Equal = subst (λ (n : ℕ). nat_cmp key.0 n ≡ Equal) name (tied_itself nat_cmp_total key.0) in
    ap (λ (names : Ordering). ordering_then (ordering_then names (int_cmp key.1 other.1)) (nat_cmp key.2 other.2)) tied

pub precedes_from_less : (key other : Key) → key.0 ≡ other.0 → is_lt (key_cmp key other) ≡ true → Precedes key.1 key.2 other.1 other.2
precedes_from_less key other name less =
    from_less key.1 other.1 key.2 other.2 (int_cmp key.1 other.1) (nat_cmp key.2 other.2) refl refl (sym (ap is_lt (one_name key other name)) ∙ less)

pub less_from_precedes : (key other : Key) → key.0 ≡ other.0 → Precedes key.1 key.2 other.1 other.2 → is_lt (key_cmp key other) ≡ true
less_from_precedes key other name order =
    ap is_lt (one_name key other name) ∙ to_less key.1 other.1 key.2 other.2 (int_cmp key.1 other.1) (nat_cmp key.2 other.2) refl refl order

pub not_less : (key other : Key) → key.0 ≡ other.0 → (Precedes key.1 key.2 other.1 other.2 → ⊥) → is_lt (key_cmp key other) ≡ false
not_less key other name apart = false_from_ne_true (is_lt (key_cmp key other)) (λ less. apart (precedes_from_less key other name less))

reversed : (order : Ordering) → is_le (ordering_reverse order) ≡ not (is_lt order)
reversed Less = refl
reversed Equal = refl
reversed Greater = refl

-- not later is not the other way earlier
pub le_from_less : (key other : Key) → is_le (key_cmp key other) ≡ not (is_lt (key_cmp other key))
le_from_less key other = ap is_le (key_total.antisymm key other) ∙ reversed (key_cmp other key)

-- between two keys of one name and number stand only keys of both
pub between_ends : (names numbers low high : Ordering) → is_le (ordering_then (ordering_then names numbers) low) ≡ true
    → is_lt (ordering_then (ordering_then names numbers) high) ≡ false → (names ≡ Equal) × (numbers ≡ Equal)
between_ends Less numbers low high from upto = absurd (false≢true (sym upto))
between_ends Equal Less low high from upto = absurd (false≢true (sym upto))
between_ends Equal Equal low high from upto = (refl, refl)
between_ends Equal Greater low high from upto = absurd (false≢true from)
between_ends Greater numbers low high from upto = absurd (false≢true from)

less : (order : Ordering) → order ≡ Less → is_lt order ≡ true
less order is = ap is_lt is

-- the dates of keys of one name and number ascend as the keys stand
pub dates_ascend : (name : ℕ) (number : ℤ) (least : ℕ) (keys : List Key) → IsStrictlySortedBy key_cmp keys
    → ((key : Key) → Contains keys key → (key.0 ≡ name) × (key.1 ≡ number) × (least ≤ key.2)) → AscendFrom least (key_dates keys)
dates_ascend name number least [] ordered own = tt
dates_ascend name number least (key ∷ keys) ordered own =
    let here = own key (first key keys) in
    let front = All-from_recursion (λ (other : Key). key_cmp key other ≡ Less) keys (sorted_head key_cmp key keys ordered) in (
      here.2,
      dates_ascend name number (key.2 + 1) keys (sorted_tail key_cmp key keys ordered) (λ other in_rest.
          let its = own other (later key other keys in_rest) in
          let following : key_cmp key other ≡ Less = All-contains (λ (other : Key). key_cmp key other ≡ Less) keys other front in_rest in
          let order = precedes_from_less key other (here.0 ∙ sym its.0) (less (key_cmp key other) following) in
          (its.0, its.1, next_date key.1 other.1 key.2 other.2 (here.1 ∙ sym its.1) order)),
    )
  where
    next_date : (v w : ℤ) (d e : ℕ) → v ≡ w → Precedes v d w e → d + 1 ≤ e
    next_date v w d e is order = elim order [ inl below ↦ absurd (omega (arith, ints)) | inr same ↦ omega (arith, same.1) ]
