-- The rows of an object, out of dates that lead to them.
use Rattle.std.proofs.Common.{◌≡◌, ◌⊎◌, ℕ, ◌+◌, ◌≤◌, ◌<◌, List, [], ◌∷◌, ◌++◌, Bool, true, Option, Some, None, inl, inr, refl, sym, ap, ◌∙◌, subst, arith, filter_map, nat_cmp, nat_eq, length, take, get_or, append-nil}
use Rattle.std.specs.List.{Contains, dedup, cons_option}
use Rattle.std.specs.List.Retain.{IsFiltered, DiffersFromLast}
use Rattle.std.specs.List.Sorted.{IsSorted, IsStrictlySortedBy, IsPermutation}
use Rattle.std.specs.declared.cmp.Ordering.TheVariants.{Less}
use Rattle.std.specs.Cmp.{unsigned_ties}
use Rattle.std.proofs.lemmas.Bool.{cases_Bool, cond-true, cond-false, eqb-true}
use Rattle.std.proofs.lemmas.Cmp.{nat_cmp_total, nat_eq_equiv, ranked}
use Rattle.std.proofs.lemmas.List.Elements.{All-from_recursion, All-contains, filter_map-append}
use Rattle.std.proofs.lemmas.List.{take_more}
use Rattle.std.proofs.lemmas.List.Filters.{dedup_is}
use Rattle.std.proofs.lemmas.List.Kept.{IsStrictlySortedBy-dedup, Any-dedup}
use Rattle.std.proofs.lemmas.List.Sorted.{Contains-permutation}
use Rattle.std.proofs.lemmas.Map.Keys.{sorted_head, sorted_tail}
use Rattle.stix_ids.specs.declared.id.Id.{Id}
use Rattle.taxii_rows.specs.declared.stored_row.StoredRow.{StoredRow}
use Rattle.taxii_rows.specs.StoreState.{dates_of, AscendFrom}
use Rattle.taxii_rows.specs.Keeper.{row_at}
use Rattle.taxii_rows.specs.Identity.{is_row_of}
use Rattle.taxii_index.specs.Keys.{Key, IsIn64Bits}
use Rattle.taxii_index.specs.Index.{version_key, key_dates, LeadsToObject, AreRowsOf, passing, row_where}
use Rattle.taxii_index.proofs.ListLemmas.{nothing, first, later, cons_cases, same_element, Contains-map}
use Rattle.taxii_index.proofs.RowLemmas.{none_is_some, some_same, least_row, row_at_its, row_at_found}
use Rattle.taxii_index.proofs.LookUpLemmas.{following_front}

-- ---- dates in their order, each once

strict_ascend : (least : ℕ) (dates : List ℕ) → IsStrictlySortedBy nat_cmp dates → ((date : ℕ) → Contains dates date → least ≤ date) → AscendFrom least dates
strict_ascend least [] ordered from = tt
strict_ascend least (date ∷ dates) ordered from =
    let front = All-from_recursion (λ (other : ℕ). nat_cmp date other ≡ Less) dates (sorted_head nat_cmp date dates ordered) in (
      from date (first date dates),
      strict_ascend (date + 1) dates (sorted_tail nat_cmp date dates ordered) (λ other here.
          let following : date < other = ranked date other Less (sym (All-contains (λ (other : ℕ). nat_cmp date other ≡ Less) dates other front here)) in omega (arith, following)),
    )

pub ascend_once : (sorted once : List ℕ) → IsSorted nat_cmp sorted → IsFiltered (DiffersFromLast nat_eq) [] sorted once → AscendFrom 0 once
ascend_once sorted once ordered filtered = subst (AscendFrom 0) (sym (dedup_is nat_eq sorted once filtered))
    (strict_ascend 0 (dedup nat_eq sorted) (IsStrictlySortedBy-dedup nat_cmp_total unsigned_ties sorted ordered) (λ date here. omega arith))

pub each_once : (dates sorted once : List ℕ) → IsPermutation dates sorted → IsFiltered (DiffersFromLast nat_eq) [] sorted once
    → (date : ℕ) → Contains dates date → Contains once date
each_once dates sorted once moved filtered date here =
    let kept = Any-dedup nat_eq_equiv sorted date (Contains-permutation dates sorted date moved here) in
    subst (λ (all : List ℕ). Contains all date) (sym (dedup_is nat_eq sorted once filtered))
    (same_element kept.1 date (dedup nat_eq sorted) (sym (eqb-true date kept.1 kept.4)) (kept.0, kept.2, kept.3))

-- ---- the row of a date

its_row : (test : StoredRow → Bool) (rows : List StoredRow) (date : ℕ) (row : StoredRow) → row_where test rows date ≡ Some row
    → Contains rows row × (row.date ≡ date) × (test row ≡ true)
its_row test rows date row is = go (row_at date rows) refl is
  where
    go : (found : Option StoredRow) → row_at date rows ≡ found → passing test found ≡ Some row → Contains rows row × (row.date ≡ date) × (test row ≡ true)
    go None at is = absurd (none_is_some row is)
    go (Some one) at is = elim (cases_Bool (test one)) [
      | inl holds ↦
          let same : one ≡ row = some_same one row (sym (cond-true (test one) (Some one) None holds) ∙ is) in
          let here = row_at_found date rows row (at ∙ ap (λ (r : StoredRow). Some r) same) in
          (here.0, here.1, ap test (sym same) ∙ holds)
      | inr fails ↦ absurd (none_is_some row (sym (cond-false (test one) (Some one) None fails) ∙ is))
    ]

row_its : (test : StoredRow → Bool) (rows : List StoredRow) (row : StoredRow) → AscendFrom 1 (dates_of rows) → Contains rows row → test row ≡ true
    → row_where test rows row.date ≡ Some row
row_its test rows row ascend here holds = ap (passing test) (row_at_its 1 rows row ascend here) ∙ cond-true (test row) (Some row) None holds

-- ---- the rows of some dates

lower : (least then : ℕ) (rows : List StoredRow) → least ≤ then → AscendFrom then (dates_of rows) → AscendFrom least (dates_of rows)
lower least then [] earlier ascend = tt
lower least then (row ∷ rows) earlier ascend = (omega (arith, ascend.0, earlier), ascend.1)

ascend_on : (least date : ℕ) (found : Option StoredRow) (rest : List StoredRow) → least ≤ date → ((row : StoredRow) → found ≡ Some row → row.date ≡ date)
    → AscendFrom (date + 1) (dates_of rest) → AscendFrom least (dates_of (cons_option found rest))
ascend_on least date None rest from its ascend = lower least (date + 1) rest (omega (arith, from)) ascend
ascend_on least date (Some row) rest from its ascend =
    (omega (arith, its row refl, from), subst (λ (d : ℕ). AscendFrom (d + 1) (dates_of rest)) (sym (its row refl)) ascend)

found_ascend : (test : StoredRow → Bool) (rows : List StoredRow) (least : ℕ) (dates : List ℕ) → AscendFrom least dates → AscendFrom least (dates_of (filter_map (row_where test rows) dates))
found_ascend test rows least [] ascend = tt
found_ascend test rows least (date ∷ dates) ascend =
    ascend_on least date (row_where test rows date) (filter_map (row_where test rows) dates) ascend.0 (λ row is. (its_row test rows date row is).1) (found_ascend test rows (date + 1) dates ascend.1)

on_cases : (found : Option StoredRow) (rest : List StoredRow) (row : StoredRow) → Contains (cons_option found rest) row → (found ≡ Some row) ⊎ Contains rest row
on_cases None rest row here = inr here
on_cases (Some one) rest row here = elim (cons_cases one row rest here) [ inl same ↦ inl (ap (λ (r : StoredRow). Some r) same) | inr following ↦ inr following ]

on_first : (found : Option StoredRow) (rest : List StoredRow) (row : StoredRow) → found ≡ Some row → Contains (cons_option found rest) row
on_first found rest row is = subst (λ (one : Option StoredRow). Contains (cons_option one rest) row) (sym is) (first row rest)

on_rest : (found : Option StoredRow) (rest : List StoredRow) (row : StoredRow) → Contains rest row → Contains (cons_option found rest) row
on_rest None rest row here = here
on_rest (Some one) rest row here = later one row rest here

found_from : (test : StoredRow → Bool) (rows : List StoredRow) (dates : List ℕ) (row : StoredRow) → Contains (filter_map (row_where test rows) dates) row
    → Contains rows row × (test row ≡ true)
found_from test rows [] row here = absurd (nothing row here)
found_from test rows (date ∷ dates) row here = elim (on_cases (row_where test rows date) (filter_map (row_where test rows) dates) row here) [
  | inl is ↦ let its = its_row test rows date row is in (its.0, its.2)
  | inr following ↦ found_from test rows dates row following
]

found_to : (test : StoredRow → Bool) (rows : List StoredRow) (dates : List ℕ) (row : StoredRow) → row_where test rows row.date ≡ Some row → Contains dates row.date
    → Contains (filter_map (row_where test rows) dates) row
found_to test rows [] row is here = absurd (nothing row.date here)
found_to test rows (date ∷ dates) row is here = elim (cons_cases date row.date dates here) [
  | inl same ↦ on_first (row_where test rows date) (filter_map (row_where test rows) dates) row (ap (row_where test rows) same ∙ is)
  | inr following ↦ on_rest (row_where test rows date) (filter_map (row_where test rows) dates) row (found_to test rows dates row is following)
]

from_one : (rows : List StoredRow) → AscendFrom 0 (dates_of rows) → ((row : StoredRow) → Contains rows row → 1 ≤ row.date) → AscendFrom 1 (dates_of rows)
from_one [] ascend dated = tt
from_one (row ∷ rows) ascend dated = (dated row (first row rows), ascend.1)

pub rows_found : (collection : ℕ) (id : Id) (rows : List StoredRow) (dates : List ℕ) → AscendFrom 1 (dates_of rows) → AscendFrom 0 dates
    → ((row : StoredRow) → Contains rows row → is_row_of collection id row ≡ true → Contains dates row.date)
    → AreRowsOf collection id rows (filter_map (row_where (is_row_of collection id) rows) dates)
rows_found collection id rows dates ascend order every =
    let test = is_row_of collection id in record {
      ascend = from_one (filter_map (row_where test rows) dates) (found_ascend test rows 0 dates order)
          (λ row here. least_row 1 rows row ascend (found_from test rows dates row here).0);
      each = λ row. (
        found_from test rows dates row,
        λ its. found_to test rows dates row (row_its test rows row ascend its.0 its.1) (every row its.0 its.1),
      );
    }

-- one date more, whose row passes the test, or doesn't
pub one_more : (h : ℕ → Option StoredRow) (dates : List ℕ) (i : ℕ) (row : StoredRow) (found : List StoredRow) → i < length dates → Some row ≡ h (get_or dates i 0)
    → found ≡ filter_map h (take i dates) → found ++ row ∷ [] ≡ filter_map h (take (i + 1) dates)
one_more h dates i row found within is so_far = sym (
    ap (filter_map h) (take_more dates i 0 within) ∙ filter_map-append h (take i dates) (get_or dates i 0 ∷ [])
    ∙ ap (λ (last : Option StoredRow). filter_map h (take i dates) ++ cons_option last []) (sym is)
    ∙ ap (λ (front : List StoredRow). front ++ row ∷ []) (sym so_far))

pub none_more : (h : ℕ → Option StoredRow) (dates : List ℕ) (i : ℕ) (found : List StoredRow) → i < length dates → None ≡ h (get_or dates i 0)
    → found ≡ filter_map h (take i dates) → found ≡ filter_map h (take (i + 1) dates)
none_more h dates i found within is so_far = sym (
    ap (filter_map h) (take_more dates i 0 within) ∙ filter_map-append h (take i dates) (get_or dates i 0 ∷ [])
    ∙ ap (λ (last : Option StoredRow). filter_map h (take i dates) ++ cons_option last []) (sym is)
    ∙ append-nil (filter_map h (take i dates)) ∙ sym so_far)

-- ---- the keys of an object

-- they lead to the date of each of its rows
pub date_of_each : (secret collection : ℕ) (id : Id) (rows : List StoredRow) (keys : List Key) → AscendFrom 1 (dates_of rows)
    → ((row : StoredRow) → Contains rows row → IsIn64Bits (version_key secret row)) → LeadsToObject secret collection id rows keys
    → (row : StoredRow) → Contains rows row → is_row_of collection id row ≡ true → Contains (key_dates keys) row.date
date_of_each secret collection id rows keys ascend bits leads row here its =
    Contains-map (λ (key : Key). key.2) keys (version_key secret row)
    ((leads.those row here its).1 (following_front secret collection id row (bits row here) (least_row 1 rows row ascend here)))
