-- What a search for the end of a head finds, and what it has passed.
use Rattle.std.proofs.Common.{◌≡◌, ℕ, ◌+◌, ◌<◌, ◌≤◌, ◌⊎◌, inl, inr, Bool, true, false, ◌&&◌, ◌||◌, ◌==◌, List, length, get_or, refl, arith, max, Option, Some, None, MatchOption}
use Rattle.std.proofs.Math.ListN.{get_or-eq_default}
use Rattle.std.proofs.lemmas.Bool.{cases_lt}
use Rattle.std.proofs.lemmas.Bool.Decides.{Decides-eqb}
use Rattle.http_messages.specs.declared.search.HeadSearch.{HeadSearch}
use Rattle.http_messages.specs.RequestHeads.{is_line_byte, is_last_line_end, after_empty_line, HasNoEnd, IsFirstEnd, IsHeadAt}
use Rattle.http_messages.specs.inner.Searching.{IsSearched, SkipsTo}

-- a byte that isn't 0 stands in the list
inside : (xs : List ℕ) (k b : ℕ) → 0 < b → (get_or xs k 0 == b) ≡ true → k < length xs
inside xs k b some is = by_offset (cases_lt k (length xs))
  where
    by_offset : (k < length xs) ⊎ (length xs ≤ k) → k < length xs
    by_offset (inl lt) = lt
    by_offset (inr le) =
        let e : get_or xs k 0 ≡ b = (Decides-eqb (get_or xs k 0) b).0 is in
        let zero : get_or xs k 0 ≡ 0 = get_or-eq_default xs 0 le in
        absurd (omega arith)

-- the test of a line end, byte by byte
record IsTested (p q r s : Bool) : Type 0 where
  pub first : p ≡ true
  pub second : (q ≡ true) ⊎ ((r ≡ true) × (s ≡ true))

tested : (p q r s : Bool) → p && (q || (r && s)) ≡ true → IsTested p q r s
tested true true r s is = record { first = refl; second = inl refl }
tested true false true true is = record { first = refl; second = inr (refl, refl) }
tested true false true false is = absurd (cc is)
tested true false false s is = absurd (cc is)
tested false q r s is = absurd (cc is)

-- the empty line after a line end stands in the bytes
pub end_inside : (bytes : List ℕ) (offset : ℕ) → is_last_line_end bytes offset ≡ true → after_empty_line bytes offset ≤ length bytes
end_inside bytes offset empty = by_second (get_or bytes (offset + 1) 0 == 10) refl
  where
    parts : IsTested (get_or bytes offset 0 == 10) (get_or bytes (offset + 1) 0 == 10) (get_or bytes (offset + 1) 0 == 13) (get_or bytes (offset + 2) 0 == 10)
    parts = tested _ _ _ _ empty

    by_rest : (get_or bytes (offset + 1) 0 == 10) ≡ false
        → ((get_or bytes (offset + 1) 0 == 10) ≡ true) ⊎ (((get_or bytes (offset + 1) 0 == 13) ≡ true) × ((get_or bytes (offset + 2) 0 == 10) ≡ true))
        → offset + 3 ≤ length bytes
    by_rest other (inl same) = absurd (cc (other, same))
    by_rest other (inr both) = omega (arith, inside bytes (offset + 2) 10 (omega arith) both.1)

    by_second : (t : Bool) → (get_or bytes (offset + 1) 0 == 10) ≡ t → after_empty_line bytes offset ≤ length bytes
    by_second true is = rw is (omega (arith, inside bytes (offset + 1) 10 (omega arith) is))
    by_second false is = rw is (by_rest is parts.second)

pub offset_inside : (bytes : List ℕ) (offset : ℕ) → is_last_line_end bytes offset ≡ true → offset + 1 < length bytes
offset_inside bytes offset empty = by_rest parts.second
  where
    parts : IsTested (get_or bytes offset 0 == 10) (get_or bytes (offset + 1) 0 == 10) (get_or bytes (offset + 1) 0 == 13) (get_or bytes (offset + 2) 0 == 10)
    parts = tested _ _ _ _ empty

    by_rest : ((get_or bytes (offset + 1) 0 == 10) ≡ true) ⊎ (((get_or bytes (offset + 1) 0 == 13) ≡ true) × ((get_or bytes (offset + 2) 0 == 10) ≡ true)) → offset + 1 < length bytes
    by_rest (inl same) = inside bytes (offset + 1) 10 (omega arith) same
    by_rest (inr both) = inside bytes (offset + 1) 13 (omega arith) both.0

-- the bytes before an offset are all dropped
dropped_to : (bytes : List ℕ) (search : HeadSearch) (start k : ℕ) → IsSearched bytes search → SkipsTo bytes search.start start → k < start
    → is_line_byte (get_or bytes k 0) ≡ true
dropped_to bytes search start k searched skips lt = by_offset (cases_lt k search.start)
  where
    by_offset : (k < search.start) ⊎ (search.start ≤ k) → is_line_byte (get_or bytes k 0) ≡ true
    by_offset (inl before) = searched.dropped k before
    by_offset (inr behind) = skips.passed k behind lt

-- no head ends before the offset where a search goes on
none_to : (bytes : List ℕ) (search : HeadSearch) (start from high : ℕ) → IsSearched bytes search → SkipsTo bytes search.start start → from ≡ max search.next start
    → HasNoEnd bytes from high → HasNoEnd bytes start high
none_to bytes search start from high searched skips is none k low lt = by_offset (cases_lt k from)
  where
    by_offset : (k < from) ⊎ (from ≤ k) → is_last_line_end bytes k ≡ false
    by_offset (inl before) = searched.none k (let order = skips.order in omega arith) (omega arith)
    by_offset (inr behind) = none k behind lt

pub finds_head : (bytes : List ℕ) (search : HeadSearch) (start from offset : ℕ) → IsSearched bytes search → SkipsTo bytes search.start start → from ≡ max search.next start
    → IsFirstEnd bytes from offset → IsHeadAt bytes start (after_empty_line bytes offset)
finds_head bytes search start from offset searched skips is first =
    let within = offset_inside bytes offset first.here in
    let order = first.order in record {
      dropped = λ k lt. dropped_to bytes search start k searched skips lt;
      begins = skips.other (omega arith);
      last = offset;
      after = omega arith;
      empty = first.here;
      first = none_to bytes search start from offset searched skips is first.first;
      end_is = refl;
      within = end_inside bytes offset first.here;
    }

pub searched_to : (bytes : List ℕ) (search now : HeadSearch) (from offset : ℕ) → IsSearched bytes search → SkipsTo bytes search.start now.start → from ≡ max search.next now.start
    → IsFirstEnd bytes from offset → now.next ≡ offset → IsSearched bytes now
searched_to bytes search now from offset searched skips is first next =
    let within = offset_inside bytes offset first.here in
    let order = first.order in record {
      dropped = λ k lt. dropped_to bytes search now.start k searched skips lt;
      order = omega arith;
      within = omega arith;
      settled = λ _. omega arith;
      begins = λ lt. skips.other (omega arith);
      none = λ k low lt. none_to bytes search now.start from offset searched skips is first.first k low (omega arith);
    }

-- where the search goes on, where it found an end
pub next_is : (end : Option ℕ) (P : Type 0) (next offset : ℕ) → MatchOption end P (λ (p : ℕ). next ≡ p) → end ≡ Some offset → next ≡ offset
next_is None P next offset told is = absurd (cc is)
next_is (Some p) P next offset told is = let e : next ≡ p = told in cc

-- nothing is passed at first
pub searched_none : (bytes : List ℕ) (search : HeadSearch) → search.start ≡ 0 → search.next ≡ 0 → IsSearched bytes search
searched_none bytes search start next = record {
  dropped = λ k lt. absurd (omega arith);
  order = omega arith;
  within = omega arith;
  settled = λ lt. absurd (omega arith);
  begins = λ lt. absurd (omega arith);
  none = λ k low lt. absurd (omega arith);
}
