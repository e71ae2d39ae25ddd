-- Which rows fit a page, and what they take.
use Rattle.std.proofs.Common.{◌≡◌, ◌⊎◌, inl, inr, ℕ, ◌+◌, ◌-◌, ◌^◌, ◌<◌, ◌≤◌, List, [], ◌∷◌, ◌++◌, length, true, false, refl, sym, subst, arith, length-append}
use Rattle.std.specs.Prelude.{nat_lt, min}
use Rattle.std.proofs.lemmas.Bool.{ltb-true, ltb-false}
use Rattle.taxii_rows.specs.declared.stored_row.StoredRow.{StoredRow}
use Rattle.taxii_routes.specs.declared.query.Query.{Query}
use Rattle.taxii_store.specs.Page.{page_size, page_bytes, FitsPage}

pub bytes_append : (xs ys : List StoredRow) → page_bytes (xs ++ ys) ≡ page_bytes xs + page_bytes ys
bytes_append [] ys = omega arith
bytes_append (row ∷ xs) ys = omega (arith, bytes_append xs ys)

pub none_fit : (query : Query) → FitsPage query []
none_fit query = (omega arith, inl (omega arith))

-- the first of some rows that fit do
pub fits_less : (query : Query) (xs ys : List StoredRow) → FitsPage query (xs ++ ys) → FitsPage query xs
fits_less query xs ys fits = (omega (arith, long, fits.0), few fits.1)
  where
    long : length (xs ++ ys) ≡ length xs + length ys
    long = length-append xs ys

    few : (length (xs ++ ys) ≤ 1) ⊎ (page_bytes (xs ++ ys) ≤ 67000000) → (length xs ≤ 1) ⊎ (page_bytes xs ≤ 67000000)
    few (inl one) = inl (omega (arith, long, one))
    few (inr short) = inr (omega (arith, bytes_append xs ys, short))

-- ---- as it is filled

-- the number is what the rows take, or the largest of a machine if that is more
abbrev pub IsCountOf : ℕ → List StoredRow → Type 0
IsCountOf bytes rows = bytes ≡ min (page_bytes rows) (2 ^ 64 - 1)

-- what a test of the code finds
abbrev pub HasRoom : ℕ → ℕ → ℕ → Type 0
HasRoom rows size bytes = (rows < size) × ((rows ≡ 0) ⊎ (bytes ≤ 67000000))

pub none_counted : IsCountOf 0 []
none_counted = refl

pub one_counted : (page : List StoredRow) (row : StoredRow) (bytes taken : ℕ) → IsCountOf bytes page → taken ≡ min (bytes + length row.body + 1) (2 ^ 64 - 1)
    → IsCountOf taken (page ++ row ∷ [])
one_counted page row bytes taken counted is = let all = bytes_append page (row ∷ []) in omega (arith, all, counted, is)

module _ (query : Query) (page : List StoredRow) (row : StoredRow) (rows size taken : ℕ) (many : rows ≡ length page) (asked : size ≡ page_size query) (counted : IsCountOf taken (page ++ row ∷ [])) where
  long : length (page ++ row ∷ []) ≡ length page + 1
  long = length-append page (row ∷ [])

  pub fits_more : HasRoom rows size taken → FitsPage query (page ++ row ∷ [])
  fits_more room = (omega (arith, long, many, asked, room.0), few room.1)
    where
      few : (rows ≡ 0) ⊎ (taken ≤ 67000000) → (length (page ++ row ∷ []) ≤ 1) ⊎ (page_bytes (page ++ row ∷ []) ≤ 67000000)
      few (inl first) = inl (omega (arith, long, many, first))
      few (inr short) = inr (omega (arith, counted, short))

  pub room_found : FitsPage query (page ++ row ∷ []) → HasRoom rows size taken
  room_found fits = (omega (arith, long, many, asked, fits.0), few fits.1)
    where
      few : (length (page ++ row ∷ []) ≤ 1) ⊎ (page_bytes (page ++ row ∷ []) ≤ 67000000) → (rows ≡ 0) ⊎ (taken ≤ 67000000)
      few (inl one) = inl (omega (arith, long, many, one))
      few (inr short) = inr (omega (arith, counted, short))

-- ---- what a page leaves

-- it leaves none
pub none_left : (rest : List StoredRow) → false ≡ nat_lt 0 (length rest) → rest ≡ []
none_left [] none = refl
none_left (row ∷ rest) none = absurd (omega (arith, ltb-false 0 (length (row ∷ rest)) (sym none)))

-- where it leaves some, it has one
pub some_taken : (query : Query) (page rest : List StoredRow) → 1 ≤ page_size query → true ≡ nat_lt 0 (length rest)
    → ((next : StoredRow) (others : List StoredRow) → rest ≡ next ∷ others → ¬ FitsPage query (page ++ next ∷ [])) → ¬ (page ≡ [])
some_taken query page [] size more full none = omega (arith, ltb-true 0 0 (sym more))
some_taken query page (next ∷ others) size more full none =
    full next others refl (subst (λ (rows : List StoredRow). FitsPage query (rows ++ next ∷ [])) (sym none) (omega (arith, size), inl (omega arith)))
