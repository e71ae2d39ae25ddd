-- Dates that ascend: from an earlier bound, at two places, with rows taken out, and what halving finds among them.
use Rattle.std.proofs.Common.{◌≡◌, ℕ, zero, suc, ◌+◌, ◌<◌, ◌≤◌, List, [], ◌∷◌, length, Bool, true, false, cond, Option, Some, None, Result, Ok, Err, inl, inr, get_or, refl, sym, ap, ◌∙◌, arith, eqb, leb, ltb, subst, nat_cmp, filter, is_ok, option_map, MatchOption, HoldsAt, Bor}
use Rattle.std.specs.List.{slice_get, AllWithin}
use Rattle.std.specs.List.Sorted.{IsNonDecreasingBy, IsBinarySearchResult}
use Rattle.std.proofs.lemmas.Bool.{cases_lt, cases_order, ltb-true, ltb-false, le-ltb, lt-ltb, leb-true, leb-false, eq-eqb, ne_eqb}
use Rattle.std.proofs.lemmas.List.{length-map, get_or-map}
use Rattle.std.proofs.lemmas.List.Elements.{All-from_get_or}
use Rattle.std.proofs.lemmas.List.Folds.{list_any_at, list_any_none}
use Rattle.std.proofs.lemmas.List.Sorted.{searched}
use Rattle.std.proofs.lemmas.Option.{slice_get_past, slice_get_read}
use Rattle.taxii_rows.specs.declared.stored_row.StoredRow.{StoredRow}
use Rattle.taxii_rows.specs.StoreState.{dates_of, AscendFrom}
use Rattle.taxii_rows.specs.Keeper.{row_after, row_at, is_date_in}

pub ascend_from_earlier : (least later : ℕ) (dates : List ℕ) → least ≤ later → AscendFrom later dates → AscendFrom least dates
ascend_from_earlier least later [] earlier ascend = tt
ascend_from_earlier least later (date ∷ dates) earlier ascend = (omega (arith, ascend.0), ascend.1)

at_least : (least : ℕ) (dates : List ℕ) (j d : ℕ) → AscendFrom least dates → j < length dates → least ≤ get_or dates j d
at_least least [] j d ascend within = absurd (omega arith)
at_least least (date ∷ dates) zero d ascend within = ascend.0
at_least least (date ∷ dates) (suc j) d ascend within =
    let rest : date + 1 ≤ get_or dates j d = at_least (date + 1) dates j d ascend.1 (omega arith) in omega (arith, ascend.0)

-- no date is later than one after it
pub never_fall : (least : ℕ) (dates : List ℕ) → AscendFrom least dates → (i j d : ℕ) → i ≤ j → j < length dates → get_or dates i d ≤ get_or dates j d
never_fall least [] ascend i j d before within = absurd (omega arith)
never_fall least (date ∷ dates) ascend zero zero d before within = omega arith
never_fall least (date ∷ dates) ascend zero (suc j) d before within =
    let rest : date + 1 ≤ get_or dates j d = at_least (date + 1) dates j d ascend.1 (omega arith) in omega arith
never_fall least (date ∷ dates) ascend (suc i) zero d before within = absurd (omega arith)
never_fall least (date ∷ dates) ascend (suc i) (suc j) d before within = never_fall (date + 1) dates ascend.1 i j d (omega arith) (omega arith)

at_least_more : (least : ℕ) (dates : List ℕ) → AscendFrom least dates → (i j d : ℕ) → i < j → j < length dates → get_or dates i d < get_or dates j d
at_least_more least [] ascend i j d before within = absurd (omega arith)
at_least_more least (date ∷ dates) ascend zero zero d before within = absurd (omega arith)
at_least_more least (date ∷ dates) ascend zero (suc j) d before within =
    let rest : date + 1 ≤ get_or dates j d = at_least (date + 1) dates j d ascend.1 (omega arith) in omega arith
at_least_more least (date ∷ dates) ascend (suc i) zero d before within = absurd (omega arith)
at_least_more least (date ∷ dates) ascend (suc i) (suc j) d before within = at_least_more (date + 1) dates ascend.1 i j d (omega arith) (omega arith)

-- a row is later than those before it
pub rows_ascend : (least : ℕ) (rows : List StoredRow) → AscendFrom least (dates_of rows) → (i j : ℕ) (d : StoredRow) → i < j → j < length rows → (get_or rows i d).date < (get_or rows j d).date
rows_ascend least rows ascend i j d before within =
    let date = λ (row : StoredRow). row.date in
    let count : length (dates_of rows) ≡ length rows = length-map rows date in
    let first : get_or (dates_of rows) i d.date ≡ (get_or rows i d).date = get_or-map date rows i d d.date (omega arith) in
    let second : get_or (dates_of rows) j d.date ≡ (get_or rows j d).date = get_or-map date rows j d d.date within in
    let order : get_or (dates_of rows) i d.date < get_or (dates_of rows) j d.date = at_least_more least (dates_of rows) ascend i j d.date before (omega arith) in
    omega arith

-- the same of rows
pub rows_never_fall : (least : ℕ) (rows : List StoredRow) → AscendFrom least (dates_of rows) → IsNonDecreasingBy (λ row. row.date) rows
rows_never_fall least rows ascend i j d before within =
    let date = λ (row : StoredRow). row.date in
    let count : length (dates_of rows) ≡ length rows = length-map rows date in
    let first : get_or (dates_of rows) i d.date ≡ (get_or rows i d).date = get_or-map date rows i d d.date (omega arith) in
    let second : get_or (dates_of rows) j d.date ≡ (get_or rows j d).date = get_or-map date rows j d d.date within in
    let order : get_or (dates_of rows) i d.date ≤ get_or (dates_of rows) j d.date = never_fall least (dates_of rows) ascend i j d.date before (omega arith) in
    omega arith

kept : (least : ℕ) (row : StoredRow) (rows : List StoredRow) (stays : Bool) → least ≤ row.date → AscendFrom (row.date + 1) (dates_of rows)
    → AscendFrom least (dates_of (cond stays (row ∷ rows) rows))
kept least row rows true here ascend = (here, ascend)
kept least row rows false here ascend = ascend_from_earlier least (row.date + 1) (dates_of rows) (omega arith) ascend

-- rows that are taken out leave the others ascending
pub ascend-filter : (least : ℕ) (test : StoredRow → Bool) (rows : List StoredRow) → AscendFrom least (dates_of rows) → AscendFrom least (dates_of (filter test rows))
ascend-filter least test [] ascend = tt
ascend-filter least test (row ∷ rows) ascend = kept least row (filter test rows) (test row) ascend.0 (ascend-filter (row.date + 1) test rows ascend.1)

-- where the rows up to a place are not later than the date and the others are, the first later one is there
pub row_after_at : (date : ℕ) (rows : List StoredRow) (at : ℕ)
    → AllWithin (λ row. leb row.date date ≡ true) rows 0 at → AllWithin (λ row. leb row.date date ≡ false) rows at (length rows)
    → slice_get rows at ≡ row_after date rows
row_after_at date [] at before behind = refl
row_after_at date (row ∷ rows) zero before behind =
    let later : date < row.date = leb-false row.date date (behind 0 row (omega arith) (omega arith)) in
    ap (λ b. cond b (Some row) (row_after date rows)) (sym (lt-ltb date row.date later))
row_after_at date (row ∷ rows) (suc at) before behind =
    let no_later : row.date ≤ date = leb-true row.date date (before 0 row (omega arith) (omega arith)) in
    row_after_at date rows at (λ k d low high. before (suc k) d (omega arith) (omega arith)) (λ k d low high. behind (suc k) d (omega arith) (omega arith))
    ∙ ap (λ b. cond b (Some row) (row_after date rows)) (sym (le-ltb date row.date no_later))

differs : (dates : List ℕ) (date at k : ℕ) → k < length dates → ((j : ℕ) → j < at → get_or dates j 0 < date)
    → ((j : ℕ) → at ≤ j → j < length dates → date < get_or dates j 0) → eqb (get_or dates k 0) date ≡ false
differs dates date at k within before behind = ne_eqb (get_or dates k 0) date
    (λ same. elim (cases_lt k at) [ inl low ↦ absurd (omega (arith, before k low, same)) | inr high ↦ absurd (omega (arith, behind k high within, same)) ])

-- halving finds a date among some that ascend exactly where it is one of them
pub found_among : (dates : List ℕ) (date : ℕ) (answer : Result ℕ ℕ) → AscendFrom 0 dates → IsBinarySearchResult (λ one. nat_cmp one date) dates answer
    → is_ok answer ≡ is_date_in dates date
found_among dates date (Ok at) ascend position =
    let found = searched dates date (Ok at) position (λ i j. never_fall 0 dates ascend i j 0) in
    sym (list_any_at (λ one. eqb one date) dates at 0 found.0 (eq-eqb (get_or dates at 0) date found.1))
found_among dates date (Err at) ascend position =
    let found = searched dates date (Err at) position (λ i j. never_fall 0 dates ascend i j 0) in
    sym (list_any_none (λ one. eqb one date) dates (All-from_get_or (λ one. eqb one date ≡ false) dates 0 (λ k within. differs dates date at k within found.1 found.2)))

-- what `get` of a slice lends, as the look-up in the list
pub item_at : (rows : List StoredRow) (at : ℕ) (found : Option (Bor StoredRow)) → MatchOption found (length rows ≤ at) (λ row. (at < length rows) × HoldsAt (λ other. row.now ≡ other) rows at)
    → option_map (λ row. row.now) found ≡ slice_get rows at
item_at rows at None past = sym (slice_get_past rows at past)
item_at rows at (Some row) here = sym (slice_get_read rows (length rows) at row.now refl here.0 (here.1 row.now))

-- ---- the row of a date

unfound : (date : ℕ) (rows : List StoredRow) → ((k : ℕ) (d : StoredRow) → k < length rows → eqb (get_or rows k d).date date ≡ false) → row_at date rows ≡ None
unfound date [] other = refl
unfound date (row ∷ rows) other =
    ap (λ b. cond b (Some row) (row_at date rows)) (other 0 row (omega arith)) ∙ unfound date rows (λ k d within. other (suc k) d (omega arith))

-- where the rows before a place are earlier than the date, the row there is found if it has the date
pub row_at_there : (date : ℕ) (rows : List StoredRow) (at : ℕ) (row : StoredRow) → AllWithin (λ other. ltb other.date date ≡ true) rows 0 at
    → slice_get rows at ≡ Some row → row.date ≡ date → Some row ≡ row_at date rows
row_at_there date [] at row before there its = absurd (cc)
row_at_there date (first ∷ rows) zero row before there its =
    let same : first ≡ row = cc in
    let is : eqb first.date date ≡ true = eq-eqb first.date date (ap (λ (r : StoredRow). r.date) same ∙ its) in
    sym there ∙ ap (λ b. cond b (Some first) (row_at date rows)) (sym is)
row_at_there date (first ∷ rows) (suc at) row before there its =
    let earlier : first.date < date = ltb-true first.date date (before 0 first (omega arith) (omega arith)) in
    let no : eqb first.date date ≡ false = ne_eqb first.date date (λ same. absurd (omega arith)) in
    row_at_there date rows at row (λ k d low high. before (suc k) d (omega arith) (omega arith)) there its
    ∙ ap (λ b. cond b (Some first) (row_at date rows)) (sym no)

-- and else none is
pub row_at_none : (date : ℕ) (rows : List StoredRow) (at : ℕ) → AscendFrom 1 (dates_of rows)
    → AllWithin (λ other. ltb other.date date ≡ true) rows 0 at → AllWithin (λ other. ltb other.date date ≡ false) rows at (length rows)
    → ((d : StoredRow) → at < length rows → ¬ ((get_or rows at d).date ≡ date)) → row_at date rows ≡ None
row_at_none date rows at ascend before behind other = unfound date rows (λ k d within. ne_eqb (get_or rows k d).date date (λ same.
    elim (cases_order k at) [
      | inl here ↦ other d (subst (λ (n : ℕ). n < length rows) here within) (subst (λ (n : ℕ). (get_or rows n d).date ≡ date) here same)
      | inr apart ↦ elim apart [
        | inl low ↦ absurd (omega (arith, ltb-true (get_or rows k d).date date (before k d (omega arith) low), same))
        | inr high ↦ absurd (omega (arith, ltb-false (get_or rows at d).date date (behind at d (omega arith) (omega arith)), rows_ascend 1 rows ascend at k d high within, same))
      ]
    ]))
