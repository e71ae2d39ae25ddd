-- Rows by date: the one of a date, and the first of some that pass a test.
use Rattle.std.proofs.Common.{◌≡◌, ℕ, ◌+◌, ◌≤◌, List, [], ◌∷◌, Bool, true, false, Option, Some, None, inl, inr, refl, sym, ap, ◌∙◌, arith, find, eqb, option_map, unwrap_or}
use Rattle.std.specs.List.{Contains}
use Rattle.std.proofs.lemmas.Bool.{cases_Bool, cond-true, cond-false, both_ways, false≢true, eq-eqb, eqb-true}
use Rattle.taxii_rows.specs.declared.stored_row.StoredRow.{StoredRow}
use Rattle.taxii_rows.specs.StoreState.{dates_of, AscendFrom}
use Rattle.taxii_rows.specs.Keeper.{row_at}
use Rattle.taxii_index.specs.Index.{has_row}
use Rattle.taxii_index.proofs.ListLemmas.{nothing, first, later, cons_cases, same_element}

pub none_is_some : {X : Type 0} (x : X) → None ≡ Some x → ⊥
none_is_some x is = cc

pub some_same : {X : Type 0} (x y : X) → Some x ≡ Some y → x ≡ y
some_same x y is = cc

-- ---- what is found passes, and where nothing is found nothing does

pub find_passes : {X : Type 0} (test : X → Bool) (xs : List X) (x : X) → find test xs ≡ Some x → Contains xs x × (test x ≡ true)
find_passes test [] x found = absurd (none_is_some x found)
find_passes test (y ∷ ys) x found = elim (cases_Bool (test y)) [
  | inl holds ↦ let same : y ≡ x = some_same y x (sym (cond-true (test y) (Some y) (find test ys) holds) ∙ found) in
      (same_element y x (y ∷ ys) same (first y ys), ap test (sym same) ∙ holds)
  | inr fails ↦ let rest = find_passes test ys x (sym (cond-false (test y) (Some y) (find test ys) fails) ∙ found) in (later y x ys rest.0, rest.1)
]

pub find_nothing : {X : Type 0} (test : X → Bool) (xs : List X) (x : X) → find test xs ≡ None → Contains xs x → test x ≡ false
find_nothing test [] x found here = absurd (nothing x here)
find_nothing test (y ∷ ys) x found here = elim (cases_Bool (test y)) [
  | inl holds ↦ absurd (none_is_some y (sym found ∙ cond-true (test y) (Some y) (find test ys) holds))
  | inr fails ↦ elim (cons_cases y x ys here) [
    | inl same ↦ ap test (sym same) ∙ fails
    | inr rest ↦ find_nothing test ys x (sym (cond-false (test y) (Some y) (find test ys) fails) ∙ found) rest
  ]
]

pub find_none : {X : Type 0} (test : X → Bool) (xs : List X) → ((x : X) → Contains xs x → test x ≡ false) → find test xs ≡ None
find_none test [] fail = refl
find_none test (y ∷ ys) fail =
    cond-false (test y) (Some y) (find test ys) (fail y (first y ys)) ∙ find_none test ys (λ x here. fail x (later y x ys here))

-- ---- dates that ascend

pub least_date : (least : ℕ) (dates : List ℕ) (date : ℕ) → AscendFrom least dates → Contains dates date → least ≤ date
least_date least [] date ascend here = absurd (nothing date here)
least_date least (one ∷ dates) date ascend here = elim (cons_cases one date dates here) [
  | inl same ↦ omega (arith, same, ascend.0)
  | inr rest ↦ omega (arith, ascend.0, least_date (one + 1) dates date ascend.1 rest)
]

-- the date that is found is the earliest that passes
pub first_date : (test : ℕ → Bool) (least : ℕ) (dates : List ℕ) (date other : ℕ) → AscendFrom least dates → find test dates ≡ Some date
    → Contains dates other → test other ≡ true → date ≤ other
first_date test least [] date other ascend found here holds = absurd (nothing other here)
first_date test least (one ∷ dates) date other ascend found here holds = elim (cases_Bool (test one)) [
  | inl own ↦ let same : one ≡ date = some_same one date (sym (cond-true (test one) (Some one) (find test dates) own) ∙ found) in
      elim (cons_cases one other dates here) [
        | inl is ↦ omega (arith, same, is)
        | inr rest ↦ omega (arith, same, least_date (one + 1) dates other ascend.1 rest)
      ]
  | inr fails ↦ elim (cons_cases one other dates here) [
    | inl is ↦ absurd (both_ways (test one) fails (ap test is ∙ holds))
    | inr rest ↦ first_date test (one + 1) dates date other ascend.1 (sym (cond-false (test one) (Some one) (find test dates) fails) ∙ found) rest holds
  ]
]

-- ---- rows whose dates ascend

pub least_row : (least : ℕ) (rows : List StoredRow) (row : StoredRow) → AscendFrom least (dates_of rows) → Contains rows row → least ≤ row.date
least_row least [] row ascend here = absurd (nothing row here)
least_row least (one ∷ rows) row ascend here = elim (cons_cases one row rows here) [
  | inl same ↦ omega (arith, ap (λ (r : StoredRow). r.date) same, ascend.0)
  | inr rest ↦ omega (arith, ascend.0, least_row (one.date + 1) rows row ascend.1 rest)
]

-- the row that passes and is the earliest is found
pub first_row : (test : StoredRow → Bool) (least : ℕ) (rows : List StoredRow) (row : StoredRow) → AscendFrom least (dates_of rows) → Contains rows row
    → test row ≡ true → ((other : StoredRow) → Contains rows other → test other ≡ true → row.date ≤ other.date) → find test rows ≡ Some row
first_row test least [] row ascend here holds earliest = absurd (nothing row here)
first_row test least (one ∷ rows) row ascend here holds earliest = elim (cons_cases one row rows here) [
  | inl same ↦ cond-true (test one) (Some one) (find test rows) (ap test same ∙ holds) ∙ ap (λ (r : StoredRow). Some r) same
  | inr rest ↦ elim (cases_Bool (test one)) [
    | inl own ↦ let late : one.date + 1 ≤ row.date = least_row (one.date + 1) rows row ascend.1 rest in
        let early : row.date ≤ one.date = earliest one (first one rows) own in absurd (omega arith)
    | inr fails ↦ cond-false (test one) (Some one) (find test rows) fails
        ∙ first_row test (one.date + 1) rows row ascend.1 rest holds (λ other where_it_is. earliest other (later one other rows where_it_is))
  ]
]

-- a row is the one of its date
pub row_at_its : (least : ℕ) (rows : List StoredRow) (row : StoredRow) → AscendFrom least (dates_of rows) → Contains rows row → row_at row.date rows ≡ Some row
row_at_its least rows row ascend here =
    first_row (λ (r : StoredRow). eqb r.date row.date) least rows row ascend here (eq-eqb row.date row.date refl)
    (λ other where_it_is same. let is : other.date ≡ row.date = eqb-true other.date row.date same in omega arith)

pub row_at_found : (date : ℕ) (rows : List StoredRow) (row : StoredRow) → row_at date rows ≡ Some row → Contains rows row × (row.date ≡ date)
row_at_found date rows row found =
    let passes = find_passes (λ (r : StoredRow). eqb r.date date) rows row found in (passes.0, eqb-true row.date date passes.1)

-- rows of one date are one
pub one_row : (rows : List StoredRow) (row other : StoredRow) → AscendFrom 1 (dates_of rows) → Contains rows row → Contains rows other → row.date ≡ other.date → row ≡ other
one_row rows row other ascend here there same =
    some_same row other (sym (row_at_its 1 rows row ascend here) ∙ ap (λ (date : ℕ). row_at date rows) same ∙ row_at_its 1 rows other ascend there)

-- what is asked of the row of a date
pub has_row_its : (test : StoredRow → Bool) (rows : List StoredRow) (row : StoredRow) → AscendFrom 1 (dates_of rows) → Contains rows row
    → has_row test rows row.date ≡ test row
has_row_its test rows row ascend here = ap (λ (found : Option StoredRow). unwrap_or (option_map test found) false) (row_at_its 1 rows row ascend here)

-- a row of that date that passes
pub record PassesAt (test : StoredRow → Bool) (rows : List StoredRow) (date : ℕ) : Type 0 where
  pub row : StoredRow
  pub found : row_at date rows ≡ Some row
  pub here : Contains rows row
  pub its : row.date ≡ date
  pub holds : test row ≡ true

passes_from : (test : StoredRow → Bool) (rows : List StoredRow) (date : ℕ) (found : Option StoredRow) → row_at date rows ≡ found
    → unwrap_or (option_map test found) false ≡ true → PassesAt test rows date
passes_from test rows date None is holds = absurd (false≢true holds)
passes_from test rows date (Some row) is holds =
    let at = row_at_found date rows row is in record { row = row; found = is; here = at.0; its = at.1; holds = holds }

pub passes_at : (test : StoredRow → Bool) (rows : List StoredRow) (date : ℕ) → has_row test rows date ≡ true → PassesAt test rows date
passes_at test rows date holds = passes_from test rows date (row_at date rows) refl holds
