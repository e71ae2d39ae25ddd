-- What halving finds: where the rows after a date begin.
use Rattle.std.proofs.Common.{◌≡◌, ℕ, zero, suc, ◌+◌, ◌-◌, ◌<◌, ◌≤◌, List, [], ◌∷◌, ◌++◌, length, take, drop, get_or, true, false, leb, All, sym, subst, ◌∙◌, arith, take_all, length-drop, take-append-drop, IfSome, codes, ◌↔◌, drop_of_length-le, append-nil}
use Rattle.std.specs.List.{AllWithin, Contains}
use Rattle.std.specs.List.Sorted.{IsNonDecreasingBy}
use Rattle.std.proofs.lemmas.Bool.{leb-true, leb-false}
use Rattle.std.proofs.lemmas.List.Elements.{All-nil, All-cons, All-weaker, All-contains, All-contains_itself, Contains-append_left, Contains-append_right}
use Rattle.taxii_rows.specs.declared.stored_row.StoredRow.{StoredRow}
use Rattle.taxii_rows.specs.StoreState.{dates_of, AscendFrom}
use Rattle.taxii_routes.specs.declared.query.Query.{Query}
use Rattle.taxii_store.specs.inner.Candidates.{IsAddedAfter, CanMeet, AreCandidateRows, IsCutAt}

pub at_least : (least : ℕ) (rows : List StoredRow) (j : ℕ) (d : StoredRow) → AscendFrom least (dates_of rows) → j < length rows → least ≤ (get_or rows j d).date
at_least least [] j d ascend within = absurd (omega (arith, within))
at_least least (row ∷ rows) zero d ascend within = ascend.0
at_least least (row ∷ rows) (suc j) d ascend within =
    let rest = at_least (row.date + 1) rows j d ascend.1 (omega (arith, within)) in omega (arith, rest, ascend.0)

pub never_fall : (least : ℕ) (rows : List StoredRow) → AscendFrom least (dates_of rows) → IsNonDecreasingBy (λ row. row.date) rows
never_fall least [] ascend i j d before within = absurd (omega (arith, within))
never_fall least (row ∷ rows) ascend zero zero d before within = omega arith
never_fall least (row ∷ rows) ascend zero (suc j) d before within =
    let rest = at_least (row.date + 1) rows j d ascend.1 (omega (arith, within)) in omega (arith, rest)
never_fall least (row ∷ rows) ascend (suc i) zero d before within = absurd (omega (arith, before))
never_fall least (row ∷ rows) ascend (suc i) (suc j) d before within = never_fall (row.date + 1) rows ascend.1 i j d (omega (arith, before)) (omega (arith, within))

upto : (date : ℕ) (rows : List StoredRow) (at : ℕ) → AllWithin (λ row. leb row.date date ≡ true) rows 0 at → All (λ row. row.date ≤ date) (take at rows)
upto date [] zero before = All-nil (λ row. row.date ≤ date)
upto date [] (suc at) before = All-nil (λ row. row.date ≤ date)
upto date (row ∷ rows) zero before = All-nil (λ row. row.date ≤ date)
upto date (row ∷ rows) (suc at) before = All-cons (λ row. row.date ≤ date) row (take at rows)
    (leb-true row.date date (before 0 row (omega arith) (omega arith)))
    (upto date rows at (λ k d low high. before (suc k) d (omega arith) (omega (arith, high))))

later : (date : ℕ) (rows : List StoredRow) (at : ℕ) → AllWithin (λ row. leb row.date date ≡ false) rows at (length rows) → All (λ row. date < row.date) (drop at rows)
later date [] zero behind = All-nil (λ row. date < row.date)
later date [] (suc at) behind = All-nil (λ row. date < row.date)
later date (row ∷ rows) zero behind = All-cons (λ row. date < row.date) row rows
    (leb-false row.date date (behind 0 row (omega arith) (omega arith)))
    (later date rows zero (λ k d low high. behind (suc k) d (omega arith) (omega (arith, high))))
later date (row ∷ rows) (suc at) behind = later date rows at (λ k d low high. behind (suc k) d (omega (arith, low)) (omega (arith, high)))

-- the slice from a place on
pub rest_from : (rows : List StoredRow) (at : ℕ) → take (length rows - at) (drop at rows) ≡ drop at rows
rest_from rows at = let long = length-drop at rows in take_all (length rows - at) (drop at rows) (omega (arith, long))

pub cut_at : (date : ℕ) (rows : List StoredRow) (at : ℕ) → AllWithin (λ row. leb row.date date ≡ true) rows 0 at
    → AllWithin (λ row. leb row.date date ≡ false) rows at (length rows) → IsCutAt date rows (take (length rows - at) (drop at rows))
cut_at date rows at before behind = subst (IsCutAt date rows) (sym (rest_from rows at)) (record {
  upto = take at rows;
  all = sym (take-append-drop at rows);
  before = upto date rows at before;
  each = later date rows at behind;
})

-- ---- where a page may begin

positive : (rows : List StoredRow) → AscendFrom 1 (dates_of rows) → All (λ row. 0 < row.date) rows
positive rows ascend k d within = let least = at_least 1 rows k d ascend within in omega (arith, least)

all_of : (P : StoredRow → Type 0) (rows : List StoredRow) → ((row : StoredRow) → Contains rows row → P row) → All P rows
all_of P rows each = All-weaker (Contains rows) P each rows (All-contains_itself rows)

-- what the date after which the rows of a query were added tells
abbrev Begins : Query → ℕ → Type 0
Begins query after = (date : ℕ) → 0 < date → (after < date) ↔ IsAddedAfter query date

pub candidates_behind : (query : Query) (rows candidates : List StoredRow) (after : ℕ) → AscendFrom 1 (dates_of rows) → IsCutAt after rows candidates
    → Begins query after → IfSome query.specs (λ specs. Contains specs (codes "2.1")) → AreCandidateRows query rows candidates
candidates_behind query rows candidates after ascend cut begins version = record {
  passed = cut.upto;
  all = cut.all;
  before = all_of (λ row. ¬ CanMeet query row) cut.upto never;
  each = all_of (CanMeet query) candidates can;
}
  where
    dated : (row : StoredRow) → Contains (cut.upto ++ candidates) row → 0 < row.date
    dated row here = All-contains (λ (row : StoredRow). 0 < row.date) rows row (positive rows ascend) (subst (λ (rs : List StoredRow). Contains rs row) (sym cut.all) here)

    never : (row : StoredRow) → Contains cut.upto row → ¬ CanMeet query row
    never row here can =
        let low = All-contains (λ (row : StoredRow). row.date ≤ after) cut.upto row cut.before here in
        let high = (begins row.date (dated row (Contains-append_left cut.upto candidates row here))).1 can.behind in
        omega (arith, low, high)

    can : (row : StoredRow) → Contains candidates row → CanMeet query row
    can row here =
        let past = All-contains (λ (row : StoredRow). after < row.date) candidates row cut.each here in record {
          behind = (begins row.date (dated row (Contains-append_right cut.upto candidates row here))).0 past;
          specs = version;
        }

pub none_of_another : (query : Query) (rows slice : List StoredRow) → slice ≡ rows → ¬ IfSome query.specs (λ specs. Contains specs (codes "2.1"))
    → AreCandidateRows query rows (take (length slice - length slice) (drop (length slice) slice))
none_of_another query rows slice same never =
    let nothing = rest_from slice (length slice) ∙ drop_of_length-le slice {i = length slice} (omega arith) in
    subst (AreCandidateRows query rows) (sym nothing) (record {
      passed = rows;
      all = sym (append-nil rows);
      before = all_of (λ row. ¬ CanMeet query row) rows (λ row here can. never can.specs);
      each = All-nil (CanMeet query);
    })
