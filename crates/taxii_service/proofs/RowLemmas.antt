-- The row of a date among some rows.
use Rattle.std.proofs.Common.{◌≡◌, inl, inr, ℕ, ◌≤◌, List, [], ◌∷◌, ◌++◌, All, Bool, true, false, cond, Option, Some, None, IfSome, Result, Ok, Err, IfOk, refl, sym, subst, arith}
use Rattle.std.specs.Prelude.{nat_eq, find}
use Rattle.std.specs.List.{Contains, AllZip}
use Rattle.std.proofs.lemmas.Bool.{eqb-true, eq-eqb}
use Rattle.std.proofs.lemmas.List.Elements.{All-nil, All-cons, All-head, All-tail, All-contains, All-contains_itself, Contains-append_left, Contains-append_right, Contains-append_cases}
use Rattle.taxii_rows.specs.declared.stored_row.StoredRow.{StoredRow}
use Rattle.taxii_rows.specs.StoreState.{AscendFrom}
use Rattle.taxii_rows.specs.Keeper.{row_at}
use Rattle.taxii_store.specs.declared.add_outcome.AddOutcome.{AddOutcome}
use Rattle.taxii_store.specs.Addition.{date_in}
use Rattle.taxii_bodies.specs.declared.details.Detail.{Detail}
use Rattle.taxii_bodies.specs.Details.{IsSuccessOf}
use Rattle.taxii_service.specs.Adding.{IsSuccess}
use Rattle.taxii_service.specs.inner.Preparing.{HasRow}

pub ascend_from_1 : (least : ℕ) (dates : List ℕ) → 1 ≤ least → AscendFrom least dates → AscendFrom 1 dates
ascend_from_1 least [] some ascend = tt
ascend_from_1 least (date ∷ dates) some ascend = (omega (arith, some, ascend.0), ascend.1)

pub ascend_from_0 : (least : ℕ) (dates : List ℕ) → AscendFrom least dates → AscendFrom 0 dates
ascend_from_0 least [] ascend = tt
ascend_from_0 least (date ∷ dates) ascend = (omega arith, ascend.1)

find_is : (test : StoredRow → Bool) (P : StoredRow → Type 0) (rows : List StoredRow) → All P rows → IfSome (find test rows) (λ row. P row × (test row ≡ true))
find_is test P [] all = tt
find_is test P (row ∷ rows) all = go (test row) refl (find_is test P rows (All-tail P row rows all))
  where
    go : (b : Bool) → test row ≡ b → IfSome (find test rows) (λ one. P one × (test one ≡ true)) → IfSome (cond b (Some row) (find test rows)) (λ one. P one × (test one ≡ true))
    go true is rest = (All-head P row rows all, is)
    go false is rest = rest

never_is : (test : StoredRow → Bool) (rows : List StoredRow) → find test rows ≡ None → All (λ row. test row ≡ false) rows
never_is test [] none = All-nil (λ (row : StoredRow). test row ≡ false)
never_is test (row ∷ rows) none = go (test row) refl none (λ behind. never_is test rows behind)
  where
    go : (b : Bool) → test row ≡ b → cond b (Some row) (find test rows) ≡ None → (find test rows ≡ None → All (λ one. test one ≡ false) rows)
        → All (λ one. test one ≡ false) (row ∷ rows)
    go true is found rest = absurd (cc)
    go false is found rest = All-cons (λ one. test one ≡ false) row rows is (rest found)

pub row_found : (date : ℕ) (rows : List StoredRow) (row : StoredRow) → Some row ≡ row_at date rows → Contains rows row × (row.date ≡ date)
row_found date rows row found =
    let there = subst (λ (one : Option StoredRow). IfSome one (λ r. Contains rows r × (nat_eq r.date date ≡ true))) (sym found)
    (find_is (λ r. nat_eq r.date date) (Contains rows) rows (All-contains_itself rows)) in
    (there.0, eqb-true row.date date there.1)

pub row_missing : (date : ℕ) (rows : List StoredRow) (row : StoredRow) → None ≡ row_at date rows → Contains rows row → row.date ≡ date → ⊥
row_missing date rows row none there its =
    let never = All-contains (λ r. nat_eq r.date date ≡ false) rows row (never_is (λ r. nat_eq r.date date) rows (sym none)) there in
    let is = eq-eqb row.date date its in absurd (cc)

-- the row of an outcome isn't among these, so it is among the others
pub among_new : (rows new : List StoredRow) (outcome : AddOutcome) → None ≡ row_at (date_in outcome) rows → HasRow (rows ++ new) outcome → HasRow new outcome
among_new rows new outcome none (row, there, its) = elim (Contains-append_cases rows new row there) [
  | inl held ↦ absurd (row_missing (date_in outcome) rows row none held its)
  | inr behind ↦ (row, behind, its)
]

pub if_ok : {T E : Type 0} (answer : Result T E) (P Q : T → Type 0) → ((value : T) → P value → Q value) → IfOk answer P → IfOk answer Q
if_ok (Ok value) P Q to its = to value its
if_ok (Err refusal) P Q to its = tt

pub success_held : {E : Type 0} (rows new : List StoredRow) (outcome : AddOutcome) (row : StoredRow) (answer : Result Detail E)
    → Some row ≡ row_at (date_in outcome) rows → IfOk answer (IsSuccessOf row) → IfOk answer (IsSuccess (rows ++ new) outcome)
success_held rows new outcome row answer found its =
    let (there, date) = row_found (date_in outcome) rows row found in
    if_ok answer (IsSuccessOf row) (IsSuccess (rows ++ new) outcome) (λ detail success. (row, Contains-append_left rows new row there, date, success)) its

pub success_new : {E : Type 0} (rows new : List StoredRow) (outcome : AddOutcome) (answer : Result Detail E)
    → IfOk answer (IsSuccess new outcome) → IfOk answer (IsSuccess (rows ++ new) outcome)
success_new rows new outcome answer its =
    if_ok answer (IsSuccess new outcome) (IsSuccess (rows ++ new) outcome) (λ detail success. (success.0, Contains-append_right rows new success.0 success.1, success.2, success.3)) its

pub success_row : {E : Type 0} (new : List StoredRow) (outcome : AddOutcome) (row : StoredRow) (answer : Result Detail E)
    → Some row ≡ row_at (date_in outcome) new → IfOk answer (IsSuccessOf row) → IfOk answer (IsSuccess new outcome)
success_row new outcome row answer found its =
    let (there, date) = row_found (date_in outcome) new row found in
    if_ok answer (IsSuccessOf row) (IsSuccess new outcome) (λ detail success. (row, there, date, success)) its

pub zip_more : {A B : Type 0} (R : A → B → Type 0) (xs : List A) (ys : List B) (x : A) (y : B) → AllZip R xs ys → R x y → AllZip R (xs ++ x ∷ []) (ys ++ y ∷ [])
zip_more R [] [] x y zip one = (one, tt)
zip_more R [] (b ∷ ys) x y zip one = absurd zip
zip_more R (a ∷ xs) [] x y zip one = absurd zip
zip_more R (a ∷ xs) (b ∷ ys) x y zip one = (zip.0, zip_more R xs ys x y zip.1 one)
