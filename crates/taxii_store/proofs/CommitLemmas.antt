-- A sound plan may be added to the sound store that it was made for.
use Rattle.std.proofs.Common.{◌≡◌, ℕ, ◌+◌, ◌-◌, ◌≤◌, List, [], ◌∷◌, ◌++◌, length, take, drop, filter, not, All, Option, Some, None, IfSome, refl, sym, ap, subst, ◌∙◌, arith}
use Rattle.std.proofs.lemmas.List.{length-append, take-append-le, take_all}
use Rattle.std.proofs.Math.Seq.{drop-append_seam}
use Rattle.std.proofs.lemmas.List.Elements.{All-nil, All-cons}
use Rattle.taxii_rows.specs.declared.stored_row.StoredRow.{StoredRow}
use Rattle.taxii_rows.specs.declared.stored_row.TheConstants.{LAST_DATE}
use Rattle.taxii_rows.specs.SoundRow.{IsSoundRow, IsSoundState}
use Rattle.taxii_rows.specs.StoreState.{StoreState, dates_of, AscendFrom}
use Rattle.taxii_rows.specs.Keeper.{CanAppend, with_rows, is_date_in}
use Rattle.taxii_store.specs.Addition.{watermark_after}
use Rattle.taxii_store.specs.Planned.{PlannedState, IsSoundPlan}

pub watermark_not_before : (watermark : ℕ) (rows : List StoredRow) → AscendFrom (watermark + 1) (dates_of rows) → watermark ≤ watermark_after watermark rows
watermark_not_before watermark [] ascend = omega arith
watermark_not_before watermark (row ∷ rows) ascend =
    let rest = watermark_not_before row.date rows ascend.1 in omega (arith, rest, ascend.0)

pub marked_all : (watermark least : ℕ) (rows : List StoredRow) → AscendFrom least (dates_of rows) → All (λ row. row.date ≤ watermark_after watermark rows) rows
marked_all watermark least [] ascend = All-nil (λ (row : StoredRow). row.date ≤ watermark)
marked_all watermark least (row ∷ rows) ascend =
    All-cons (λ one. one.date ≤ watermark_after row.date rows) row rows (watermark_not_before row.date rows ascend.1) (marked_all row.date (row.date + 1) rows ascend.1)

abbrev pub LaterLaw : Type 0
LaterLaw = (state : StoreState) (rows : List StoredRow) (watermark : ℕ) → IsSoundState state
    → AscendFrom (state.watermark + 1) (dates_of rows) → All (λ row. row.date ≤ watermark) rows → CanAppend rows watermark state

abbrev pub AddedLaw : Type 0
AddedLaw = (state : StoreState) (rows : List StoredRow) (watermark : ℕ) → IsSoundState state → CanAppend rows watermark state
    → All IsSoundRow rows → state.watermark ≤ watermark → watermark ≤ LAST_DATE → IsSoundState (with_rows rows watermark state)

pub can_commit : LaterLaw → (state : StoreState) (planned : PlannedState) → IsSoundState state → IsSoundPlan planned → planned.watermark ≡ state.watermark
    → CanAppend planned.rows (watermark_after planned.watermark planned.rows) state
can_commit later state planned sound plan same =
    later state planned.rows (watermark_after planned.watermark planned.rows) sound
    (subst (λ (watermark : ℕ). AscendFrom (watermark + 1) (dates_of planned.rows)) same plan.ascend)
    (marked_all planned.watermark (planned.watermark + 1) planned.rows plan.ascend)

pub sound_committed : LaterLaw → AddedLaw → (state : StoreState) (planned : PlannedState) → IsSoundState state → IsSoundPlan planned → planned.watermark ≡ state.watermark
    → IsSoundState (with_rows planned.rows (watermark_after planned.watermark planned.rows) state)
sound_committed later added state planned sound plan same =
    let before = watermark_not_before planned.watermark planned.rows plan.ascend in
    added state planned.rows (watermark_after planned.watermark planned.rows) sound (can_commit later state planned sound plan same) plan.rows (omega (arith, before, same)) plan.last

-- what stands after the first rows
pub rows_after : (rows more first all : List StoredRow) → first ≡ rows → all ≡ rows ++ more → take (length all - length first) (drop (length first) all) ≡ more
rows_after rows more first all first_is all_is =
    let same = ap length first_is in
    let count = ap length all_is ∙ length-append rows more in
    let behind : drop (length first) all ≡ more =
    ap (λ (n : ℕ). drop n all) same ∙ ap (drop (length rows)) all_is ∙ drop-append_seam rows more in
    ap (take (length all - length first)) behind ∙ take_all (length all - length first) more (omega (arith, same, count))

pub first_within : (rows more first all : List StoredRow) → first ≡ rows → all ≡ rows ++ more → length first ≤ length all
first_within rows more first all first_is all_is =
    let same = ap length first_is in
    let count = ap length all_is ∙ length-append rows more in
    omega (arith, same, count)

-- the first rows alone
pub rows_before : (rows more first all left : List StoredRow) → first ≡ rows → all ≡ rows ++ more → left ≡ take (length first) all → left ≡ rows
rows_before rows more first all left first_is all_is left_is =
    left_is ∙ ap (λ (n : ℕ). take n all) (ap length first_is) ∙ ap (take (length rows)) all_is
    ∙ take-append-le (length rows) rows more (omega arith) ∙ take_all (length rows) rows (omega arith)

pub if_same : (observable : Option StoreState) (P : StoreState → Type 0) (state : StoreState) → IfSome observable (λ kept. kept ≡ state) → P state → IfSome observable P
if_same (Some kept) P state same it = subst P (sym same) it
if_same None P state same it = tt

-- no date takes no row away
pub none_taken : (rows : List StoredRow) (dates : List ℕ) → dates ≡ [] → rows ≡ filter (λ row. not (is_date_in dates row.date)) rows
none_taken rows (date ∷ dates) none = absurd (cc)
none_taken [] [] none = refl
none_taken (row ∷ rows) [] none = ap (λ (rs : List StoredRow). row ∷ rs) (none_taken rows [] refl)
