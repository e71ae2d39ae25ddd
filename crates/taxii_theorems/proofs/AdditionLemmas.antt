-- An addition has one outcome for each object and one list of new rows, and it uses up the dates or it doesn't.
use Rattle.std.proofs.Common.{◌≡◌, ℕ, ◌+◌, ℤ, pos, List, [], ◌∷◌, ◌++◌, length, suc, Bool, true, false, cond, Option, Some, None, MatchOption, refl, sym, ap, subst, ◌∙◌, arith}
use Rattle.std.specs.Prelude.{◌&&◌, is_some, unwrap_or, bytes_eq}
use Rattle.std.specs.Ordering.{int_eq}
use Rattle.std.specs.List.{AllZip}
use Rattle.taxii_rows.specs.declared.stored_row.StoredRow.{StoredRow}
use Rattle.taxii_rows.specs.declared.described.Described.{Described}
use Rattle.taxii_rows.specs.Described.{stored_row_of}
use Rattle.taxii_rows.specs.StoreState.{StoreState}
use Rattle.taxii_index.specs.Presence.{agrees, is_duplicate, duplicate_of}
use Rattle.taxii_store.specs.declared.add_outcome.AddOutcome.{AddOutcome}
use Rattle.taxii_store.specs.declared.add_outcome.AddOutcome.TheVariants.{Added, Present}
use Rattle.taxii_store.specs.Addition.{AddsObjects, IsAddition, UsesUpDates, first_date}

-- ---- rows that differ in their dates alone

-- both make the same objects present
abbrev Alike : StoredRow → StoredRow → Type 0
Alike a b = (collection : ℕ) (object : Described) → is_duplicate collection object a ≡ is_duplicate collection object b

both_and : (a b c d : Bool) → a ≡ b → c ≡ d → (a && c) ≡ (b && d)
both_and a b c d first second = ap (λ (x : Bool). x && c) first ∙ ap (λ (y : Bool). b && y) second

-- where a version is told it is the row's, whatever its date
told_alike : (told version : Option ℤ) (body other : List ℕ) (first second : StoredRow) → first.body ≡ second.body → first.dated ≡ is_some told → second.dated ≡ is_some told
    → first.version ≡ unwrap_or told first.version → second.version ≡ unwrap_or told second.version → agrees version other first ≡ agrees version other second
told_alike told None body other first second same dated dated_too its also = ap (λ (b : List ℕ). bytes_eq b other) same
told_alike (Some t) (Some version) body other first second same dated dated_too its also =
    both_and first.dated second.dated (int_eq first.version version) (int_eq second.version version) (dated ∙ sym dated_too)
    (ap (λ (v : ℤ). int_eq v version) (its ∙ sym also))
told_alike None (Some version) body other first second same dated dated_too its also =
    ap (λ (b : Bool). b && int_eq first.version version) dated ∙ sym (ap (λ (b : Bool). b && int_eq second.version version) dated_too)

unwrapped : (told : Option ℤ) (date : ℕ) → unwrap_or told (pos date) ≡ unwrap_or told (unwrap_or told (pos date))
unwrapped None date = refl
unwrapped (Some t) date = refl

-- one object makes such rows, whenever it is added
row_alike : (object : Described) (collection first second : ℕ) → Alike (stored_row_of object first collection) (stored_row_of object second collection)
row_alike object collection first second its other =
    both_and _ _ _ _ refl
    (told_alike object.version other.version object.body other.body (stored_row_of object first collection) (stored_row_of object second collection) refl refl refl
    (unwrapped object.version first) (unwrapped object.version second))

rows_alike : (rows : List StoredRow) → AllZip Alike rows rows
rows_alike [] = tt
rows_alike (row ∷ rows) = (λ collection object. refl, rows_alike rows)

alike_push : (rows others : List StoredRow) (row other : StoredRow) → AllZip Alike rows others → Alike row other → AllZip Alike (rows ++ row ∷ []) (others ++ other ∷ [])
alike_push [] [] row other same last = (last, tt)
alike_push [] (o ∷ os) row other same last = absurd same
alike_push (r ∷ rs) [] row other same last = absurd same
alike_push (r ∷ rs) (o ∷ os) row other same last = (same.0, alike_push rs os row other same.1 last)

-- ---- as many new rows

-- an object is found among both, or among neither
abbrev FoundAlike : Option StoredRow → Option StoredRow → Type 0
FoundAlike None None = Unit {0}
FoundAlike None (Some b) = ⊥
FoundAlike (Some a) None = ⊥
FoundAlike (Some a) (Some b) = Unit {0}

find_alike : (collection : ℕ) (object : Described) (rows others : List StoredRow) → AllZip Alike rows others
    → FoundAlike (duplicate_of collection object rows) (duplicate_of collection object others)
find_alike collection object [] [] same = tt
find_alike collection object [] (o ∷ os) same = absurd same
find_alike collection object (r ∷ rs) [] same = absurd same
find_alike collection object (r ∷ rs) (o ∷ os) same =
    go (is_duplicate collection object r) (is_duplicate collection object o) (same.0 collection object) (find_alike collection object rs os same.1)
  where
    go : (here there : Bool) → here ≡ there → FoundAlike (duplicate_of collection object rs) (duplicate_of collection object os)
        → FoundAlike (cond here (Some r) (duplicate_of collection object rs)) (cond there (Some o) (duplicate_of collection object os))
    go true true is rest = tt
    go true false is rest = absurd (cc is)
    go false true is rest = absurd (cc is)
    go false false is rest = rest

-- so many rows are new, wherever dates begin
long_alike : (collection first second : ℕ) (rows others : List StoredRow) (objects : List Described) (outcomes outcomes_too : List AddOutcome) (new new_too : List StoredRow)
    → AllZip Alike rows others → AddsObjects collection first rows objects outcomes new → AddsObjects collection second others objects outcomes_too new_too → length new ≡ length new_too
long_alike collection first second rows others [] outcomes outcomes_too new new_too same its also = ap length (its.1 ∙ sym also.1)
long_alike collection first second rows others (object ∷ objects) outcomes outcomes_too new new_too same its also =
    go (duplicate_of collection object rows) (duplicate_of collection object others) (find_alike collection object rows others same) its also
    (λ rest rest_too adds adds_too. long_alike collection first second rows others objects rest rest_too new new_too same adds adds_too)
    (λ rest rest_too more more_too adds adds_too.
    long_alike collection (first + 1) (second + 1) (rows ++ stored_row_of object first collection ∷ []) (others ++ stored_row_of object second collection ∷ []) objects rest rest_too more more_too
    (alike_push rows others (stored_row_of object first collection) (stored_row_of object second collection) same (row_alike object collection first second)) adds adds_too)
  where
    go : (here there : Option StoredRow) → FoundAlike here there
        → MatchOption here
        ((rest : List AddOutcome) × (more : List StoredRow)
        × (outcomes ≡ Added first ∷ rest) × (new ≡ stored_row_of object first collection ∷ more) × AddsObjects collection (first + 1) (rows ++ stored_row_of object first collection ∷ []) objects rest more)
        (λ held. (rest : List AddOutcome) × (outcomes ≡ Present held.date ∷ rest) × AddsObjects collection first rows objects rest new)
        → MatchOption there
        ((rest : List AddOutcome) × (more : List StoredRow)
        × (outcomes_too ≡ Added second ∷ rest) × (new_too ≡ stored_row_of object second collection ∷ more) × AddsObjects collection (second + 1) (others ++ stored_row_of object second collection ∷ []) objects rest more)
        (λ held. (rest : List AddOutcome) × (outcomes_too ≡ Present held.date ∷ rest) × AddsObjects collection second others objects rest new_too)
        → ((rest rest_too : List AddOutcome) → AddsObjects collection first rows objects rest new → AddsObjects collection second others objects rest_too new_too → length new ≡ length new_too)
        → ((rest rest_too : List AddOutcome) (more more_too : List StoredRow)
        → AddsObjects collection (first + 1) (rows ++ stored_row_of object first collection ∷ []) objects rest more
        → AddsObjects collection (second + 1) (others ++ stored_row_of object second collection ∷ []) objects rest_too more_too → length more ≡ length more_too)
        → length new ≡ length new_too
    go None None found (rest, more, out, is, adds) (rest_too, more_too, out_too, is_too, adds_too) again behind =
        ap length is ∙ ap suc (behind rest rest_too more more_too adds adds_too) ∙ sym (ap length is_too)
    go None (Some b) found its also again behind = absurd found
    go (Some a) None found its also again behind = absurd found
    go (Some a) (Some b) found (rest, out, adds) (rest_too, out_too, adds_too) again behind = again rest rest_too adds adds_too

-- ---- the same new rows

abbrev SameAdds : List AddOutcome → List AddOutcome → List StoredRow → List StoredRow → Type 0
SameAdds outcomes outcomes_too new new_too = (outcomes ≡ outcomes_too) × (new ≡ new_too)

one_adds : (collection date : ℕ) (rows : List StoredRow) (objects : List Described) (outcomes outcomes_too : List AddOutcome) (new new_too : List StoredRow)
    → AddsObjects collection date rows objects outcomes new → AddsObjects collection date rows objects outcomes_too new_too → SameAdds outcomes outcomes_too new new_too
one_adds collection date rows [] outcomes outcomes_too new new_too its also = (its.0 ∙ sym also.0, its.1 ∙ sym also.1)
one_adds collection date rows (object ∷ objects) outcomes outcomes_too new new_too its also =
    go (duplicate_of collection object rows) its also
    (λ rest rest_too adds adds_too. one_adds collection date rows objects rest rest_too new new_too adds adds_too)
    (λ rest rest_too more more_too adds adds_too. one_adds collection (date + 1) (rows ++ row ∷ []) objects rest rest_too more more_too adds adds_too)
  where
    row : StoredRow
    row = stored_row_of object date collection

    go : (found : Option StoredRow)
        → MatchOption found
        ((rest : List AddOutcome) × (more : List StoredRow) × (outcomes ≡ Added date ∷ rest) × (new ≡ row ∷ more) × AddsObjects collection (date + 1) (rows ++ row ∷ []) objects rest more)
        (λ held. (rest : List AddOutcome) × (outcomes ≡ Present held.date ∷ rest) × AddsObjects collection date rows objects rest new)
        → MatchOption found
        ((rest : List AddOutcome) × (more : List StoredRow) × (outcomes_too ≡ Added date ∷ rest) × (new_too ≡ row ∷ more) × AddsObjects collection (date + 1) (rows ++ row ∷ []) objects rest more)
        (λ held. (rest : List AddOutcome) × (outcomes_too ≡ Present held.date ∷ rest) × AddsObjects collection date rows objects rest new_too)
        → ((rest rest_too : List AddOutcome) → AddsObjects collection date rows objects rest new → AddsObjects collection date rows objects rest_too new_too → SameAdds rest rest_too new new_too)
        → ((rest rest_too : List AddOutcome) (more more_too : List StoredRow) → AddsObjects collection (date + 1) (rows ++ row ∷ []) objects rest more
        → AddsObjects collection (date + 1) (rows ++ row ∷ []) objects rest_too more_too → SameAdds rest rest_too more more_too)
        → SameAdds outcomes outcomes_too new new_too
    go None (rest, more, out, is, adds) (rest_too, more_too, out_too, is_too, adds_too) again behind =
        let its = behind rest rest_too more more_too adds adds_too in
        (out ∙ ap (λ (xs : List AddOutcome). Added date ∷ xs) its.0 ∙ sym out_too, is ∙ ap (λ (xs : List StoredRow). row ∷ xs) its.1 ∙ sym is_too)
    go (Some held) (rest, out, adds) (rest_too, out_too, adds_too) again behind =
        let its = again rest rest_too adds adds_too in
        (out ∙ ap (λ (xs : List AddOutcome). Present held.date ∷ xs) its.0 ∙ sym out_too, its.1)

pub one_addition : (state : StoreState) (collection moment : ℕ) (objects : List Described) (outcomes outcomes_too : List AddOutcome) (new new_too : List StoredRow)
    → IsAddition state collection moment objects outcomes new → IsAddition state collection moment objects outcomes_too new_too → SameAdds outcomes outcomes_too new new_too
one_addition state collection moment objects outcomes outcomes_too new new_too its also =
    let long : length new ≡ length new_too = long_alike collection _ _ state.rows state.rows objects outcomes outcomes_too new new_too (rows_alike state.rows) its.adds also.adds in
    one_adds collection (first_date state.watermark moment (length new_too)) state.rows objects outcomes outcomes_too new new_too
    (subst (λ (n : ℕ). AddsObjects collection (first_date state.watermark moment n) state.rows objects outcomes new) long its.adds) also.adds

-- dates are left for it, or they aren't
pub dates_left : (state : StoreState) (collection moment : ℕ) (objects : List Described) (outcomes : List AddOutcome) (new : List StoredRow)
    → IsAddition state collection moment objects outcomes new → UsesUpDates state collection objects → ⊥
dates_left state collection moment objects outcomes new its lacks =
    let long : length new ≡ length lacks.new = long_alike collection _ _ state.rows state.rows objects outcomes lacks.outcomes new lacks.new (rows_alike state.rows) its.adds lacks.adds in
    omega (arith, long, its.room, lacks.lacks)
