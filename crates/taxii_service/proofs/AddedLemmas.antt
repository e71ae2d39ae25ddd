-- A request to add objects makes an addition of a store: its rows count up from past the watermark, and the last of them is the watermark.
use Rattle.std.proofs.Common.{◌≡◌, ℕ, ◌+◌, ◌≤◌, List, [], ◌∷◌, ◌++◌, length, All, Option, Some, None, MatchOption, refl, sym, subst, arith}
use Rattle.std.proofs.lemmas.List.Elements.{All-nil, All-cons}
use Rattle.taxii_rows.specs.declared.stored_row.StoredRow.{StoredRow}
use Rattle.taxii_rows.specs.declared.described.Described.{Described}
use Rattle.taxii_rows.specs.Described.{stored_row_of}
use Rattle.taxii_rows.specs.StoreState.{StoreState, dates_of, AscendFrom}
use Rattle.taxii_rows.specs.Keeper.{with_rows}
use Rattle.taxii_index.specs.Presence.{duplicate_of}
use Rattle.taxii_store.specs.declared.add_outcome.AddOutcome.{AddOutcome}
use Rattle.taxii_store.specs.declared.add_outcome.AddOutcome.TheVariants.{Added, Present}
use Rattle.taxii_store.specs.Addition.{AddsObjects, IsAddition, first_date, watermark_after}
use Rattle.taxii_store.specs.History.{IsStoreAddition as IsAdditionTo}
use Rattle.taxii_service.proofs.DatedLemmas.{ascend_from_earlier}

-- the new rows ascend from the date of the first
adds_ascend : (collection date : ℕ) (rows : List StoredRow) (objects : List Described) (outcomes : List AddOutcome) (new : List StoredRow)
    → AddsObjects collection date rows objects outcomes new → AscendFrom date (dates_of new)
adds_ascend collection date rows [] outcomes new adds = subst (λ (its : List StoredRow). AscendFrom date (dates_of its)) (sym adds.1) tt
adds_ascend collection date rows (object ∷ objects) outcomes new adds = next (duplicate_of collection object rows) adds
    (λ others. adds_ascend collection date rows objects others new)
    (λ others more. adds_ascend collection (date + 1) (rows ++ row ∷ []) objects others more)
  where
    row : StoredRow
    row = stored_row_of object date collection

    next : (found : Option StoredRow)
        → MatchOption found
        ((others : List AddOutcome) × (more : List StoredRow)
        × (outcomes ≡ Added date ∷ others) × (new ≡ row ∷ more) × AddsObjects collection (date + 1) (rows ++ row ∷ []) objects others more)
        (λ held. (others : List AddOutcome) × (outcomes ≡ Present held.date ∷ others) × AddsObjects collection date rows objects others new)
        → ((others : List AddOutcome) → AddsObjects collection date rows objects others new → AscendFrom date (dates_of new))
        → ((others : List AddOutcome) (more : List StoredRow) → AddsObjects collection (date + 1) (rows ++ row ∷ []) objects others more → AscendFrom (date + 1) (dates_of more))
        → AscendFrom date (dates_of new)
    next (Some held) (others, out_is, it) again behind = again others it
    next None (others, more, out_is, new_is, it) again behind =
        subst (λ (its : List StoredRow). AscendFrom date (dates_of its)) (sym new_is) (omega arith, behind others more it)

-- the watermark doesn't fall, and no new row is later
watermark_not_before : (watermark : ℕ) (rows : List StoredRow) → AscendFrom (watermark + 1) (dates_of rows) → watermark ≤ watermark_after watermark rows
watermark_not_before watermark [] ascend = omega arith
watermark_not_before watermark (row ∷ rows) ascend =
    let rest = watermark_not_before row.date rows ascend.1 in omega (arith, rest, ascend.0)

marked_all : (watermark least : ℕ) (rows : List StoredRow) → AscendFrom least (dates_of rows) → All (λ row. row.date ≤ watermark_after watermark rows) rows
marked_all watermark least [] ascend = All-nil (λ (row : StoredRow). row.date ≤ watermark)
marked_all watermark least (row ∷ rows) ascend =
    All-cons (λ one. one.date ≤ watermark_after row.date rows) row rows (watermark_not_before row.date rows ascend.1) (marked_all row.date (row.date + 1) rows ascend.1)

pub added : (state : StoreState) (collection moment : ℕ) (objects : List Described) (outcomes : List AddOutcome) (new : List StoredRow)
    → IsAddition state collection moment objects outcomes new → IsAdditionTo state (with_rows new (watermark_after state.watermark new) state)
added state collection moment objects outcomes new addition =
    let from = first_date state.watermark moment (length new) in
    let ascend : AscendFrom (state.watermark + 1) (dates_of new) = ascend_from_earlier (state.watermark + 1) from (dates_of new) (omega arith)
    (adds_ascend collection from state.rows objects outcomes new addition.adds) in
    record {
      rows = new;
      ascend = ascend;
      marked = marked_all state.watermark (state.watermark + 1) new ascend;
      watermark = watermark_not_before state.watermark new ascend;
      after_is = refl;
    }
