-- A sound state stays sound where rows are added or removed.
use Rattle.std.proofs.Common.{ℕ, ◌+◌, ◌≤◌, List, [], ◌∷◌, ◌++◌, All, not, sym, subst, arith}
use Rattle.std.proofs.lemmas.List.{map-append}
use Rattle.std.proofs.lemmas.List.Elements.{All-head, All-tail, All-map, All-append, All-weaker, All-filter}
use Rattle.taxii_rows.specs.declared.stored_row.StoredRow.{StoredRow}
use Rattle.taxii_rows.specs.declared.stored_row.TheConstants.{LAST_DATE}
use Rattle.taxii_rows.specs.StoreState.{StoreState, dates_of, AscendFrom}
use Rattle.taxii_rows.specs.SoundRow.{IsSoundRow, IsSoundState}
use Rattle.taxii_rows.specs.Keeper.{CanAppend, is_date_in, with_rows, without}
use Rattle.taxii_rows.proofs.AscendLemmas.{ascend_from_earlier, ascend-filter}

ascend-append : (least last : ℕ) (dates later : List ℕ) → least ≤ last + 1 → AscendFrom least dates → All (λ date. date ≤ last) dates → AscendFrom (last + 1) later
    → AscendFrom least (dates ++ later)
ascend-append least last [] later before ascend within behind = ascend_from_earlier least (last + 1) later before behind
ascend-append least last (date ∷ dates) later before ascend within behind =
    let here : date ≤ last = All-head (λ date. date ≤ last) date dates within in
    (ascend.0, ascend-append (date + 1) last dates later (omega arith) ascend.1 (All-tail (λ date. date ≤ last) date dates within) behind)

-- rows that ascend past the watermark may be added
pub later_can_append : (state : StoreState) (rows : List StoredRow) (watermark : ℕ) → IsSoundState state → AscendFrom (state.watermark + 1) (dates_of rows)
    → All (λ row. row.date ≤ watermark) rows → CanAppend rows watermark state
later_can_append state rows watermark sound behind marked =
    let date = λ (row : StoredRow). row.date in
    let within : All (λ date. date ≤ state.watermark) (dates_of state.rows) = All-map (λ date. date ≤ state.watermark) date state.rows sound.marked in
    let ascend : AscendFrom 1 (dates_of state.rows ++ dates_of rows) = ascend-append 1 state.watermark (dates_of state.rows) (dates_of rows) (omega arith) sound.ascend within behind in
    record {
      ascend = subst (AscendFrom 1) (sym (map-append date state.rows rows)) ascend;
      marked = marked;
    }

pub sound_with : (state : StoreState) (rows : List StoredRow) (watermark : ℕ) → IsSoundState state → CanAppend rows watermark state → All IsSoundRow rows
    → state.watermark ≤ watermark → watermark ≤ LAST_DATE → IsSoundState (with_rows rows watermark state)
sound_with state rows watermark sound can new later last = record {
  ascend = can.ascend;
  marked = All-append (λ row. row.date ≤ watermark) state.rows rows
      (All-weaker (λ row. row.date ≤ state.watermark) (λ row. row.date ≤ watermark) (λ row within. omega arith) state.rows sound.marked) can.marked;
  last = last;
  rows = All-append IsSoundRow state.rows rows sound.rows new;
}

pub sound_without : (state : StoreState) (dates : List ℕ) → IsSoundState state → IsSoundState (without dates state)
sound_without state dates sound =
    let stays = λ (row : StoredRow). not (is_date_in dates row.date) in record {
      ascend = ascend-filter 1 stays state.rows sound.ascend;
      marked = All-filter stays (λ row. row.date ≤ state.watermark) state.rows sound.marked;
      last = sound.last;
      rows = All-filter stays IsSoundRow state.rows sound.rows;
    }
