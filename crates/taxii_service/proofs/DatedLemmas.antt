-- Histories: one goes on with another, and each keeps the dates ascending up to the watermark.
use Rattle.std.proofs.Common.{◌≡◌, ◌⊎◌, inl, inr, ℕ, ◌+◌, ◌≤◌, List, [], ◌∷◌, ◌++◌, All, Bool, true, false, cond, refl, sym, subst, arith}
use Rattle.std.specs.Prelude.{not, filter}
use Rattle.std.proofs.lemmas.List.{map-append}
use Rattle.std.proofs.lemmas.List.Elements.{All-head, All-tail, All-map, All-append, All-weaker, All-filter}
use Rattle.taxii_rows.specs.declared.stored_row.StoredRow.{StoredRow}
use Rattle.taxii_rows.specs.StoreState.{StoreState, dates_of, AscendFrom}
use Rattle.taxii_rows.specs.Keeper.{is_date_in, with_rows, without}
use Rattle.taxii_store.specs.History.{IsDated, IsStoreAddition, IsDeletion, Becomes, IsHistory}

-- ---- ascending dates

pub ascend_from_earlier : (least later : ℕ) (dates : List ℕ) → least ≤ later → AscendFrom later dates → AscendFrom least dates
ascend_from_earlier least later [] earlier ascend = tt
ascend_from_earlier least later (date ∷ dates) earlier ascend = (omega (arith, ascend.0), ascend.1)

ascend_append : (least last : ℕ) (dates later : List ℕ) → least ≤ last + 1 → AscendFrom least dates → All (λ date. date ≤ last) dates → AscendFrom (last + 1) later
    → AscendFrom least (dates ++ later)
ascend_append least last [] later before ascend within behind = ascend_from_earlier least (last + 1) later before behind
ascend_append least last (date ∷ dates) later before ascend within behind =
    let here : date ≤ last = All-head (λ date. date ≤ last) date dates within in
    (ascend.0, ascend_append (date + 1) last dates later (omega arith) ascend.1 (All-tail (λ date. date ≤ last) date dates within) behind)

kept : (least : ℕ) (row : StoredRow) (rows : List StoredRow) (stays : Bool) → least ≤ row.date → AscendFrom (row.date + 1) (dates_of rows)
    → AscendFrom least (dates_of (cond stays (row ∷ rows) rows))
kept least row rows true here ascend = (here, ascend)
kept least row rows false here ascend = ascend_from_earlier least (row.date + 1) (dates_of rows) (omega arith) ascend

-- rows that are taken out leave the others ascending
ascend_filter : (least : ℕ) (test : StoredRow → Bool) (rows : List StoredRow) → AscendFrom least (dates_of rows) → AscendFrom least (dates_of (filter test rows))
ascend_filter least test [] ascend = tt
ascend_filter least test (row ∷ rows) ascend = kept least row (filter test rows) (test row) ascend.0 (ascend_filter (row.date + 1) test rows ascend.1)

-- ---- what keeps them so

with_dated : (state after : StoreState) (step : IsStoreAddition state after) → IsDated state → IsDated (with_rows step.rows after.watermark state)
with_dated state after step dated =
    let date = λ (row : StoredRow). row.date in
    let within : All (λ date. date ≤ state.watermark) (dates_of state.rows) = All-map (λ date. date ≤ state.watermark) date state.rows dated.marked in
    let ascend : AscendFrom 1 (dates_of state.rows ++ dates_of step.rows) =
    ascend_append 1 state.watermark (dates_of state.rows) (dates_of step.rows) (omega arith) dated.ascend within step.ascend in
    let later = step.watermark in
    record {
      ascend = subst (AscendFrom 1) (sym (map-append date state.rows step.rows)) ascend;
      marked = All-append (λ row. row.date ≤ after.watermark) state.rows step.rows
          (All-weaker (λ row. row.date ≤ state.watermark) (λ row. row.date ≤ after.watermark) (λ row low. omega (arith, low, later)) state.rows dated.marked) step.marked;
    }

without_dated : (state : StoreState) (dates : List ℕ) → IsDated state → IsDated (without dates state)
without_dated state dates dated =
    let stays = λ (row : StoredRow). not (is_date_in dates row.date) in record {
      ascend = ascend_filter 1 stays state.rows dated.ascend;
      marked = All-filter stays (λ row. row.date ≤ state.watermark) state.rows dated.marked;
    }

-- an addition keeps a store dated, and so does a deletion
pub change_dated : (state after : StoreState) → IsStoreAddition state after ⊎ IsDeletion state after → IsDated state → IsDated after
change_dated state after (inl step) dated = subst IsDated (sym step.after_is) (with_dated state after step dated)
change_dated state after (inr step) dated = subst IsDated (sym step.after_is) (without_dated state step.dates dated)

becomes_dated : (state : StoreState) (states : List StoreState) (after : StoreState) → Becomes state states after → IsDated state → IsDated after
becomes_dated state [] after same dated = subst IsDated (sym same) dated
becomes_dated state (next ∷ states) after (step, rest) dated = becomes_dated next states after rest (change_dated state next step dated)

pub history_dated : (state after : StoreState) → IsHistory state after → IsDated state → IsDated after
history_dated state after (states, becomes) dated = becomes_dated state states after becomes dated

-- ---- histories

pub no_history : (state after : StoreState) → after ≡ state → IsHistory state after
no_history state after same = ([], same)

pub one_change : (state after : StoreState) → IsStoreAddition state after ⊎ IsDeletion state after → IsHistory state after
one_change state after step = (after ∷ [], (step, refl))

becomes_both : (first : StoreState) (states : List StoreState) (second : StoreState) (more : List StoreState) (third : StoreState)
    → Becomes first states second → Becomes second more third → Becomes first (states ++ more) third
becomes_both first [] second more third same rest = subst (λ (state : StoreState). Becomes state more third) same rest
becomes_both first (next ∷ states) second more third (step, steps) rest = (step, becomes_both next states second more third steps rest)

pub history_both : (first second third : StoreState) → IsHistory first second → IsHistory second third → IsHistory first third
history_both first second third (states, becomes) (more, goes) = (states ++ more, becomes_both first states second more third becomes goes)
