-- Drafts: with one more row, with one more outcome, and as a plan.
use Rattle.std.proofs.Common.{◌≡◌, ℕ, ◌+◌, ◌<◌, ◌≤◌, List, [], ◌∷◌, ◌++◌, length, map, All, Option, Some, None, IfSome, option_map, refl, sym, ap, subst, ◌∙◌, arith}
use Rattle.std.proofs.lemmas.List.{append-nil, length-append, length-map}
use Rattle.std.proofs.lemmas.List.Elements.{All-append, All-cons, All-nil, All-weaker}
use Rattle.taxii_rows.specs.declared.stored_row.StoredRow.{StoredRow}
use Rattle.taxii_rows.specs.declared.stored_row.TheConstants.{LAST_DATE}
use Rattle.taxii_rows.specs.declared.described.Described.{Described}
use Rattle.taxii_rows.specs.Described.{stored_row_of}
use Rattle.taxii_rows.specs.SoundRow.{IsSoundRow}
use Rattle.taxii_rows.specs.StoreState.{StoreState}
use Rattle.taxii_store.specs.declared.add_outcome.AddOutcome.{AddOutcome}
use Rattle.taxii_store.specs.Addition.{AddsObjects, IsAddition, date_in, first_date}
use Rattle.taxii_store.specs.Planned.{IsSound, IsSoundPlan}
use Rattle.taxii_store.specs.inner.Moving.{CountUp, IsDraft, shifted, shifted_outcome, next_date, shift_at, plan_of}
use Rattle.taxii_store.proofs.CountLemmas.{count_pushed, counts_ascend, counts_last, counts_within, counts_shifted, all_sound_shifted}
use Rattle.taxii_store.proofs.AddsLemmas.{adds_shifted, find_among}
use Rattle.std.specs.Option.{option_or}
use Rattle.std.proofs.lemmas.List.Folds.{find-append}
use Rattle.taxii_index.specs.Presence.{is_duplicate, duplicate_of}

pub row_pushed : (watermark : ℕ) (outcomes : List AddOutcome) (new : List StoredRow) (row : StoredRow) → IsDraft watermark outcomes new
    → row.date ≡ next_date watermark new → row.date ≤ LAST_DATE → IsSoundRow row → IsDraft watermark outcomes (new ++ row ∷ [])
row_pushed watermark outcomes new row draft date within sound =
    let count = length-append new (row ∷ []) in record {
      dates = count_pushed (watermark + 1) new row draft.dates date;
      room = omega (arith, count, date, within);
      sound = All-append IsSoundRow new (row ∷ []) draft.sound (All-cons IsSoundRow row [] sound (All-nil IsSoundRow));
      known = draft.known;
    }

pub outcome_pushed : (watermark : ℕ) (outcomes : List AddOutcome) (new : List StoredRow) (outcome : AddOutcome) → IsDraft watermark outcomes new
    → date_in outcome ≤ LAST_DATE → IsDraft watermark (outcomes ++ outcome ∷ []) new
outcome_pushed watermark outcomes new outcome draft known =
    let Known = λ (one : AddOutcome). date_in one ≤ LAST_DATE in record {
      dates = draft.dates;
      room = draft.room;
      sound = draft.sound;
      known = All-append Known outcomes (outcome ∷ []) draft.known (All-cons Known outcome [] known (All-nil Known));
    }

-- the rows of a draft begin after the watermark, and may be shifted to the first date of so many
pub shift_is : (watermark moment : ℕ) (new : List StoredRow) → watermark + length new ≤ LAST_DATE
    → (watermark + 1 + shift_at watermark moment new ≡ first_date watermark moment (length new)) × (watermark + length new + shift_at watermark moment new ≤ LAST_DATE)
shift_is watermark moment new room = (omega arith, omega arith)

pub plan_sound : (watermark moment : ℕ) (outcomes : List AddOutcome) (new : List StoredRow) → IsDraft watermark outcomes new
    → IsSoundPlan (plan_of watermark moment outcomes new)
plan_sound watermark moment outcomes new draft =
    let shift = shift_at watermark moment new in
    let rows = map (shifted shift) new in
    let (begins, ends) = shift_is watermark moment new draft.room in
    let counts : CountUp (watermark + 1 + shift) rows = counts_shifted (watermark + 1) shift new draft.dates in
    let count : length rows ≡ length new = length-map new (shifted shift) in
    record {
      ascend = counts_ascend (watermark + 1) (watermark + 1 + shift) rows (omega arith) counts;
      last = counts_last LAST_DATE (watermark + 1 + shift) watermark rows (omega (arith, draft.room)) counts (omega (arith, count, ends));
      dates = counts_within (watermark + 1 + shift) LAST_DATE rows counts (omega (arith, count, ends));
      rows = all_sound_shifted shift new draft.sound;
    }

pub object_pushed : (watermark : ℕ) (outcomes : List AddOutcome) (new : List StoredRow) (object : Described) (date collection : ℕ) (row : StoredRow)
    → IsDraft watermark outcomes new → IsSound object → row ≡ stored_row_of object date collection → date ≡ next_date watermark new → date ≤ LAST_DATE
    → IsDraft watermark outcomes (new ++ row ∷ [])
object_pushed watermark outcomes new object date collection row draft sound its next within =
    subst (λ (r : StoredRow). IsDraft watermark outcomes (new ++ r ∷ [])) (sym its)
    (row_pushed watermark outcomes new (stored_row_of object date collection) draft next within (sound date collection))

-- the addition that a draft is, at a moment
pub plan_adds : (state : StoreState) (collection moment : ℕ) (objects : List Described) (outcomes : List AddOutcome) (new : List StoredRow)
    → All (λ row. row.date ≤ state.watermark) state.rows → IsDraft state.watermark outcomes new
    → AddsObjects collection (state.watermark + 1) state.rows objects outcomes new
    → IsAddition state collection moment objects (plan_of state.watermark moment outcomes new).outcomes (plan_of state.watermark moment outcomes new).rows
plan_adds state collection moment objects outcomes new held draft adds =
    let shift = shift_at state.watermark moment new in
    let rows = map (shifted shift) new in
    let count : length rows ≡ length new = length-map new (shifted shift) in
    let (begins, ends) = shift_is state.watermark moment new draft.room in
    let fresh : AddsObjects collection (state.watermark + 1) (state.rows ++ []) objects outcomes new =
    subst (λ (rs : List StoredRow). AddsObjects collection (state.watermark + 1) rs objects outcomes new) (sym (append-nil state.rows)) adds in
    let later = adds_shifted state.watermark shift collection (state.watermark + 1) state.rows [] objects outcomes new held (All-nil (λ (row : StoredRow). state.watermark < row.date)) (omega arith) fresh in
    let own = subst (λ (rs : List StoredRow). AddsObjects collection (state.watermark + 1 + shift) rs objects (map (shifted_outcome state.watermark shift) outcomes) rows) (append-nil state.rows) later in
    let first = subst (λ (date : ℕ). AddsObjects collection date state.rows objects (map (shifted_outcome state.watermark shift) outcomes) rows) begins own in record {
      adds = subst (λ (n : ℕ). AddsObjects collection (first_date state.watermark moment n) state.rows objects (map (shifted_outcome state.watermark shift) outcomes) rows) (sym count) first;
      room = omega (arith, count, draft.room);
    }

-- the dates of a draft's rows may be shifted so far
pub rows_movable : (watermark moment : ℕ) (outcomes : List AddOutcome) (new : List StoredRow) → IsDraft watermark outcomes new
    → All (λ row. row.date + shift_at watermark moment new ≤ LAST_DATE) new
rows_movable watermark moment outcomes new draft =
    let (begins, ends) = shift_is watermark moment new draft.room in
    All-weaker (λ row. row.date ≤ watermark + length new) (λ row. row.date + shift_at watermark moment new ≤ LAST_DATE) (λ row within. omega (arith, ends, within)) new
    (counts_within (watermark + 1) (watermark + length new) new draft.dates (omega arith))

-- ---- the date of the row that makes an object present

abbrev date_in_some : ℕ → Described → List StoredRow → Option ℕ
date_in_some collection object rows = option_map (λ row. row.date) (duplicate_of collection object rows)

or_same : (first second : Option StoredRow) → option_or (option_map (λ row. row.date) first) (option_map (λ row. row.date) second)
    ≡ option_map (λ row. row.date) (option_or first second)
or_same (Some row) second = refl
or_same None second = refl

or_first : (held other : Option ℕ) (date : ℕ) → held ≡ Some date → held ≡ option_or held other
or_first (Some d) other date is = refl
or_first None other date is = absurd (cc)

or_second : (held other : Option ℕ) → held ≡ None → other ≡ option_or held other
or_second (Some d) other is = absurd (cc)
or_second None other is = refl

either_date : (collection : ℕ) (object : Described) (rows added : List StoredRow)
    → option_or (date_in_some collection object rows) (date_in_some collection object added) ≡ date_in_some collection object (rows ++ added)
either_date collection object rows added =
    or_same (duplicate_of collection object rows) (duplicate_of collection object added)
    ∙ sym (ap (option_map (λ (row : StoredRow). row.date)) (find-append (is_duplicate collection object) rows added))

pub date_held : (collection : ℕ) (object : Described) (rows added : List StoredRow) (held : Option ℕ) (date : ℕ)
    → held ≡ date_in_some collection object rows → held ≡ Some date → held ≡ date_in_some collection object (rows ++ added)
date_held collection object rows added held date found is =
    or_first held (date_in_some collection object added) date is
    ∙ ap (λ (one : Option ℕ). option_or one (date_in_some collection object added)) found
    ∙ either_date collection object rows added

pub date_added : (collection : ℕ) (object : Described) (rows added : List StoredRow) (held other : Option ℕ)
    → held ≡ date_in_some collection object rows → other ≡ date_in_some collection object added → held ≡ None
    → other ≡ date_in_some collection object (rows ++ added)
date_added collection object rows added held other found behind is =
    or_second held other is
    ∙ ap (λ (one : Option ℕ). option_or one other) found
    ∙ ap (option_or (date_in_some collection object rows)) behind
    ∙ either_date collection object rows added

if_date : (found : Option StoredRow) (P : ℕ → Type 0) → IfSome found (λ row. P row.date) → IfSome (option_map (λ row. row.date) found) P
if_date (Some row) P it = it
if_date None P it = tt

pub date_known : (state : StoreState) (collection : ℕ) (object : Described) (outcomes : List AddOutcome) (new : List StoredRow) (date : Option ℕ)
    → All (λ row. row.date ≤ state.watermark) state.rows → state.watermark ≤ LAST_DATE → IsDraft state.watermark outcomes new
    → date ≡ date_in_some collection object (state.rows ++ new) → IfSome date (λ d. d ≤ LAST_DATE)
date_known state collection object outcomes new date marked last draft is =
    let Dated = λ (row : StoredRow). row.date ≤ LAST_DATE in
    let held = All-weaker (λ row. row.date ≤ state.watermark) Dated (λ row within. omega (arith, within, last)) state.rows marked in
    let behind = counts_within (state.watermark + 1) LAST_DATE new draft.dates (omega (arith, draft.room)) in
    let all = All-append Dated state.rows new held behind in
    subst (λ (d : Option ℕ). IfSome d (λ n. n ≤ LAST_DATE)) (sym is)
    (if_date (duplicate_of collection object (state.rows ++ new)) (λ n. n ≤ LAST_DATE) (find_among (is_duplicate collection object) Dated (state.rows ++ new) all))
