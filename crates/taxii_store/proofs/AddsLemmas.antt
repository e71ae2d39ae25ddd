-- Additions: there is one for all objects, they go on object by object, and their dates may be shifted.
use Rattle.std.proofs.Common.{◌≡◌, ℕ, ℤ, pos, ◌+◌, ◌<◌, ◌≤◌, List, [], ◌∷◌, ◌++◌, map, All, Bool, true, false, cond, Option, Some, None, IfSome, is_some, unwrap_or, option_map, MatchOption, refl, sym, ap, subst, ◌∙◌, append_assoc, arith}
use Rattle.std.specs.Prelude.{◌&&◌, find}
use Rattle.std.specs.Ordering.{int_eq}
use Rattle.std.specs.List.{Contains}
use Rattle.std.specs.Option.{option_or}
use Rattle.std.proofs.lemmas.Bool.{lt-ltb, le-ltb}
use Rattle.std.proofs.lemmas.List.{append-nil, map-append, length-append}
use Rattle.std.proofs.lemmas.List.Elements.{All-head, All-tail, All-append, All-cons, All-nil, All-contains_itself, Contains-append_left, Contains-push}
use Rattle.std.proofs.lemmas.List.Folds.{find-append}
use Rattle.taxii_rows.specs.declared.stored_row.StoredRow.{StoredRow}
use Rattle.taxii_rows.specs.declared.described.Described.{Described}
use Rattle.taxii_rows.specs.Described.{stored_row_of}
use Rattle.taxii_rows.specs.Identity.{is_row_of}
use Rattle.taxii_rows.specs.StoreState.{StoreState}
use Rattle.taxii_index.specs.Presence.{agrees, is_duplicate, duplicate_of}
use Rattle.taxii_store.specs.declared.add_outcome.AddOutcome.{AddOutcome}
use Rattle.taxii_store.specs.declared.add_outcome.AddOutcome.TheVariants.{Added, Present}
use Rattle.taxii_store.specs.Addition.{AddsObjects, UsesUpDates, date_in}
use Rattle.taxii_store.specs.inner.Moving.{shifted, shifted_date, shifted_outcome, next_date, PlacesObject, LacksDate}

-- what the first object makes of an addition, where that row makes it present
abbrev pub AddsNext : ℕ → ℕ → List StoredRow → Described → List Described → List AddOutcome → List StoredRow → Option StoredRow → Type 0
AddsNext collection date rows object objects outcomes new found = MatchOption found
    ((others : List AddOutcome) × (more : List StoredRow)
    × (outcomes ≡ Added date ∷ others) × (new ≡ stored_row_of object date collection ∷ more)
    × AddsObjects collection (date + 1) (rows ++ stored_row_of object date collection ∷ []) objects others more)
    (λ row. (others : List AddOutcome) × (outcomes ≡ Present row.date ∷ others) × AddsObjects collection date rows objects others new)

-- ---- there is one

abbrev Some_addition : ℕ → ℕ → List StoredRow → List Described → Type 0
Some_addition collection date rows objects = (outcomes : List AddOutcome) × (new : List StoredRow) × AddsObjects collection date rows objects outcomes new

pub adds_total : (collection date : ℕ) (rows : List StoredRow) (objects : List Described) → Some_addition collection date rows objects
adds_total collection date rows [] = ([], [], (refl, refl))
adds_total collection date rows (object ∷ objects) = next (duplicate_of collection object rows)
    (adds_total collection date rows objects)
    (adds_total collection (date + 1) (rows ++ stored_row_of object date collection ∷ []) objects)
  where
    next : (found : Option StoredRow) → Some_addition collection date rows objects
        → Some_addition collection (date + 1) (rows ++ stored_row_of object date collection ∷ []) objects
        → (outcomes : List AddOutcome) × (new : List StoredRow) × AddsNext collection date rows object objects outcomes new found
    next (Some row) rest behind = (Present row.date ∷ rest.0, rest.1, (rest.0, refl, rest.2))
    next None rest behind = (Added date ∷ behind.0, stored_row_of object date collection ∷ behind.1, (behind.0, behind.1, refl, refl, behind.2))

-- ---- object by object

-- what the objects of a draft were made, with an addition of the others after it, is an addition of all
abbrev pub Continues : StoreState → ℕ → List Described → List AddOutcome → List StoredRow → List Described → Type 0
Continues state collection objects outcomes new rest = (others : List AddOutcome) (more : List StoredRow)
    → AddsObjects collection (next_date state.watermark new) (state.rows ++ new) rest others more
    → AddsObjects collection (state.watermark + 1) state.rows objects (outcomes ++ others) (new ++ more)

pub continues_last : (state : StoreState) (collection : ℕ) (objects : List Described) (outcomes : List AddOutcome) (new : List StoredRow)
    → Continues state collection objects outcomes new [] → AddsObjects collection (state.watermark + 1) state.rows objects outcomes new
continues_last state collection objects outcomes new goes =
    subst (λ (out : List AddOutcome). AddsObjects collection (state.watermark + 1) state.rows objects out new) (append-nil outcomes)
    (subst (λ (rows : List StoredRow). AddsObjects collection (state.watermark + 1) state.rows objects (outcomes ++ []) rows) (append-nil new) (goes [] [] (refl, refl)))

pub continues_next : (state : StoreState) (collection : ℕ) (objects : List Described) (outcomes outcomes_now : List AddOutcome) (new new_now : List StoredRow)
    (object : Described) (rest : List Described) → Continues state collection objects outcomes new (object ∷ rest)
    → PlacesObject state collection object outcomes new outcomes_now new_now → Continues state collection objects outcomes_now new_now rest
continues_next state collection objects outcomes outcomes_now new new_now object rest goes places others more adds =
    let (out, rows, first, out_is, rows_is) = next (duplicate_of collection object (state.rows ++ new)) places in
    subst (λ (o : List AddOutcome). AddsObjects collection (state.watermark + 1) state.rows objects o (new_now ++ more)) out_is
    (subst (λ (r : List StoredRow). AddsObjects collection (state.watermark + 1) state.rows objects (outcomes ++ out) r) rows_is (goes out rows first))
  where
    date : ℕ
    date = next_date state.watermark new

    row : StoredRow
    row = stored_row_of object date collection

    behind : new_now ≡ new ++ row ∷ [] → AddsObjects collection (date + 1) ((state.rows ++ new) ++ row ∷ []) rest others more
    behind new_is =
        let here = subst (λ (rs : List StoredRow). AddsObjects collection (next_date state.watermark rs) (state.rows ++ rs) rest others more) new_is adds in
        let one = subst (λ (rs : List StoredRow). AddsObjects collection (next_date state.watermark (new ++ row ∷ [])) rs rest others more) (sym (append_assoc state.rows new (row ∷ []))) here in
        let count = length-append new (row ∷ []) in
        let len : next_date state.watermark (new ++ row ∷ []) ≡ date + 1 = omega (arith, count) in
        subst (λ (n : ℕ). AddsObjects collection n ((state.rows ++ new) ++ row ∷ []) rest others more) len one

    next : (found : Option StoredRow)
        → MatchOption found ((outcomes_now ≡ outcomes ++ Added date ∷ []) × (new_now ≡ new ++ row ∷ []))
        (λ held. (outcomes_now ≡ outcomes ++ Present held.date ∷ []) × (new_now ≡ new))
        → (out : List AddOutcome) × (rows : List StoredRow) × AddsNext collection date (state.rows ++ new) object rest out rows found
        × (outcomes ++ out ≡ outcomes_now ++ others) × (new ++ rows ≡ new_now ++ more)
    next (Some held) (out_is, new_is) = (
      Present held.date ∷ others,
      more,
      (others, refl, subst (λ (rs : List StoredRow). AddsObjects collection (next_date state.watermark rs) (state.rows ++ rs) rest others more) new_is adds),
      sym (ap (λ (o : List AddOutcome). o ++ others) out_is ∙ append_assoc outcomes (Present held.date ∷ []) others),
      sym (ap (λ (rs : List StoredRow). rs ++ more) new_is),
    )
    next None (out_is, new_is) = (
      Added date ∷ others,
      row ∷ more,
      (others, more, refl, refl, behind new_is),
      sym (ap (λ (o : List AddOutcome). o ++ others) out_is ∙ append_assoc outcomes (Added date ∷ []) others),
      sym (ap (λ (rs : List StoredRow). rs ++ more) new_is ∙ append_assoc new (row ∷ []) more),
    )

-- an object without a row and without a date leaves too few dates for all
pub lacks_dates : (state : StoreState) (collection : ℕ) (objects : List Described) (outcomes : List AddOutcome) (new : List StoredRow)
    (object : Described) (rest : List Described) → Continues state collection objects outcomes new (object ∷ rest)
    → LacksDate state collection object new → UsesUpDates state collection objects
lacks_dates state collection objects outcomes new object rest goes (none, late) =
    let date = next_date state.watermark new in
    let row = stored_row_of object date collection in
    let behind = adds_total collection (date + 1) ((state.rows ++ new) ++ row ∷ []) rest in
    let first : AddsObjects collection date (state.rows ++ new) (object ∷ rest) (Added date ∷ behind.0) (row ∷ behind.1) =
    subst (λ (found : Option StoredRow). AddsNext collection date (state.rows ++ new) object rest (Added date ∷ behind.0) (row ∷ behind.1) found) (sym none)
    (behind.0, behind.1, refl, refl, behind.2) in
    let count = length-append new (row ∷ behind.1) in
    record {
      outcomes = outcomes ++ Added date ∷ behind.0;
      new = new ++ row ∷ behind.1;
      adds = goes (Added date ∷ behind.0) (row ∷ behind.1) first;
      lacks = omega (arith, count, late);
    }

-- ---- shifted

dated_same : (dated : Bool) (version other v : ℤ) → dated && int_eq (cond dated version other) v ≡ dated && int_eq version v
dated_same true version other v = refl
dated_same false version other v = refl

agrees_shifted : (shift : ℕ) (row : StoredRow) (version : Option ℤ) (body : List ℕ) → agrees version body (shifted shift row) ≡ agrees version body row
agrees_shifted shift row (Some v) body = dated_same row.dated row.version (pos (row.date + shift)) v
agrees_shifted shift row None body = refl

same_shifted : (shift collection : ℕ) (object : Described) (row : StoredRow) → is_duplicate collection object (shifted shift row) ≡ is_duplicate collection object row
same_shifted shift collection object row = ap (λ (b : Bool). is_row_of collection object.id row && b) (agrees_shifted shift row object.version object.body)

find_shifted : (shift collection : ℕ) (object : Described) (rows : List StoredRow)
    → duplicate_of collection object (map (shifted shift) rows) ≡ option_map (shifted shift) (duplicate_of collection object rows)
find_shifted shift collection object [] = refl
find_shifted shift collection object (row ∷ rows) =
    ap (λ (b : Bool). cond b (Some (shifted shift row)) (duplicate_of collection object (map (shifted shift) rows))) (same_shifted shift collection object row)
    ∙ either (is_duplicate collection object row) (find_shifted shift collection object rows)
  where
    either : (b : Bool) → duplicate_of collection object (map (shifted shift) rows) ≡ option_map (shifted shift) (duplicate_of collection object rows)
        → cond b (Some (shifted shift row)) (duplicate_of collection object (map (shifted shift) rows)) ≡ option_map (shifted shift) (cond b (Some row) (duplicate_of collection object rows))
    either true rest = refl
    either false rest = rest

pub find_among : (test : StoredRow → Bool) (P : StoredRow → Type 0) (rows : List StoredRow) → All P rows → IfSome (find test rows) P
find_among test P [] all = tt
find_among test P (row ∷ rows) all = either (test row) (find_among test P rows (All-tail P row rows all))
  where
    either : (b : Bool) → IfSome (find test rows) P → IfSome (cond b (Some row) (find test rows)) P
    either true rest = All-head P row rows all
    either false rest = rest

version_shifted : (version : Option ℤ) (date later : ℕ) → cond (is_some version) (unwrap_or version (pos date)) (pos later) ≡ unwrap_or version (pos later)
version_shifted (Some v) date later = refl
version_shifted None date later = refl

row_shifted : (shift date collection : ℕ) (object : Described) → shifted shift (stored_row_of object date collection) ≡ stored_row_of object (date + shift) collection
row_shifted shift date collection object = ap (λ (v : ℤ). record {
  date = date + shift;
  collection = collection;
  id = object.id;
  version = v;
  dated = is_some object.version;
  body = object.body;
}) (version_shifted object.version date (date + shift))

stays : (watermark shift date : ℕ) → date ≤ watermark → shifted_date watermark shift date ≡ date
stays watermark shift date held = ap (λ (b : Bool). cond b (date + shift) date) (le-ltb watermark date held)

moves : (watermark shift date : ℕ) → watermark < date → shifted_date watermark shift date ≡ date + shift
moves watermark shift date new = ap (λ (b : Bool). cond b (date + shift) date) (lt-ltb watermark date new)

-- an addition after some rows stands as well where the new rows are later
pub adds_shifted : (watermark shift collection date : ℕ) (rows fresh : List StoredRow) (objects : List Described) (outcomes : List AddOutcome) (new : List StoredRow)
    → All (λ row. row.date ≤ watermark) rows → All (λ row. watermark < row.date) fresh → watermark < date
    → AddsObjects collection date (rows ++ fresh) objects outcomes new
    → AddsObjects collection (date + shift) (rows ++ map (shifted shift) fresh) objects (map (shifted_outcome watermark shift) outcomes) (map (shifted shift) new)
adds_shifted watermark shift collection date rows fresh [] outcomes new held behind past adds =
    (ap (map (shifted_outcome watermark shift)) adds.0, ap (map (shifted shift)) adds.1)
adds_shifted watermark shift collection date rows fresh (object ∷ objects) outcomes new held behind past adds =
    subst Goal (sym later_found) (next (duplicate_of collection object rows) (duplicate_of collection object fresh)
    (find_among (is_duplicate collection object) (λ row. row.date ≤ watermark) rows held)
    (find_among (is_duplicate collection object) (λ row. watermark < row.date) fresh behind)
    (subst (AddsNext collection date (rows ++ fresh) object objects outcomes new) found adds)
    (λ others. adds_shifted watermark shift collection date rows fresh objects others new held behind past)
    (λ others more. adds_shifted watermark shift collection (date + 1) rows (fresh ++ row ∷ []) objects others more held
    (All-append (λ row. watermark < row.date) fresh (row ∷ []) behind (All-cons (λ row. watermark < row.date) row [] past (All-nil (λ row. watermark < row.date)))) (omega arith)))
  where
    row : StoredRow
    row = stored_row_of object date collection

    Goal : Option StoredRow → Type 0
    Goal = AddsNext collection (date + shift) (rows ++ map (shifted shift) fresh) object objects (map (shifted_outcome watermark shift) outcomes) (map (shifted shift) new)

    found : duplicate_of collection object (rows ++ fresh) ≡ option_or (duplicate_of collection object rows) (duplicate_of collection object fresh)
    found = find-append (is_duplicate collection object) rows fresh

    later_found : duplicate_of collection object (rows ++ map (shifted shift) fresh)
        ≡ option_or (duplicate_of collection object rows) (option_map (shifted shift) (duplicate_of collection object fresh))
    later_found = find-append (is_duplicate collection object) rows (map (shifted shift) fresh)
        ∙ ap (option_or (duplicate_of collection object rows)) (find_shifted shift collection object fresh)

    behind_row : (others : List AddOutcome) (more : List StoredRow)
        → AddsObjects collection (date + 1 + shift) (rows ++ map (shifted shift) (fresh ++ row ∷ [])) objects (map (shifted_outcome watermark shift) others) (map (shifted shift) more)
        → AddsObjects collection (date + shift + 1) ((rows ++ map (shifted shift) fresh) ++ stored_row_of object (date + shift) collection ∷ []) objects (map (shifted_outcome watermark shift) others) (map (shifted shift) more)
    behind_row others more it =
        let one = subst (λ (rs : List StoredRow). AddsObjects collection (date + 1 + shift) (rows ++ rs) objects (map (shifted_outcome watermark shift) others) (map (shifted shift) more))
        (map-append (shifted shift) fresh (row ∷ []) ∙ ap (λ (r : StoredRow). map (shifted shift) fresh ++ r ∷ []) (row_shifted shift date collection object)) it in
        let two = subst (λ (rs : List StoredRow). AddsObjects collection (date + 1 + shift) rs objects (map (shifted_outcome watermark shift) others) (map (shifted shift) more))
        (sym (append_assoc rows (map (shifted shift) fresh) (stored_row_of object (date + shift) collection ∷ []))) one in
        let same : date + 1 + shift ≡ date + shift + 1 = omega arith in
        subst (λ (n : ℕ). AddsObjects collection n ((rows ++ map (shifted shift) fresh) ++ stored_row_of object (date + shift) collection ∷ []) objects (map (shifted_outcome watermark shift) others) (map (shifted shift) more)) same two

    next : (first second : Option StoredRow) → IfSome first (λ row. row.date ≤ watermark) → IfSome second (λ row. watermark < row.date)
        → AddsNext collection date (rows ++ fresh) object objects outcomes new (option_or first second)
        → ((others : List AddOutcome) → AddsObjects collection date (rows ++ fresh) objects others new
        → AddsObjects collection (date + shift) (rows ++ map (shifted shift) fresh) objects (map (shifted_outcome watermark shift) others) (map (shifted shift) new))
        → ((others : List AddOutcome) (more : List StoredRow) → AddsObjects collection (date + 1) (rows ++ (fresh ++ row ∷ [])) objects others more
        → AddsObjects collection (date + 1 + shift) (rows ++ map (shifted shift) (fresh ++ row ∷ [])) objects (map (shifted_outcome watermark shift) others) (map (shifted shift) more))
        → Goal (option_or first (option_map (shifted shift) second))
    next (Some r) second low high (others, out_is, it) again more_rows = (
      map (shifted_outcome watermark shift) others,
      ap (map (shifted_outcome watermark shift)) out_is ∙ ap (λ (d : ℕ). Present d ∷ map (shifted_outcome watermark shift) others) (stays watermark shift r.date low),
      again others it,
    )
    next None (Some r) low high (others, out_is, it) again more_rows = (
      map (shifted_outcome watermark shift) others,
      ap (map (shifted_outcome watermark shift)) out_is ∙ ap (λ (d : ℕ). Present d ∷ map (shifted_outcome watermark shift) others) (moves watermark shift r.date high),
      again others it,
    )
    next None None low high (others, more, out_is, new_is, it) again more_rows = (
      map (shifted_outcome watermark shift) others,
      map (shifted shift) more,
      ap (map (shifted_outcome watermark shift)) out_is ∙ ap (λ (d : ℕ). Added d ∷ map (shifted_outcome watermark shift) others) (moves watermark shift date past),
      ap (map (shifted shift)) new_is ∙ ap (λ (r : StoredRow). r ∷ map (shifted shift) more) (row_shifted shift date collection object),
      behind_row others more (more_rows others more (subst (λ (rs : List StoredRow). AddsObjects collection (date + 1) rs objects others more) (append_assoc rows fresh (row ∷ [])) it)),
    )

-- ---- outcomes and rows

abbrev HasRow : List StoredRow → AddOutcome → Type 0
HasRow rows outcome = (row : StoredRow) × Contains rows row × (row.date ≡ date_in outcome)

-- each outcome has its row after an addition
pub outcomes_have : (collection date : ℕ) (rows : List StoredRow) (objects : List Described) (outcomes : List AddOutcome) (new : List StoredRow)
    → AddsObjects collection date rows objects outcomes new → All (HasRow (rows ++ new)) outcomes
outcomes_have collection date rows [] outcomes new adds = subst (All (HasRow (rows ++ new))) (sym adds.0) (All-nil (HasRow (rows ++ new)))
outcomes_have collection date rows (object ∷ objects) outcomes new adds = next (duplicate_of collection object rows)
    (find_among (is_duplicate collection object) (Contains rows) rows (All-contains_itself rows)) adds
    (λ others it. outcomes_have collection date rows objects others new it)
    (λ others more it. outcomes_have collection (date + 1) (rows ++ row ∷ []) objects others more it)
  where
    row : StoredRow
    row = stored_row_of object date collection

    next : (found : Option StoredRow) → IfSome found (Contains rows) → AddsNext collection date rows object objects outcomes new found
        → ((others : List AddOutcome) → AddsObjects collection date rows objects others new → All (HasRow (rows ++ new)) others)
        → ((others : List AddOutcome) (more : List StoredRow) → AddsObjects collection (date + 1) (rows ++ row ∷ []) objects others more → All (HasRow ((rows ++ row ∷ []) ++ more)) others)
        → All (HasRow (rows ++ new)) outcomes
    next (Some held) among (others, out_is, it) again behind = subst (All (HasRow (rows ++ new))) (sym out_is)
        (All-cons (HasRow (rows ++ new)) (Present held.date) others (held, Contains-append_left rows new held among, refl) (again others it))
    next None among (others, more, out_is, new_is, it) again behind =
        let all : (rows ++ row ∷ []) ++ more ≡ rows ++ new = append_assoc rows (row ∷ []) more ∙ ap (λ (rs : List StoredRow). rows ++ rs) (sym new_is) in
        let there = subst (λ (rs : List StoredRow). Contains rs row) all (Contains-append_left (rows ++ row ∷ []) more row (Contains-push rows row)) in
        subst (All (HasRow (rows ++ new))) (sym out_is)
        (All-cons (HasRow (rows ++ new)) (Added date) others (row, there, refl)
        (subst (λ (rs : List StoredRow). All (HasRow rs) others) all (behind others more it)))
