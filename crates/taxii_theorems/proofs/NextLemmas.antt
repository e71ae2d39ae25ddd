-- What an answer with a page tells of the next one: its text, and that this is the date of the page's last row.
use Rattle.std.proofs.Common.{◌≡◌, inl, ℕ, ◌<◌, ◌≤◌, List, [], ◌∷◌, ◌++◌, length, take, Bool, true, false, Option, Some, None, refl, sym, ap, subst, ◌∙◌, arith}
use Rattle.std.specs.Prelude.{codes, min, nat_lt, get_or, unwrap_or, IfSome}
use Rattle.std.specs.List.{Contains, last_or}
use Rattle.std.proofs.lemmas.Bool.{ltb-true}
use Rattle.std.proofs.lemmas.List.{append_assoc, append_cancel_left, take_at}
use Rattle.std.proofs.lemmas.List.Elements.{All-contains, Contains-append_left, Contains-append_right, Contains-push}
use Rattle.stix_ids.specs.declared.id.Id.{Id}
use Rattle.taxii_routes.specs.declared.query.Query.{Query}
use Rattle.taxii_rows.specs.declared.stored_row.StoredRow.{StoredRow}
use Rattle.taxii_rows.specs.declared.stored_row.TheConstants.{LAST_DATE}
use Rattle.taxii_rows.specs.StoreState.{StoreState, dates_of}
use Rattle.taxii_bodies.specs.Envelope.{next_of, next_text, head_text}
use Rattle.taxii_store.specs.Page.{IsPage, FitsPage, page_size}
use Rattle.taxii_store.specs.Walk.{last_date}
use Rattle.taxii_theorems.proofs.ChainLemmas.{IsOrdered}

-- ---- the text

-- the eighth letter tells
apart : (more none : List ℕ) → codes "{\"more\":false" ++ none ≡ codes "{\"more\":true,\"next\":\"" ++ more → ⊥
apart more none same = let letter : 102 ≡ 116 = ap (λ (text : List ℕ). get_or text 8 0) same in omega (arith, letter)

-- sixteen letters after the same beginning are the same
same_letters : (first second rest other : List ℕ) → length first ≡ 16 → length second ≡ 16 → first ++ rest ≡ second ++ other → first ≡ second
same_letters first second rest other long also same =
    sym (take_at first rest 16 long) ∙ ap (take 16) same ∙ take_at second other 16 also

pub told_next : (next : Option ℕ) (told tail rest : List ℕ) → length told ≡ 16 → ((date : ℕ) → next ≡ Some date → length (next_text date) ≡ 16)
    → head_text next ++ tail ≡ codes "{\"more\":true,\"next\":\"" ++ (told ++ rest) → (date : ℕ) × (next ≡ Some date) × (told ≡ next_text date)
told_next None told tail rest long texts same = absurd (apart (told ++ rest) tail same)
told_next (Some date) told tail rest long texts same =
    let before = codes "{\"more\":true,\"next\":\"" in
    let end = codes "\"" in
    let text : before ++ (next_text date ++ (end ++ tail)) ≡ before ++ (told ++ rest) =
    ap (λ (its : List ℕ). before ++ its) (sym (append_assoc (next_text date) end tail)) ∙ sym (append_assoc before (next_text date ++ end) tail) ∙ same in (
      date,
      refl,
      sym (same_letters (next_text date) told (end ++ tail) rest (texts date refl) long
          (append_cancel_left before (next_text date ++ (end ++ tail)) (told ++ rest) text)),
    )

pub told_no_more : (next : Option ℕ) (tail rest : List ℕ) → head_text next ++ tail ≡ codes "{\"more\":false" ++ rest → next ≡ None
told_no_more None tail rest same = refl
told_no_more (Some date) tail rest same =
    let before = codes "{\"more\":true,\"next\":\"" in
    absurd (apart ((next_text date ++ codes "\"") ++ tail) rest (sym same ∙ append_assoc before (next_text date ++ codes "\"") tail))

-- ---- the date

last_from : (row : StoredRow) (rows : List StoredRow) → last_or (Some row.date) (dates_of rows) ≡ last_date (row ∷ rows)
last_from row [] = refl
last_from row (other ∷ rows) = last_from other rows

last_same : (rows : List StoredRow) → last_or None (dates_of rows) ≡ last_date rows
last_same [] = refl
last_same (row ∷ rows) = last_from row rows

-- where the next page begins, there is more, and it is after the last row
pub next_is_last : (rows : List StoredRow) (more : Bool) (date : ℕ) → next_of rows more ≡ Some date → (more ≡ true) × (last_date rows ≡ Some date)
next_is_last rows true date same = (refl, sym (last_same rows) ∙ same)
next_is_last rows false date same = absurd (cc same)

in_first : (row : StoredRow) (rows : List StoredRow) → Contains (row ∷ rows) row
in_first row rows = Contains-append_left (row ∷ []) rows row (Contains-push [] row)

in_rest : (first : StoredRow) (rows : List StoredRow) (row : StoredRow) → Contains rows row → Contains (first ∷ rows) row
in_rest first rows row held = Contains-append_right (first ∷ []) rows row held

-- the last date is that of a row
last_row : (rows : List StoredRow) (date : ℕ) → last_date rows ≡ Some date → (row : StoredRow) × Contains rows row × (row.date ≡ date)
last_row [] date same = absurd (cc same)
last_row (row ∷ []) date same = (row, in_first row [], cc same)
last_row (row ∷ other ∷ rows) date same =
    let its = last_row (other ∷ rows) date same in (its.0, in_rest row (other ∷ rows) its.0 its.1, its.2)

some_last : (row : StoredRow) (rows : List StoredRow) → last_date (row ∷ rows) ≡ None → ⊥
some_last row [] same = absurd (cc same)
some_last row (other ∷ rows) same = some_last other rows same

-- ---- a page

-- the last date of a page is within those that there are
pub last_within : (store : StoreState) (collection : ℕ) (only : Option Id) (query : Query) (page : List StoredRow) (more : Bool) (date : ℕ) → IsOrdered store
    → IsPage store.rows collection only query page more → last_date page ≡ Some date → date ≤ LAST_DATE
last_within store collection only query page more date ordered its same =
    let last = last_row page date same in
    let met = subst (λ (rows : List StoredRow). Contains rows last.0) (sym its.split) (Contains-append_left page its.rest last.0 last.1) in
    let held : Contains store.rows last.0 = ((its.meeting_are.each last.0).0 met).0 in
    let marked : last.0.date ≤ store.watermark = All-contains (λ (row : StoredRow). row.date ≤ store.watermark) store.rows last.0 ordered.dated.marked held in
    let most : store.watermark ≤ LAST_DATE = ordered.within in
    subst (λ (d : ℕ). d ≤ LAST_DATE) last.2 (omega (arith, marked, most))

some_size : (limit : Option ℕ) → IfSome limit (λ n. 0 < n) → 1 ≤ min (unwrap_or limit 100) 100
some_size None positive = omega arith
some_size (Some n) positive = omega (arith, positive)

none_last : (rows : List StoredRow) → last_date rows ≡ None → rows ≡ []
none_last [] same = refl
none_last (row ∷ rows) same = absurd (some_last row rows same)

-- where it leaves some, a page has a row
ends : (query : Query) (page rest : List StoredRow) → 1 ≤ page_size query → true ≡ nat_lt 0 (length rest)
    → ((next : StoredRow) (others : List StoredRow) → rest ≡ next ∷ others → ¬ FitsPage query (page ++ next ∷ [])) → page ≡ [] → ⊥
ends query page [] some more full none = omega (arith, ltb-true 0 0 (sym more))
ends query page (next ∷ others) some more full none =
    full next others refl (subst (λ (rows : List StoredRow). FitsPage query (rows ++ next ∷ [])) (sym none) (omega (arith, some), inl (omega arith)))

pub no_more : (store : StoreState) (collection : ℕ) (only : Option Id) (query : Query) (page : List StoredRow) (more : Bool)
    → IfSome query.limit (λ n. 0 < n) → IsPage store.rows collection only query page more → next_of page more ≡ None → more ≡ false
no_more store collection only query page false positive its none = refl
no_more store collection only query page true positive its none =
    absurd (ends query page its.rest (some_size query.limit positive) its.more_is its.full (none_last page (sym (last_same page) ∙ none)))
