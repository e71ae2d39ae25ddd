-- What a walk over the candidates has found of a page.
use Rattle.std.proofs.Common.{◌≡◌, ◌⊎◌, inl, inr, ℕ, zero, suc, ◌+◌, ◌<◌, ◌≤◌, List, [], ◌∷◌, ◌++◌, length, take, drop, get_or, Bool, true, false, cond, All, filter, Option, refl, sym, ap, subst, ◌∙◌, arith, append-nil, take-append-drop}
use Rattle.std.specs.List.{Contains}
use Rattle.std.proofs.lemmas.Bool.{false≢true, lt-ltb, cond-true, cond-false}
use Rattle.std.proofs.lemmas.List.{append_assoc}
use Rattle.std.proofs.lemmas.List.Elements.{All-weaker, All-contains, All-contains_itself, Contains-append_left, filter-append, filter_more}
use Rattle.stix_ids.specs.declared.id.Id.{Id}
use Rattle.taxii_rows.specs.declared.stored_row.StoredRow.{StoredRow}
use Rattle.taxii_rows.specs.StoreState.{StoreState, dates_of, AscendFrom}
use Rattle.taxii_rows.specs.SoundRow.{IsSoundRow, IsSoundState}
use Rattle.taxii_routes.specs.declared.query.Query.{Query}
use Rattle.taxii_store.specs.Meeting.{MeetsQuery}
use Rattle.taxii_store.specs.Page.{FitsPage, AreAllWhere, IsPage}
use Rattle.taxii_store.specs.inner.Candidates.{AreChosen}
use Rattle.taxii_store.proofs.SettledLemmas.{Settled, settled_meets, cons_cases}

-- ---- what a test leaves of some rows

one_more : (test : StoredRow → Bool) (xs : List StoredRow) (i : ℕ) (row : StoredRow) → i < length xs → row ≡ get_or xs i row → test row ≡ true
    → filter test (take (i + 1) xs) ≡ filter test (take i xs) ++ row ∷ []
one_more test xs i row within is holds =
    filter_more test xs i row within
    ∙ ap (λ part. filter test (take i xs) ++ part)
    (cond-true (test (get_or xs i row)) (get_or xs i row ∷ []) [] (ap test (sym is) ∙ holds) ∙ ap (λ (r : StoredRow). r ∷ []) (sym is))

none_more : (test : StoredRow → Bool) (xs : List StoredRow) (i : ℕ) (row : StoredRow) → i < length xs → row ≡ get_or xs i row → test row ≡ false
    → filter test (take (i + 1) xs) ≡ filter test (take i xs)
none_more test xs i row within is fails =
    filter_more test xs i row within
    ∙ ap (λ part. filter test (take i xs) ++ part) (cond-false (test (get_or xs i row)) (get_or xs i row ∷ []) [] (ap test (sym is) ∙ fails))
    ∙ append-nil (filter test (take i xs))

kept_in : (stays : Bool) (x y : StoredRow) (xs : List StoredRow) → (x ≡ y) × (stays ≡ true) ⊎ Contains xs y → Contains (cond stays (x ∷ xs) xs) y
kept_in true x y xs (inl (same, _)) = (zero, omega arith, same)
kept_in true x y xs (inr (k, within, is)) = (suc k, omega (arith, within), is)
kept_in false x y xs (inl (_, wrong)) = absurd (false≢true wrong)
kept_in false x y xs (inr there) = there

kept_cases : (stays : Bool) (x y : StoredRow) (xs : List StoredRow) → Contains (cond stays (x ∷ xs) xs) y → (x ≡ y) × (stays ≡ true) ⊎ Contains xs y
kept_cases true x y xs there = elim (cons_cases x xs y there) [ inl same ↦ inl (same, refl) | inr rest ↦ inr rest ]
kept_cases false x y xs there = inr there

in_kept : (test : StoredRow → Bool) (xs : List StoredRow) (y : StoredRow) → Contains xs y → test y ≡ true → Contains (filter test xs) y
in_kept test [] y there holds = absurd (omega (arith, there.1))
in_kept test (x ∷ xs) y there holds = elim (cons_cases x xs y there) [
  | inl same ↦ kept_in (test x) x y (filter test xs) (inl (same, ap test same ∙ holds))
  | inr rest ↦ kept_in (test x) x y (filter test xs) (inr (in_kept test xs y rest holds))
]

from_kept : (test : StoredRow → Bool) (xs : List StoredRow) (y : StoredRow) → Contains (filter test xs) y → Contains xs y × (test y ≡ true)
from_kept test [] y there = absurd (omega (arith, there.1))
from_kept test (x ∷ xs) y there = elim (kept_cases (test x) x y (filter test xs) there) [
  | inl here ↦ ((zero, omega arith, here.0), ap test (sym here.0) ∙ here.1)
  | inr rest ↦ let found = from_kept test xs y rest in ((suc found.0.0, omega (arith, found.0.1), found.0.2), found.1)
]

pub from_earlier : (least then : ℕ) (rows : List StoredRow) → least ≤ then → AscendFrom then (dates_of rows) → AscendFrom least (dates_of rows)
from_earlier least then [] earlier ascend = tt
from_earlier least then (row ∷ rows) earlier ascend = (omega (arith, ascend.0, earlier), ascend.1)

kept_ascend : (least : ℕ) (stays : Bool) (row : StoredRow) (rows : List StoredRow) → least ≤ row.date → AscendFrom (row.date + 1) (dates_of rows)
    → AscendFrom least (dates_of (cond stays (row ∷ rows) rows))
kept_ascend least true row rows here ascend = (here, ascend)
kept_ascend least false row rows here ascend = from_earlier least (row.date + 1) rows (omega (arith, here)) ascend

ascend_kept : (least : ℕ) (test : StoredRow → Bool) (rows : List StoredRow) → AscendFrom least (dates_of rows) → AscendFrom least (dates_of (filter test rows))
ascend_kept least test [] ascend = tt
ascend_kept least test (row ∷ rows) ascend = kept_ascend least (test row) row (filter test rows) ascend.0 (ascend_kept (row.date + 1) test rows ascend.1)

-- a chosen row is one of the store's
pub chosen_own : (rows : List StoredRow) (collection : ℕ) (only : Option Id) (query : Query) (chosen : List StoredRow) (i : ℕ) (row : StoredRow)
    → AreChosen rows collection only query chosen → i < length chosen → row ≡ get_or chosen i row → Contains rows row
chosen_own rows collection only query chosen i row are within is = are.own row (i, within, sym is)

-- ---- the rows that meet a query

abbrev pub answer : {P : Type 0} → Settled P → Bool
answer (inl holds) = true
answer (inr never) = false

yes_is : {P : Type 0} (settled : Settled P) → P → answer settled ≡ true
yes_is (inl holds) p = refl
yes_is (inr never) p = absurd (never p)

no_is : {P : Type 0} (settled : Settled P) → ¬ P → answer settled ≡ false
no_is (inl holds) n = absurd (n holds)
no_is (inr never) n = refl

it_holds : {P : Type 0} (settled : Settled P) → answer settled ≡ true → P
it_holds (inl holds) is = holds
it_holds (inr never) is = absurd (false≢true is)

abbrev pub meets_test : List StoredRow → ℕ → Option Id → Query → StoredRow → Bool
meets_test rows collection only query row = answer (settled_meets rows collection only query row)

-- those of some rows that meet a query on a store
unfoldable pub meeting : List StoredRow → ℕ → Option Id → Query → List StoredRow → List StoredRow
meeting rows collection only query part = filter (meets_test rows collection only query) part

module _ (rows : List StoredRow) (collection : ℕ) (only : Option Id) (query : Query) where
  pub meeting_none : [] ≡ meeting rows collection only query []
  unfolding meeting
  meeting_none = refl

  pub meeting_more : (later : List StoredRow) (i : ℕ) (row : StoredRow) → i < length later → row ≡ get_or later i row → MeetsQuery rows collection only query row
      → meeting rows collection only query (take (i + 1) later) ≡ meeting rows collection only query (take i later) ++ row ∷ []
  unfolding meeting
  meeting_more later i row within is meets =
      one_more (meets_test rows collection only query) later i row within is (yes_is (settled_meets rows collection only query row) meets)

  pub meeting_same : (later : List StoredRow) (i : ℕ) (row : StoredRow) → i < length later → row ≡ get_or later i row → ¬ MeetsQuery rows collection only query row
      → meeting rows collection only query (take (i + 1) later) ≡ meeting rows collection only query (take i later)
  unfolding meeting
  meeting_same later i row within is never =
      none_more (meets_test rows collection only query) later i row within is (no_is (settled_meets rows collection only query row) never)

  -- those among the chosen ones are all that meet it
  meeting_all : (chosen : List StoredRow) → AreChosen rows collection only query chosen
      → AreAllWhere (MeetsQuery rows collection only query) rows (meeting rows collection only query chosen)
  unfolding meeting
  meeting_all chosen are = record {
    ascend = ascend_kept 1 (meets_test rows collection only query) chosen are.ascend;
    each = λ row. (
      λ there. let found = from_kept (meets_test rows collection only query) chosen row there in
          (are.own row found.0, it_holds (settled_meets rows collection only query row) found.1),
      λ h. in_kept (meets_test rows collection only query) chosen row (are.every row h.0 h.1) (yes_is (settled_meets rows collection only query row) h.1),
    );
  }

  meeting_parts : (xs ys : List StoredRow) → meeting rows collection only query (xs ++ ys) ≡ meeting rows collection only query xs ++ meeting rows collection only query ys
  unfolding meeting
  meeting_parts xs ys = filter-append (meets_test rows collection only query) xs ys

  -- ---- the page

  -- at the end of the chosen ones it has all of them
  pub page_whole : (chosen page : List StoredRow) → AreChosen rows collection only query chosen
      → page ≡ meeting rows collection only query chosen → FitsPage query page → IsPage rows collection only query page false
  page_whole chosen page are found fits = record {
    meeting = meeting rows collection only query chosen;
    meeting_are = meeting_all chosen are;
    rest = [];
    split = sym found ∙ sym (append-nil page);
    fits = fits;
    full = λ next others none. absurd (cc none);
    more_is = refl;
  }

  -- at one more than it can have, it has the first of them
  pub page_full : (chosen page : List StoredRow) (i : ℕ) (row : StoredRow) → AreChosen rows collection only query chosen
      → i < length chosen → row ≡ get_or chosen i row → MeetsQuery rows collection only query row
      → page ≡ meeting rows collection only query (take i chosen) → FitsPage query page → ¬ FitsPage query (page ++ row ∷ []) → IsPage rows collection only query page true
  page_full chosen page i row are within is meets found fits full = record {
    meeting = meeting rows collection only query chosen;
    meeting_are = meeting_all chosen are;
    rest = row ∷ behind;
    split = all;
    fits = fits;
    full = λ next others same. let first : row ≡ next = cc same in subst (λ (r : StoredRow). ¬ FitsPage query (page ++ r ∷ [])) first full;
    more_is = sym (lt-ltb 0 (length (row ∷ behind)) (omega arith));
  }
    where
      behind : List StoredRow
      behind = meeting rows collection only query (drop (i + 1) chosen)

      all : meeting rows collection only query chosen ≡ page ++ row ∷ behind
      all = ap (meeting rows collection only query) (sym (take-append-drop (i + 1) chosen))
          ∙ meeting_parts (take (i + 1) chosen) (drop (i + 1) chosen)
          ∙ ap (λ xs. xs ++ behind) (meeting_more chosen i row within is meets ∙ ap (λ xs. xs ++ row ∷ []) (sym found))
          ∙ append_assoc page (row ∷ []) behind

-- ---- what a page is made of

pub page_stored : (rows : List StoredRow) (collection : ℕ) (only : Option Id) (query : Query) (page : List StoredRow) (more : Bool)
    → IsPage rows collection only query page more → All (Contains rows) page
page_stored rows collection only query page more it =
    All-weaker (Contains page) (Contains rows)
    (λ row there. ((it.meeting_are.each row).0 (subst (λ (xs : List StoredRow). Contains xs row) (sym it.split) (Contains-append_left page it.rest row there))).0)
    page (All-contains_itself page)

pub page_sound : (state : StoreState) (collection : ℕ) (only : Option Id) (query : Query) (page : List StoredRow) (more : Bool)
    → IsSoundState state → IsPage state.rows collection only query page more → All IsSoundRow page
page_sound state collection only query page more sound it =
    All-weaker (Contains state.rows) IsSoundRow (λ row there. All-contains IsSoundRow state.rows row sound.rows there)
    page (page_stored state.rows collection only query page more it)
