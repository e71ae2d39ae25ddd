-- A walk gives each row once, only such as are asked for, and all that are left at its end.
use Rattle.std.proofs.Common.{◌≡◌, inl, inr, ℕ, ◌+◌, ◌<◌, ◌≤◌, zero, List, [], ◌∷◌, ◌++◌, true, Option, Some, None, refl, sym, ap, subst, ◌∙◌, arith, append-nil}
use Rattle.std.specs.Prelude.{ℤ, pos, ◌*◌, ◌<ℤ◌, codes, min, unwrap_or, IfSome}
use Rattle.std.specs.List.{Contains}
use Rattle.std.proofs.lemmas.List.Elements.{All-contains, Contains-append_left, Contains-append_right, Contains-append_cases}
use Rattle.taxii_rows.specs.declared.stored_row.StoredRow.{StoredRow}
use Rattle.taxii_rows.specs.Picking.{IsPicked}
use Rattle.stix_ids.specs.declared.id.Id.{Id}
use Rattle.stix_ids.specs.declared.pick.Pick.TheVariants as pick
use Rattle.taxii_routes.specs.declared.query.Query.{Query}
use Rattle.taxii_store.specs.Meeting.{IsAskedFor, picks_of}
use Rattle.taxii_store.specs.Walk.{Stop, Wanted, AsksAlike, IsStop, GoesFrom, IsWanted, rows_given, last_state, last_date}
use Rattle.taxii_store.proofs.RowsLemmas.{Ascends, compare, least, last_or, ascends_append, ascends_front, ascends_past, in_front, last_of}
use Rattle.taxii_store.proofs.FitLemmas.{none_left, some_taken}
use Rattle.taxii_store.proofs.HistoryLemmas.{Later, later_itself, later_both, history}

-- the date after which a page goes on
abbrev pub cut : Option ℕ → ℕ
cut None = zero
cut (Some date) = date

after_cut : (next : Option ℕ) (r : StoredRow) → cut next < r.date → IfSome next (λ date. date < r.date)
after_cut None r h = tt
after_cut (Some date) r h = h

past_cut : (next : Option ℕ) (r : StoredRow) → 1 ≤ r.date → IfSome next (λ date. date < r.date) → cut next < r.date
past_cut None r some h = omega (arith, some)
past_cut (Some date) r some h = h

-- what is asked of a row but for where the page begins
to_wanted : (wanted : Wanted) (query : Query) (r : StoredRow) → wanted.query.next ≡ None → AsksAlike wanted.query query
    → IsAskedFor wanted.collection wanted.only query r → IsWanted wanted r
to_wanted wanted query r start alike asked = record {
  its = asked.its;
  one = asked.one;
  added = subst (λ (o : Option ℤ). IfSome o (λ instant. instant <ℤ pos (1000 * r.date))) alike.added_after asked.added;
  next = subst (λ (o : Option ℕ). IfSome o (λ date. date < r.date)) (sym start) tt;
  ids = subst (λ (o : Option (List Id)). IfSome o (λ ids. Contains ids r.id)) alike.ids asked.ids;
  kinds = subst (λ (o : Option (List (List ℕ))). IfSome o (λ kinds. Contains kinds r.id.kind)) alike.kinds asked.kinds;
  specs = subst (λ (o : Option (List (List ℕ))). IfSome o (λ specs. Contains specs (codes "2.1"))) alike.specs asked.specs;
}

from_wanted : (wanted : Wanted) (query : Query) (next : Option ℕ) (r : StoredRow) → AsksAlike wanted.query query → query.next ≡ next
    → cut next < r.date → IsWanted wanted r → IsAskedFor wanted.collection wanted.only query r
from_wanted wanted query next r alike same past asked = record {
  its = asked.its;
  one = asked.one;
  added = subst (λ (o : Option ℤ). IfSome o (λ instant. instant <ℤ pos (1000 * r.date))) (sym alike.added_after) asked.added;
  next = subst (λ (o : Option ℕ). IfSome o (λ date. date < r.date)) (sym same) (after_cut next r past);
  ids = subst (λ (o : Option (List Id)). IfSome o (λ ids. Contains ids r.id)) (sym alike.ids) asked.ids;
  kinds = subst (λ (o : Option (List (List ℕ))). IfSome o (λ kinds. Contains kinds r.id.kind)) (sym alike.kinds) asked.kinds;
  specs = subst (λ (o : Option (List (List ℕ))). IfSome o (λ specs. Contains specs (codes "2.1"))) (sym alike.specs) asked.specs;
}

picked : (query : Query) (rows : List StoredRow) (r : StoredRow) → Contains (picks_of query) pick.All → IsPicked (picks_of query) rows r
picked query rows r all = (all.0, pick.All, all.1, all.2, tt)

some_size : (limit : Option ℕ) → IfSome limit (λ n. 0 < n) → 1 ≤ min (unwrap_or limit 100) 100
some_size None h = omega arith
some_size (Some n) h = omega (arith, h)

-- the last of some rows
last_dates : (c : ℕ) (x : StoredRow) (xs : List StoredRow) → cut (last_date (x ∷ xs)) ≡ last_or c (x ∷ xs)
last_dates c x [] = refl
last_dates c x (y ∷ ys) = last_dates x.date y ys

last_date_is : (c : ℕ) (xs : List StoredRow) → ¬ (xs ≡ []) → cut (last_date xs) ≡ last_or c xs
last_date_is c [] some = absurd (some refl)
last_date_is c (x ∷ xs) some = last_dates c x xs

-- ---- one stop

-- the rows that meet a stop's query come after where its page begins
past : (wanted : Wanted) (next : Option ℕ) (s : Stop) (stop : IsStop wanted next s) (r : StoredRow)
    → Contains stop.page.meeting r → cut next < r.date
past wanted next s stop r h =
    let it = (stop.page.meeting_are.each r).0 h in
    past_cut next r (least 1 stop.page.meeting r stop.page.meeting_are.ascend h)
    (subst (λ (o : Option ℕ). IfSome o (λ date. date < r.date)) stop.continues it.1.asked.next)

meeting_ascends : (wanted : Wanted) (next : Option ℕ) (s : Stop) (stop : IsStop wanted next s) → Ascends (cut next + 1) stop.page.meeting
meeting_ascends wanted next s stop = ascends_past 1 (cut next) stop.page.meeting stop.page.meeting_are.ascend (past wanted next s stop)

all_ascend : (wanted : Wanted) (next : Option ℕ) (s : Stop) (stop : IsStop wanted next s) → Ascends (cut next + 1) (s.page ++ stop.page.rest)
all_ascend wanted next s stop = subst (λ (xs : List StoredRow). Ascends (cut next + 1) xs) stop.page.split (meeting_ascends wanted next s stop)

page_ascends : (wanted : Wanted) (next : Option ℕ) (s : Stop) (stop : IsStop wanted next s) → Ascends (cut next + 1) s.page
page_ascends wanted next s stop = ascends_front (cut next + 1) s.page stop.page.rest (all_ascend wanted next s stop)

page_meets : (wanted : Wanted) (next : Option ℕ) (s : Stop) (stop : IsStop wanted next s) (r : StoredRow) → Contains s.page r → Contains stop.page.meeting r
page_meets wanted next s stop r h = subst (λ (xs : List StoredRow). Contains xs r) (sym stop.page.split) (Contains-append_left s.page stop.page.rest r h)

page_asked : (wanted : Wanted) (next : Option ℕ) (s : Stop) → wanted.query.next ≡ None → IsStop wanted next s
    → (r : StoredRow) → Contains s.page r → IsWanted wanted r
page_asked wanted next s start stop r h =
    to_wanted wanted s.query r start stop.alike ((stop.page.meeting_are.each r).0 (page_meets wanted next s stop r h)).1.asked

-- a row of the store that is wanted and comes after where the page begins meets the stop's query
meets_there : (wanted : Wanted) (next : Option ℕ) (s : Stop) (stop : IsStop wanted next s) (r : StoredRow)
    → Contains s.state.rows r → IsWanted wanted r → cut next < r.date → Contains stop.page.meeting r
meets_there wanted next s stop r there asked after = (stop.page.meeting_are.each r).1 (
  there,
  record {
    asked = from_wanted wanted s.query next r stop.alike stop.continues after asked;
    picked = picked s.query s.state.rows r stop.alike.all;
  },
)

-- where there is more, the page ends at a date that is at most the watermark
ends_marked : (wanted : Wanted) (next : Option ℕ) (s : Stop) → IsStop wanted next s → s.more ≡ true
    → (last_or (cut next) s.page ≤ s.state.watermark) × (cut (last_date s.page) ≡ last_or (cut next) s.page)
ends_marked wanted next s stop more = (marked, last_date_is (cut next) s.page some)
  where
    some : ¬ (s.page ≡ [])
    some = some_taken s.query s.page stop.page.rest (some_size s.query.limit stop.alike.limit) (sym more ∙ stop.page.more_is) stop.page.full

    marked : last_or (cut next) s.page ≤ s.state.watermark
    marked =
        let it = last_of (cut next) s.page some in
        let row = (stop.page.meeting_are.each it.0).0 (page_meets wanted next s stop it.0 it.1) in
        let bound = All-contains (λ (row : StoredRow). row.date ≤ s.state.watermark) s.state.rows it.0 stop.dated.marked row.0 in
        omega (arith, it.2, bound)

-- ---- the walk

came : (wanted : Wanted) (next : Option ℕ) (s : Stop) (ts : List Stop) → GoesFrom wanted next s ts → Later s.state (last_state s ts)
came wanted next s [] w = later_itself s.state
came wanted next s (t ∷ ts) w = later_both s.state t.state (last_state t ts) (history s.state t.state w.2) (came wanted (last_date s.page) t ts w.3)

pub ascends : (wanted : Wanted) (next : Option ℕ) (s : Stop) (ts : List Stop) → GoesFrom wanted next s ts → Ascends (cut next + 1) (rows_given s ts)
ascends wanted next s [] w = page_ascends wanted next s w.0
ascends wanted next s (t ∷ ts) w =
    let ends = ends_marked wanted next s w.0 w.1 in
    ascends_append (cut next + 1) (cut next) s.page (rows_given t ts) (omega arith) (page_ascends wanted next s w.0)
    (subst (λ (n : ℕ). Ascends (n + 1) (rows_given t ts)) ends.1 (ascends wanted (last_date s.page) t ts w.3))

pub asked : (wanted : Wanted) (next : Option ℕ) (s : Stop) (ts : List Stop) → wanted.query.next ≡ None → GoesFrom wanted next s ts
    → (r : StoredRow) → Contains (rows_given s ts) r → IsWanted wanted r
asked wanted next s [] start w r h = page_asked wanted next s start w.0 r h
asked wanted next s (t ∷ ts) start w r h = elim (Contains-append_cases s.page (rows_given t ts) r h) [
  | inl here ↦ page_asked wanted next s start w.0 r here
  | inr later ↦ asked wanted (last_date s.page) t ts start w.3 r later
]

pub whole : (wanted : Wanted) (next : Option ℕ) (s : Stop) (ts : List Stop) → GoesFrom wanted next s ts
    → (r : StoredRow) → Contains (last_state s ts).rows r → IsWanted wanted r → cut next < r.date → Contains (rows_given s ts) r
whole wanted next s [] w r h wish after =
    let met = meets_there wanted next s w.0 r h wish after in
    let none = none_left w.0.page.rest (sym w.1 ∙ w.0.page.more_is) in
    let all = w.0.page.split ∙ ap (λ (xs : List StoredRow). s.page ++ xs) none ∙ append-nil s.page in
    subst (λ (xs : List StoredRow). Contains xs r) all met
whole wanted next s (t ∷ ts) w r h wish after =
    elim (compare r.date (last_or (cut next) s.page)) [
      | inl upto ↦ Contains-append_left s.page (rows_given t ts) r (on_page upto)
      | inr behind ↦ Contains-append_right s.page (rows_given t ts) r
          (whole wanted (last_date s.page) t ts w.3 r h wish (subst (λ (n : ℕ). n < r.date) (sym ends.1) behind))
    ]
  where
    ends : (last_or (cut next) s.page ≤ s.state.watermark) × (cut (last_date s.page) ≡ last_or (cut next) s.page)
    ends = ends_marked wanted next s w.0 w.1

    there : r.date ≤ last_or (cut next) s.page → Contains s.state.rows r
    there upto = elim ((came wanted next s (t ∷ ts) w).rows r h) [
      | inl found ↦ found
      | inr beyond ↦ absurd (omega (arith, ends.0, beyond, upto))
    ]

    on_page : r.date ≤ last_or (cut next) s.page → Contains s.page r
    on_page upto =
        let met = meets_there wanted next s w.0 r (there upto) wish after in
        in_front (cut next + 1) (cut next) s.page w.0.page.rest r (all_ascend wanted next s w.0)
        (subst (λ (xs : List StoredRow). Contains xs r) w.0.page.split met) after upto

-- every row has a date past 0
pub dated : (wanted : Wanted) (next : Option ℕ) (s : Stop) (ts : List Stop) → GoesFrom wanted next s ts
    → (r : StoredRow) → Contains (last_state s ts).rows r → 0 < r.date
dated wanted next s [] w r h = let it = least 1 s.state.rows r w.0.dated.ascend h in omega (arith, it)
dated wanted next s (t ∷ ts) w r h = dated wanted (last_date s.page) t ts w.3 r h
