-- A client that pulls a collection from a server, with a new connection per page: each page is a
-- round that the server answered (TAXII 2.1, sections 3.4 and 5.4). Other requests and restarts of
-- the server may occur in between.
use Rattle.std.specs.Prelude.{◌≡◌, ⊤, ℕ, ◌<◌, ◌^◌, Bool, List, [], ◌∷◌, ◌++◌, All, map, length, Option, Some}
use Rattle.std.specs.List.{Contains}
use Rattle.taxii_exchange.specs.Answers.{IsAnswerText}
use Rattle.taxii_rows.specs.declared.stored_row.StoredRow.{StoredRow}
use Rattle.taxii_rows.specs.StoreState.{dates_of, AscendFrom}
use Rattle.taxii_rows.specs.SoundRow.{IsSoundState}
use Rattle.taxii_store.specs.Walk.{Stop, Wanted, IsWanted, rows_given, last_state}
use Rattle.taxii_theorems.specs.Runs.{Round}
use Rattle.taxii_theorems.specs.Following.{AreAmongRounds}
use Rattle.taxii_client.specs.Environment.{ClientLinkView}
use Rattle.taxii_client.specs.Pulls.{RequestsNext, Page, cursor_after}
use Rattle.taxii_client.specs.Telling.{told_of_pages, bad_in_pages}
use Rattle.taxii_client.specs.declared.target.Target.{Target}
use Rattle.taxii_client.specs.declared.cursor.Cursor.{Cursor}
use Rattle.taxii_client.specs.declared.cursor.Cursor.TheVariants.{First}
use Rattle.taxii_theorems.specs.Asking.{IsServersOwn, IsAnswered}
use Rattle.taxii_theorems.specs.Reading.{stored_lines}

-- the round answers what the client writes with this `next`, and the link began with that answer,
-- of a size that memory can have
pub record IsServed {L : Type 0} (view : L → ClientLinkView) (target : Target) (next : Option (List ℕ)) (page : Page L) (round : Round) : Type 0 where
  pub answered : IsAnswered target next round
  pub close : Bool
  pub text : List ℕ
  pub text_is : IsAnswerText round.exchange.answer close text
  pub size : length text < 2 ^ 64
  pub later : List ℕ
  pub bytes : (view page.link.given).left ≡ Some (text ++ later)

-- page by page, each requested with the `next` of the page before
abbrev pub ServeFrom : {L : Type 0} → (L → ClientLinkView) → Target → Cursor → List (Page L) → List Round → Type 0
ServeFrom view target cursor [] [] = ⊤
ServeFrom view target cursor [] (round ∷ rounds) = ⊥
ServeFrom view target cursor (page ∷ pages) [] = ⊥
ServeFrom view target cursor (page ∷ pages) (round ∷ rounds) = (next : Option (List ℕ)) × RequestsNext cursor next × IsServed view target next page round
    × ServeFrom view target (cursor_after page.envelope) pages rounds

-- the pages are these rounds of a server, each of which found a sound store, as every library is;
-- the first asked for the first page
pub record AreServed {L : Type 0} (view : L → ClientLinkView) (target : Target) (pages : List (Page L)) (all : List Round) (rounds : List Round) : Type 0 where
  pub own : IsServersOwn target
  pub among : AreAmongRounds rounds all
  pub serve : ServeFrom view target First pages rounds
  pub sound : All (λ round. IsSoundState round.exchange.before.library) rounds

-- what the client writes: a line for each row of a walk over the store as it was at each page, and
-- no entry is invalid. The walk gives each row once, in the order of dates. It gives only requested
-- rows, and every requested row that is still stored at the last page
pub record WritesEachRow {L : Type 0} (wanted : Wanted) (pages : List (Page L)) (rounds : List Round) : Type 0 where
  pub first : Stop
  pub others : List Stop
  pub states : map (λ round. round.exchange.before.library) rounds ≡ map (λ stop. stop.state) (first ∷ others)
  pub lines : told_of_pages pages ≡ stored_lines (rows_given first others)
  pub none_bad : bad_in_pages pages ≡ 0
  pub once : AscendFrom 1 (dates_of (rows_given first others))
  pub asked : All (IsWanted wanted) (rows_given first others)
  pub whole : (row : StoredRow) → Contains (last_state first others).rows row → IsWanted wanted row → Contains (rows_given first others) row
