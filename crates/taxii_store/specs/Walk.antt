-- Walks: a client asks for a page, and then for the next one as long as there is more (TAXII 2.1,
-- section 3.4). Between two pages anything may be added and deleted.
use Rattle.std.specs.Prelude.{◌≡◌, ℕ, ◌<◌, List, [], ◌∷◌, ◌++◌, Bool, true, false, Option, Some, None, IfSome}
use Rattle.std.specs.List.{Contains}
use Rattle.stix_ids.specs.declared.id.Id.{Id}
use Rattle.stix_ids.specs.declared.pick.Pick.TheVariants.{All}
use Rattle.taxii_rows.specs.declared.stored_row.StoredRow.{StoredRow}
use Rattle.taxii_rows.specs.StoreState.{StoreState}
use Rattle.taxii_routes.specs.declared.query.Query.{Query}
use Rattle.taxii_store.specs.Meeting.{IsAskedFor, picks_of}
use Rattle.taxii_store.specs.Page.{IsPage}
use Rattle.taxii_store.specs.History.{IsDated, IsHistory}

-- a stop of a walk: the state of the store, the query, and its page with whether more follows
pub record Stop : Type 0 where
  pub state : StoreState
  pub query : Query
  pub page : List StoredRow
  pub more : Bool

-- what a walk asks for at each stop: a collection, the one object of the path, and what the queries
-- have in common
pub record Wanted : Type 0 where
  pub collection : ℕ
  pub only : Option Id
  pub query : Query

-- the query asks for all versions, and for what the others of the walk ask; its limit may be
-- another
pub record AsksAlike (wanted query : Query) : Type 0 where
  pub all : Contains (picks_of query) All
  pub added_after : query.added_after ≡ wanted.added_after
  pub ids : query.ids ≡ wanted.ids
  pub kinds : query.kinds ≡ wanted.kinds
  pub specs : query.specs ≡ wanted.specs
  pub limit : IfSome query.limit (λ limit. 0 < limit)

-- the page of a query that continues after a date
pub record IsStop (wanted : Wanted) (next : Option ℕ) (stop : Stop) : Type 0 where
  pub dated : IsDated stop.state
  pub alike : AsksAlike wanted.query stop.query
  pub continues : stop.query.next ≡ next
  pub page : IsPage stop.state.rows wanted.collection wanted.only stop.query stop.page stop.more

-- the date of the last of some rows
abbrev pub last_date : List StoredRow → Option ℕ
last_date [] = None
last_date (row ∷ []) = Some row.date
last_date (row ∷ other ∷ rows) = last_date (other ∷ rows)

-- the stops of a walk in order, from that date on: more follows at each but the last, and the next
-- one continues after its page
abbrev pub GoesFrom : Wanted → Option ℕ → Stop → List Stop → Type 0
GoesFrom wanted next stop [] = IsStop wanted next stop × (stop.more ≡ false)
GoesFrom wanted next stop (other ∷ stops) =
    IsStop wanted next stop × (stop.more ≡ true) × IsHistory stop.state other.state × GoesFrom wanted (last_date stop.page) other stops

-- a walk: the first of its queries has no `next`
pub record IsWalk (wanted : Wanted) (first : Stop) (others : List Stop) : Type 0 where
  pub start : wanted.query.next ≡ None
  pub goes : GoesFrom wanted None first others

-- the rows of the pages, one page after the other
abbrev pub rows_given : Stop → List Stop → List StoredRow
rows_given stop [] = stop.page
rows_given stop (other ∷ stops) = stop.page ++ rows_given other stops

-- the store as it is at the last page
abbrev pub last_state : Stop → List Stop → StoreState
last_state stop [] = stop.state
last_state stop (other ∷ stops) = last_state other stops

-- a row is one that the walk asks for, by all but where a page begins
abbrev pub IsWanted : Wanted → StoredRow → Type 0
IsWanted wanted row = IsAskedFor wanted.collection wanted.only wanted.query row
