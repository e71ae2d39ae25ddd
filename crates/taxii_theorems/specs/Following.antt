-- A client that follows `next` (TAXII 2.1, section 3.4). It requests a page of objects and, as long
-- as the response says that more follow, the next one, with the `next` of the response. Other
-- requests and restarts of the server may occur in between.
use Rattle.std.specs.Prelude.{◌≡◌, ◌⊎◌, ⊤, ℕ, List, [], ◌∷◌, ◌++◌, All, map, codes, length, Option, Some, None, unwrap_or}
use Rattle.std.specs.List.{Contains}
use Rattle.http_messages.specs.declared.status.Status.TheVariants.{Okay}
use Rattle.taxii_exchange.specs.declared.answer.Answer.{Answer}
use Rattle.taxii_routes.specs.declared.param.Param.TheVariants.{Next}
use Rattle.taxii_routes.specs.declared.query.Query.{Query}
use Rattle.taxii_routes.specs.Param.{param_name}
use Rattle.taxii_routes.specs.Query.{pairs_of, parameter_values}
use Rattle.taxii_rows.specs.declared.stored_row.StoredRow.{StoredRow}
use Rattle.taxii_rows.specs.StoreState.{dates_of, AscendFrom}
use Rattle.taxii_store.specs.Walk.{Stop, Wanted, AsksAlike, IsWalk, IsWanted, rows_given, last_state}
use Rattle.taxii_service.specs.Visits.{Asks, answer_at}
use Rattle.taxii_theorems.specs.Runs.{Round}

-- the body says that more follow, with this cursor of 16 characters
abbrev pub GivesNextCursor : Answer → List ℕ → Type 0
GivesNextCursor answer next = (length next ≡ 16) × (rest : List ℕ) × (answer.body ≡ Some (codes "{\"more\":true,\"next\":\"" ++ (next ++ rest)))

-- the body says that no more follow
abbrev pub EndsPaging : Answer → Type 0
EndsPaging answer = (rest : List ℕ) × (answer.body ≡ Some (codes "{\"more\":false" ++ rest))

-- the values of `next` that a client sends: the one it received, and none at first
abbrev pub sent : Option (List ℕ) → List (List ℕ)
sent None = []
sent (Some next) = next ∷ []

-- a round in which the client requested what it wants, with this `next`, and got a 200
pub record IsFetch (wanted : Wanted) (next : Option (List ℕ)) (round : Round) : Type 0 where
  pub okay : round.exchange.answer.status ≡ Okay
  pub query : Query
  pub asks : Asks round.config round.exchange.request wanted.collection wanted.only query
  pub alike : AsksAlike wanted.query query
  pub next_sent : parameter_values (param_name Next) (pairs_of (unwrap_or asks.text [])) ≡ sent next

-- the rounds are fetches, the first with this `next`, each other one with the `next` of the
-- response before; the last response says that no more follow
abbrev pub FetchFrom : Wanted → Option (List ℕ) → Round → List Round → Type 0
FetchFrom wanted next round [] = IsFetch wanted next round × EndsPaging round.exchange.answer
FetchFrom wanted next round (other ∷ rounds) =
    IsFetch wanted next round × (told : List ℕ) × GivesNextCursor round.exchange.answer told × FetchFrom wanted (Some told) other rounds

-- the first are some of the second, in their order
abbrev pub AreAmongRounds : List Round → List Round → Type 0
AreAmongRounds [] rounds = ⊤
AreAmongRounds (round ∷ some) [] = ⊥
AreAmongRounds (round ∷ some) (first ∷ rounds) = ((round ≡ first) × AreAmongRounds some rounds) ⊎ AreAmongRounds (round ∷ some) rounds

-- a client followed `next` among the rounds of a server
pub record HasFollowed (wanted : Wanted) (rounds : List Round) (first : Round) (others : List Round) : Type 0 where
  pub among : AreAmongRounds (first ∷ others) rounds
  pub start : wanted.query.next ≡ None
  pub fetches : FetchFrom wanted None first others

-- what the client received: the pages of a walk, each of the store at that time. They give each row
-- once, in the order of dates. They give only requested rows, and every requested row that is still
-- stored at the last page
pub record ReceivesEachRow (wanted : Wanted) (fetches : List Round) : Type 0 where
  pub first : Stop
  pub others : List Stop
  pub walk : IsWalk wanted first others
  pub answers : map (λ round. round.exchange.answer) fetches ≡ map answer_at (first ∷ others)
  pub states : map (λ round. round.exchange.before.library) fetches ≡ map (λ stop. stop.state) (first ∷ others)
  pub once : AscendFrom 1 (dates_of (rows_given first others))
  pub asked : All (IsWanted wanted) (rows_given first others)
  pub whole : (row : StoredRow) → Contains (last_state first others).rows row → IsWanted wanted row → Contains (rows_given first others) row
