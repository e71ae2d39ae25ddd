-- Walks among the requests of a server: a client requests a page of objects and, as long as the
-- response says that more follow, the next one, with the `next` of that response (TAXII 2.1,
-- sections 3.4, 5.4 and 5.6). Other requests may occur in between.
use Rattle.std.specs.Prelude.{◌≡◌, ◌⊎◌, ⊤, ℕ, List, [], ◌∷◌, All, map, true, false, Option, Some, None, unwrap_or}
use Rattle.std.specs.List.{Contains}
use Rattle.stix_ids.specs.declared.id.Id.{Id}
use Rattle.stix_ids.specs.Identifier.{IsTextOfId}
use Rattle.http_messages.specs.declared.method.Method.TheVariants.{Get}
use Rattle.http_messages.specs.declared.request.Request.{Request}
use Rattle.http_messages.specs.declared.status.Status.TheVariants.{Okay}
use Rattle.taxii_exchange.specs.declared.answer.Answer.{Answer}
use Rattle.taxii_routes.specs.declared.query.Query.{Query}
use Rattle.taxii_routes.specs.declared.route.Route.{Route}
use Rattle.taxii_routes.specs.declared.route.Route.TheVariants.{Objects, Object}
use Rattle.taxii_routes.specs.Query.{pairs_of, IsQueryOf}
use Rattle.taxii_routes.specs.Route.{IsRoutePath}
use Rattle.taxii_routes.specs.Target.{IsTargetOf}
use Rattle.taxii_rows.specs.declared.stored_row.StoredRow.{StoredRow}
use Rattle.taxii_rows.specs.StoreState.{dates_of, AscendFrom}
use Rattle.taxii_bodies.specs.declared.collections.CollectionInfo.{CollectionInfo}
use Rattle.taxii_bodies.specs.Envelope.{envelope_text}
use Rattle.taxii_exchange.specs.declared.config.Config.{Config}
use Rattle.taxii_exchange.specs.AnswersToRequests.{page_answer}
use Rattle.taxii_service.specs.Finding.{NamesCollection}
use Rattle.taxii_service.specs.Reading.{object_query}
use Rattle.taxii_store.specs.Page.{IsPage}
use Rattle.taxii_store.specs.Walk.{Stop, Wanted, AsksAlike, IsWanted, last_date, rows_given, last_state}
use Rattle.taxii_service.specs.Exchanges.{Exchange}

-- all objects of a collection are requested
abbrev pub AsksForAll : Config → Route → Query → ℕ → Option Id → Query → Type 0
AsksForAll config route parsed collection only query =
    (id : List ℕ) × (info : CollectionInfo) × (route ≡ Objects id) × NamesCollection id config.collections info
    × (collection ≡ info.id) × (only ≡ None) × (query ≡ parsed)

-- one object of a collection is requested, and then its type and its identifier are not requested
-- again
abbrev pub AsksForOne : Config → Route → Query → ℕ → Option Id → Query → Type 0
AsksForOne config route parsed collection only query =
    (name text : List ℕ) × (info : CollectionInfo) × (id : Id) × (route ≡ Object name text) × NamesCollection name config.collections info
    × IsTextOfId text id × (collection ≡ info.id) × (only ≡ Some id) × (query ≡ object_query parsed)

-- a GET of objects, with what its query asks for
pub record Asks (config : Config) (request : Request) (collection : ℕ) (only : Option Id) (query : Query) : Type 0 where
  pub path : List ℕ
  pub text : Option (List ℕ)
  pub route : Route
  pub parsed : Query
  pub get : request.method ≡ Get
  pub target_is : IsTargetOf request.target path text
  pub route_is : IsRoutePath path route
  pub query_is : IsQueryOf (pairs_of (unwrap_or text [])) parsed
  pub asks : AsksForAll config route parsed collection only query ⊎ AsksForOne config route parsed collection only query

-- an exchange is a stop of a walk: what the walk asks for, from that date on, was answered with
-- 200, and the stop has the page
pub record IsVisit (config : Config) (wanted : Wanted) (next : Option ℕ) (e : Exchange) (stop : Stop) : Type 0 where
  pub okay : e.answer.status ≡ Okay
  pub asks : Asks config e.request wanted.collection wanted.only stop.query
  pub alike : AsksAlike wanted.query stop.query
  pub continues : stop.query.next ≡ next
  pub state : stop.state ≡ e.before.library
  pub page : IsPage stop.state.rows wanted.collection wanted.only stop.query stop.page stop.more

-- the exchanges are the stops of a walk, from that date on: more follows at each but the last, and
-- the next one continues after its page
abbrev pub VisitFrom : Config → Wanted → Option ℕ → List Exchange → Stop → List Stop → Type 0
VisitFrom config wanted next [] stop stops = ⊥
VisitFrom config wanted next (e ∷ exchanges) stop [] = IsVisit config wanted next e stop × (stop.more ≡ false) × (exchanges ≡ [])
VisitFrom config wanted next (e ∷ exchanges) stop (other ∷ stops) =
    IsVisit config wanted next e stop × (stop.more ≡ true) × VisitFrom config wanted (last_date stop.page) exchanges other stops

-- the first are some of the second, in their order
abbrev pub Among : List Exchange → List Exchange → Type 0
Among [] exchanges = ⊤
Among (e ∷ some) [] = ⊥
Among (e ∷ some) (first ∷ exchanges) = ((e ≡ first) × Among some exchanges) ⊎ Among (e ∷ some) exchanges

-- a walk among the requests that were served
pub record IsWalkAmong (config : Config) (exchanges : List Exchange) (wanted : Wanted) (visited : List Exchange) (first : Stop) (others : List Stop) : Type 0 where
  pub among : Among visited exchanges
  pub start : wanted.query.next ≡ None
  pub visits : VisitFrom config wanted None visited first others

-- the answer with the page of a stop
abbrev pub answer_at : Stop → Answer
answer_at stop = page_answer stop.page (envelope_text stop.page stop.more)

-- the theorem about a walk: its responses have its pages. They give each row once, in the order of
-- dates. They give only requested rows, and every requested row that is still stored at the last
-- page
pub record SkipsNoRow (wanted : Wanted) (visited : List Exchange) (first : Stop) (others : List Stop) : Type 0 where
  pub answers : map (λ e. e.answer) visited ≡ map answer_at (first ∷ others)
  pub once : AscendFrom 1 (dates_of (rows_given first others))
  pub asked : All (IsWanted wanted) (rows_given first others)
  pub whole : (row : StoredRow) → Contains (last_state first others).rows row → IsWanted wanted row → Contains (rows_given first others) row

-- the theorem holds for every walk among the requests
abbrev pub WalksSkipNoRow : Config → List Exchange → Type 0
WalksSkipNoRow config exchanges = (wanted : Wanted) (visited : List Exchange) (first : Stop) (others : List Stop)
    → IsWalkAmong config exchanges wanted visited first others → SkipsNoRow wanted visited first others
