-- The visited exchanges of a walk are stops of a walk over the store, with what else was served between them as its history.
use Rattle.std.proofs.Common.{◌≡◌, inl, inr, ℕ, List, [], ◌∷◌, map, All, Bool, Option, sym, ap, subst, ◌∙◌}
use Rattle.std.proofs.lemmas.List.Elements.{All-nil, All-cons, All-head, All-tail}
use Rattle.stix_ids.specs.declared.id.Id.{Id}
use Rattle.http_messages.specs.declared.status.Status.TheVariants.{Okay}
use Rattle.taxii_exchange.specs.declared.answer.Answer.{Answer}
use Rattle.taxii_routes.specs.declared.query.Query.{Query}
use Rattle.taxii_rows.specs.declared.stored_row.StoredRow.{StoredRow}
use Rattle.taxii_rows.specs.StoreState.{StoreState}
use Rattle.taxii_bodies.specs.Envelope.{envelope_text}
use Rattle.taxii_exchange.specs.declared.config.Config.{Config}
use Rattle.taxii_exchange.specs.AnswersToRequests.{page_answer}
use Rattle.taxii_service.specs.Reading.{IsPageOf, IsEnvelope}
use Rattle.taxii_service.specs.declared.state.State.{State}
use Rattle.taxii_store.specs.History.{IsDated, IsHistory}
use Rattle.taxii_store.specs.Page.{IsPage}
use Rattle.taxii_store.specs.Walk.{Stop, Wanted, IsStop, GoesFrom, last_date}
use Rattle.taxii_service.specs.Exchanges.{Exchange, IsExchange, Follow}
use Rattle.taxii_service.specs.Visits.{Asks, IsVisit, VisitFrom, Among, answer_at}
use Rattle.taxii_service.proofs.DatedLemmas.{history_dated, no_history, history_both}
use Rattle.taxii_service.proofs.ServedLemmas.{first_history}

-- the laws of one exchange and of pages: a GET of objects that was answered with 200 has a page, and a query has one page
pub record Laws : Type 0 where
  pub paged : (config : Config) (e : Exchange) (collection : ℕ) (only : Option Id) (query : Query) → IsExchange config e → e.answer.status ≡ Okay
      → Asks config e.request collection only query → IsPageOf e.before.library.rows collection only query IsEnvelope e.answer
  pub page : (rows : List StoredRow) (collection : ℕ) (only : Option Id) (query : Query) (first second : List StoredRow) (left more : Bool)
      → IsPage rows collection only query first left → IsPage rows collection only query second more → first ≡ second
  pub more : (rows : List StoredRow) (collection : ℕ) (only : Option Id) (query : Query) (first second : List StoredRow) (left more : Bool)
      → IsPage rows collection only query first left → IsPage rows collection only query second more → left ≡ more

-- ---- the stops

is_stop : (config : Config) (wanted : Wanted) (next : Option ℕ) (e : Exchange) (stop : Stop) → IsVisit config wanted next e stop → IsDated stop.state → IsStop wanted next stop
is_stop config wanted next e stop visit dated = record {
  dated = dated;
  alike = visit.alike;
  continues = visit.continues;
  page = visit.page;
}

-- the walk goes from there, and its first stop comes later than a state of the store
pub record Reaches (wanted : Wanted) (next : Option ℕ) (state : StoreState) (stop : Stop) (stops : List Stop) : Type 0 where
  pub goes : GoesFrom wanted next stop stops
  pub history : IsHistory state stop.state

-- what is reached from a later state is reached from an earlier one
reaches_before : (wanted : Wanted) (next : Option ℕ) (state later : StoreState) (stop : Stop) (stops : List Stop) → IsHistory state later
    → Reaches wanted next later stop stops → Reaches wanted next state stop stops
reaches_before wanted next state later stop stops between reaches =
    record { goes = reaches.goes; history = history_both state later stop.state between reaches.history }

-- the first of the exchanges is the last that is visited
ends_here : (config : Config) (wanted : Wanted) (next : Option ℕ) (e : Exchange) (state : StoreState) (stop : Stop) (some : List Exchange)
    → stop.state ≡ state → IsDated state → VisitFrom config wanted next (e ∷ some) stop [] → Reaches wanted next state stop []
ends_here config wanted next e state stop some here dated (visit, no_more, last) = record {
  goes = (is_stop config wanted next e stop visit (subst IsDated (sym here) dated), no_more);
  history = no_history state stop.state here;
}

-- or the walk goes on among those after it
continues_here : (config : Config) (wanted : Wanted) (next : Option ℕ) (e : Exchange) (state later : StoreState) (stop other : Stop) (stops : List Stop) (some : List Exchange)
    → stop.state ≡ state → IsDated state → IsHistory state later → VisitFrom config wanted next (e ∷ some) stop (other ∷ stops)
    → Reaches wanted (last_date stop.page) later other stops → Reaches wanted next state stop (other ∷ stops)
continues_here config wanted next e state later stop other stops some here dated between (visit, more, visits) reaches = record {
  goes = (
    is_stop config wanted next e stop visit (subst IsDated (sym here) dated),
    more,
    subst (λ (from : StoreState). IsHistory from other.state) (sym here) (history_both state later other.state between reaches.history),
    reaches.goes,
  );
  history = no_history state stop.state here;
}

pub reached : (config : Config) (wanted : Wanted) (next : Option ℕ) (exchanges visited : List Exchange) (before after : State) (stop : Stop) (stops : List Stop)
    → All (IsExchange config) exchanges → Follow before exchanges after → IsDated before.library → Among visited exchanges
    → VisitFrom config wanted next visited stop stops → Reaches wanted next before.library stop stops
reached config wanted next exchanges [] before after stop stops each follow dated among visits = absurd visits
reached config wanted next [] (e ∷ some) before after stop stops each follow dated among visits = absurd among
reached config wanted next (first ∷ exchanges) (e ∷ some) before after stop stops each (begins, follow) dated (inr among) visits =
    let between : IsHistory before.library first.after.library = first_history config before first begins (All-head (IsExchange config) first exchanges each) in
    reaches_before wanted next before.library first.after.library stop stops between
    (reached config wanted next exchanges (e ∷ some) first.after after stop stops (All-tail (IsExchange config) first exchanges each) follow
    (history_dated before.library first.after.library between dated) among visits)
reached config wanted next (first ∷ exchanges) (e ∷ some) before after stop [] each (begins, follow) dated (inl (same, among)) visits =
    let here : stop.state ≡ before.library = visits.0.state ∙ ap (λ (one : Exchange). one.before.library) same ∙ ap (λ (state : State). state.library) begins in
    ends_here config wanted next e before.library stop some here dated visits
reached config wanted next (first ∷ exchanges) (e ∷ some) before after stop (other ∷ stops) each (begins, follow) dated (inl (same, among)) visits =
    let here : stop.state ≡ before.library = visits.0.state ∙ ap (λ (one : Exchange). one.before.library) same ∙ ap (λ (state : State). state.library) begins in
    let between : IsHistory before.library first.after.library = first_history config before first begins (All-head (IsExchange config) first exchanges each) in
    continues_here config wanted next e before.library first.after.library stop other stops some here dated between visits
    (reached config wanted (last_date stop.page) exchanges some first.after after other stops (All-tail (IsExchange config) first exchanges each) follow
    (history_dated before.library first.after.library between dated) among visits.2)

-- ---- the answers

-- an answer with a page of the stop's query has the stop's page
page_answered : Laws → (rows : List StoredRow) (collection : ℕ) (only : Option Id) (query : Query) (stop : Stop) (answer : Answer)
    → IsPage rows collection only query stop.page stop.more → IsPageOf rows collection only query IsEnvelope answer → answer ≡ answer_at stop
page_answered laws rows collection only query stop answer page its =
    let page_same : its.page ≡ stop.page = laws.page rows collection only query its.page stop.page its.more stop.more its.page_is page in
    let more_same : its.more ≡ stop.more = laws.more rows collection only query its.page stop.page its.more stop.more its.page_is page in
    its.answer_is
    ∙ ap (page_answer its.page) its.body_is
    ∙ ap (λ (more : Bool). page_answer its.page (envelope_text its.page more)) more_same
    ∙ ap (λ (rows : List StoredRow). page_answer rows (envelope_text rows stop.more)) page_same

-- a visited exchange was answered with the page of its stop
visit_answered : Laws → (config : Config) (wanted : Wanted) (next : Option ℕ) (e : Exchange) (stop : Stop) → IsVisit config wanted next e stop
    → IsExchange config e → e.answer ≡ answer_at stop
visit_answered laws config wanted next e stop visit goes =
    let page : IsPage e.before.library.rows wanted.collection wanted.only stop.query stop.page stop.more =
    subst (λ (rows : List StoredRow). IsPage rows wanted.collection wanted.only stop.query stop.page stop.more) (ap (λ state. state.rows) visit.state) visit.page in
    page_answered laws e.before.library.rows wanted.collection wanted.only stop.query stop e.answer page
    (laws.paged config e wanted.collection wanted.only stop.query goes visit.okay visit.asks)

-- what holds of each exchange holds of those that are visited
pub among_all : (P : Exchange → Type 0) (exchanges visited : List Exchange) → Among visited exchanges → All P exchanges → All P visited
among_all P exchanges [] among each = All-nil P
among_all P [] (e ∷ some) among each = absurd among
among_all P (first ∷ exchanges) (e ∷ some) (inl (same, among)) each =
    All-cons P e some (subst P (sym same) (All-head P first exchanges each)) (among_all P exchanges some among (All-tail P first exchanges each))
among_all P (first ∷ exchanges) (e ∷ some) (inr among) each = among_all P exchanges (e ∷ some) among (All-tail P first exchanges each)

both_first : (first second : Answer) (rest others : List Answer) → first ≡ second → rest ≡ others → first ∷ rest ≡ second ∷ others
both_first first second rest others same all = ap (λ (answer : Answer). answer ∷ rest) same ∙ ap (λ (answers : List Answer). second ∷ answers) all

pub answers_are : Laws → (config : Config) (wanted : Wanted) (next : Option ℕ) (visited : List Exchange) (stop : Stop) (stops : List Stop)
    → All (IsExchange config) visited → VisitFrom config wanted next visited stop stops → map (λ e. e.answer) visited ≡ map answer_at (stop ∷ stops)
answers_are laws config wanted next [] stop stops each visits = absurd visits
answers_are laws config wanted next (e ∷ visited) stop [] each visits =
    both_first e.answer (answer_at stop) (map (λ (one : Exchange). one.answer) visited) []
    (visit_answered laws config wanted next e stop visits.0 (All-head (IsExchange config) e visited each))
    (ap (map (λ (one : Exchange). one.answer)) visits.2)
answers_are laws config wanted next (e ∷ visited) stop (other ∷ stops) each visits =
    both_first e.answer (answer_at stop) (map (λ (one : Exchange). one.answer) visited) (map answer_at (other ∷ stops))
    (visit_answered laws config wanted next e stop visits.0 (All-head (IsExchange config) e visited each))
    (answers_are laws config wanted (last_date stop.page) visited other stops (All-tail (IsExchange config) e visited each) visits.2)
