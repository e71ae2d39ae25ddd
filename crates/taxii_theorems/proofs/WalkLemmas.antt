-- The fetches of a client are the stops of a walk.
use Rattle.std.proofs.Common.{◌≡◌, ◌⊎◌, inl, inr, ℕ, ◌^◌, ◌<◌, ◌≤◌, List, [], ◌∷◌, ◌++◌, map, true, false, Option, Some, None, unwrap_or, refl, sym, ap, subst, ◌∙◌, arith}
use Rattle.std.specs.Prelude.{codes, IsSomeAnd}
use Rattle.stix_ids.specs.declared.id.Id.{Id}
use Rattle.http_messages.specs.declared.status.Status.TheVariants.{Okay}
use Rattle.taxii_exchange.specs.declared.answer.Answer.{Answer}
use Rattle.taxii_routes.specs.declared.param.Param.TheVariants.{Next}
use Rattle.taxii_routes.specs.declared.query.Query.{Query}
use Rattle.taxii_routes.specs.Param.{param_name}
use Rattle.taxii_routes.specs.Query.{pairs_of, parameter_values, AskFor}
use Rattle.taxii_routes.specs.Value.{IsNextCursor}
use Rattle.taxii_rows.specs.declared.stored_row.StoredRow.{StoredRow}
use Rattle.taxii_rows.specs.declared.stored_row.TheConstants.{LAST_DATE}
use Rattle.taxii_rows.specs.StoreState.{StoreState}
use Rattle.taxii_bodies.specs.Envelope.{next_of, next_text, objects_text, envelope_text}
use Rattle.taxii_exchange.specs.declared.config.Config.{Config}
use Rattle.taxii_exchange.specs.AnswersToRequests.{page_answer}
use Rattle.taxii_service.specs.Reading.{IsPageOf, IsEnvelope}
use Rattle.taxii_store.specs.History.{IsHistory}
use Rattle.taxii_store.specs.Walk.{Stop, Wanted, IsStop, GoesFrom, last_date}
use Rattle.taxii_service.specs.Exchanges.{Exchange, IsExchange}
use Rattle.taxii_service.specs.Visits.{AsksForAll, AsksForOne, Asks, answer_at}
use Rattle.taxii_theorems.specs.Runs.{Round}
use Rattle.taxii_theorems.specs.Following.{GivesNextCursor, EndsPaging, sent, IsFetch, FetchFrom}
use Rattle.taxii_theorems.proofs.ChainLemmas.{IsOrdered, IsReady, Chain, found}
use Rattle.taxii_theorems.proofs.NextLemmas.{told_next, told_no_more, next_is_last, last_within, no_more}

-- a GET of objects that was answered with 200 has a page of the store as it was there
abbrev pub ArePaged : Type 0
ArePaged = (config : Config) (e : Exchange) (collection : ℕ) (only : Option Id) (query : Query) → IsExchange config e → e.answer.status ≡ Okay
    → Asks config e.request collection only query → IsPageOf e.before.library.rows collection only query IsEnvelope e.answer

-- the digits of a date are read as that date
abbrev pub ReadBack : Type 0
ReadBack = (date : ℕ) → date < 2 ^ 64 → IsNextCursor (next_text date) date

-- ---- what was sent

-- a client that sends nothing, or the digits of a date, asks for what comes after that date
abbrev pub Means : Option (List ℕ) → Option ℕ → Type 0
Means None date = date ≡ None
Means (Some text) date = (its : ℕ) × (date ≡ Some its) × IsNextCursor text its

asked_next : (next : Option (List ℕ)) (values : List (List ℕ)) (parsed : Option ℕ) → values ≡ sent next → AskFor Next values parsed → Means next parsed
asked_next None values parsed same asks = subst (λ (its : List (List ℕ)). AskFor Next its parsed) same asks
asked_next (Some text) values parsed same asks = one parsed (subst (λ (its : List (List ℕ)). AskFor Next its parsed) same asks)
  where
    one : (parsed : Option ℕ) → IsSomeAnd parsed (λ date. IsNextCursor text date) → Means (Some text) parsed
    one None none = absurd none
    one (Some date) is = (date, refl, is)

-- it goes on where its text says
one_meaning : (next : Option (List ℕ)) (first second : Option ℕ) → Means next first → Means next second → first ≡ second
one_meaning None first second means also = means ∙ sym also
one_meaning (Some text) first second (its, first_is, number) (other, second_is, too) =
    first_is ∙ ap (λ (n : ℕ). Some n) (number.number ∙ sym too.number) ∙ sym second_is

-- the query that goes on has the `next` of what the client asks
query_next : (wanted : Wanted) (next : Option (List ℕ)) (round : Round) (fetch : IsFetch wanted next round) → fetch.query.next ≡ fetch.asks.parsed.next
query_next wanted next round fetch = either fetch.asks.asks
  where
    either : AsksForAll round.config fetch.asks.route fetch.asks.parsed wanted.collection wanted.only fetch.query
        ⊎ AsksForOne round.config fetch.asks.route fetch.asks.parsed wanted.collection wanted.only fetch.query
        → fetch.query.next ≡ fetch.asks.parsed.next
    either (inl (id, info, route_is, names, collection_is, only_is, query_is)) = ap (λ (q : Query). q.next) query_is
    either (inr (name, text, info, id, route_is, names, text_of, collection_is, only_is, query_is)) = ap (λ (q : Query). q.next) query_is

continues : (wanted : Wanted) (next : Option (List ℕ)) (date : Option ℕ) (round : Round) (fetch : IsFetch wanted next round) → Means next date
    → fetch.query.next ≡ date
continues wanted next date round fetch means =
    query_next wanted next round fetch
    ∙ one_meaning next fetch.asks.parsed.next date
    (asked_next next (parameter_values (param_name Next) (pairs_of (unwrap_or fetch.asks.text []))) fetch.asks.parsed.next fetch.next_sent (fetch.asks.query_is Next)) means

-- ---- one fetch

-- the stop of a fetch: what it was answered with
pub record IsStopOf (wanted : Wanted) (date : Option ℕ) (round : Round) (stop : Stop) : Type 0 where
  pub its : IsStop wanted date stop
  pub state : found round ≡ stop.state
  pub answer : round.exchange.answer ≡ answer_at stop

stop_with : (wanted : Wanted) (date : Option ℕ) (round : Round) (next : Option (List ℕ)) (fetch : IsFetch wanted next round) → IsReady round → fetch.query.next ≡ date
    → IsPageOf (found round).rows wanted.collection wanted.only fetch.query IsEnvelope round.exchange.answer → (stop : Stop) × IsStopOf wanted date round stop
stop_with wanted date round next fetch ready goes page = (
  record { state = found round; query = fetch.query; page = page.page; more = page.more },
  record {
    its = record { dated = ready.ordered.dated; alike = fetch.alike; continues = goes; page = page.page_is };
    state = refl;
    answer = page.answer_is ∙ ap (page_answer page.page) page.body_is;
  },
)

stop_of : ArePaged → (wanted : Wanted) (next : Option (List ℕ)) (date : Option ℕ) (round : Round) (fetch : IsFetch wanted next round) → IsReady round → Means next date
    → (stop : Stop) × IsStopOf wanted date round stop
stop_of paged wanted next date round fetch ready means =
    stop_with wanted date round next fetch ready (continues wanted next date round fetch means)
    (paged round.config round.exchange wanted.collection wanted.only fetch.query ready.goes fetch.okay fetch.asks)

-- ---- what it was told

-- the body of its answer
body_is : (wanted : Wanted) (date : Option ℕ) (round : Round) (stop : Stop) (text : List ℕ) → IsStopOf wanted date round stop → round.exchange.answer.body ≡ Some text
    → envelope_text stop.page stop.more ≡ text
body_is wanted date round stop text its told =
    let same : Some (envelope_text stop.page stop.more) ≡ Some text = sym (ap (λ (a : Answer). a.body) its.answer) ∙ told in cc same

-- what follows the beginning of a body
abbrev tail_of : Stop → List ℕ
tail_of stop = objects_text (map (λ (row : StoredRow). row.body) stop.page) ++ codes "}"

-- the date that was told is that of the page's last row, and there is more
pub record IsVisibleToken (stop : Stop) (told : List ℕ) (date : Option ℕ) : Type 0 where
  pub more : stop.more ≡ true
  pub last : last_date stop.page ≡ date
  pub means : Means (Some told) date

ordered_within : (wanted : Wanted) (next : Option ℕ) (round : Round) (stop : Stop) (date : ℕ) → IsStopOf wanted next round stop → IsReady round
    → last_date stop.page ≡ Some date → date ≤ LAST_DATE
ordered_within wanted next round stop date its ready last =
    last_within stop.state wanted.collection wanted.only stop.query stop.page stop.more date
    (subst IsOrdered its.state ready.ordered) its.its.page last

-- the text that was told is that of the date
is_visible_token : ReadBack → (wanted : Wanted) (next : Option ℕ) (round : Round) (stop : Stop) (told : List ℕ) → IsStopOf wanted next round stop → IsReady round
    → GivesNextCursor round.exchange.answer told → (date : ℕ) × IsVisibleToken stop told (Some date)
is_visible_token read_back wanted next round stop told its ready (long, rest, body) =
    let within = λ (date : ℕ) (is : next_of stop.page stop.more ≡ Some date).
    ordered_within wanted next round stop date its ready (next_is_last stop.page stop.more date is).1 in
    let back = λ (date : ℕ) (is : next_of stop.page stop.more ≡ Some date). read_back date (omega (arith, within date is)) in
    let text = told_next (next_of stop.page stop.more) told (tail_of stop) rest long (λ date is. (back date is).long)
    (body_is wanted next round stop (codes "{\"more\":true,\"next\":\"" ++ (told ++ rest)) its body) in
    let last = next_is_last stop.page stop.more text.0 text.1 in (
      text.0,
      record {
        more = last.0;
        last = last.1;
        means = (text.0, refl, subst (λ (letters : List ℕ). IsNextCursor letters text.0) (sym text.2) (back text.0 text.1));
      },
    )

-- no more was told, and there is none
is_last : (wanted : Wanted) (next : Option ℕ) (round : Round) (stop : Stop) → IsStopOf wanted next round stop → EndsPaging round.exchange.answer → stop.more ≡ false
is_last wanted next round stop its (rest, body) =
    no_more stop.state wanted.collection wanted.only stop.query stop.page stop.more its.its.alike.limit its.its.page
    (told_no_more (next_of stop.page stop.more) (tail_of stop) rest (body_is wanted next round stop (codes "{\"more\":false" ++ rest) its body))

-- ---- the walk

-- the walk of the fetches
pub record Walked (wanted : Wanted) (date : Option ℕ) (round : Round) (rounds : List Round) : Type 0 where
  pub first : Stop
  pub others : List Stop
  pub goes : GoesFrom wanted date first others
  pub here : found round ≡ first.state
  pub answers : map (λ r. r.exchange.answer) (round ∷ rounds) ≡ map answer_at (first ∷ others)
  pub states : map (λ r. r.exchange.before.library) (round ∷ rounds) ≡ map (λ stop. stop.state) (first ∷ others)

both : {A : Type 0} (first second : A) (rest others : List A) → first ≡ second → rest ≡ others → first ∷ rest ≡ second ∷ others
both first second rest others same all = ap (λ x. x ∷ rest) same ∙ ap (λ xs. second ∷ xs) all

walked_last : (wanted : Wanted) (date : Option ℕ) (round : Round) (stop : Stop) → IsStopOf wanted date round stop → stop.more ≡ false → Walked wanted date round []
walked_last wanted date round stop its last = record {
  first = stop;
  others = [];
  goes = (its.its, last);
  here = its.state;
  answers = both round.exchange.answer (answer_at stop) [] [] its.answer refl;
  states = both (found round) stop.state [] [] its.state refl;
}

walked_on : (wanted : Wanted) (date : Option ℕ) (round other : Round) (rounds : List Round) (stop : Stop) → IsStopOf wanted date round stop → stop.more ≡ true
    → IsHistory (found round) (found other) → Walked wanted (last_date stop.page) other rounds → Walked wanted date round (other ∷ rounds)
walked_on wanted date round other rounds stop its more history walked = record {
  first = stop;
  others = walked.first ∷ walked.others;
  goes = (
    its.its,
    more,
    subst (λ (from : StoreState). IsHistory from walked.first.state) its.state (subst (λ (to : StoreState). IsHistory (found round) to) walked.here history),
    walked.goes,
  );
  here = its.state;
  answers = both round.exchange.answer (answer_at stop) (map (λ r. r.exchange.answer) (other ∷ rounds)) (map answer_at (walked.first ∷ walked.others)) its.answer walked.answers;
  states = both (found round) stop.state (map (λ r. r.exchange.before.library) (other ∷ rounds)) (map (λ stop. stop.state) (walked.first ∷ walked.others)) its.state walked.states;
}

pub walked : ArePaged → ReadBack → (wanted : Wanted) (next : Option (List ℕ)) (date : Option ℕ) (store : StoreState) (round : Round) (rounds : List Round)
    → Means next date → Chain store (round ∷ rounds) → FetchFrom wanted next round rounds → Walked wanted date round rounds
walked paged read_back wanted next date store round [] means (history, ready, chain) (fetch, end) =
    let stop = stop_of paged wanted next date round fetch ready means in
    walked_last wanted date round stop.0 stop.1 (is_last wanted date round stop.0 stop.1 end)
walked paged read_back wanted next date store round (other ∷ rounds) means (history, ready, chain) (fetch, told, tells, fetches) =
    let stop = stop_of paged wanted next date round fetch ready means in
    let its = is_visible_token read_back wanted date round stop.0 told stop.1 ready tells in
    walked_on wanted date round other rounds stop.0 stop.1 its.1.more chain.0
    (subst (λ (d : Option ℕ). Walked wanted d other rounds) (sym its.1.last)
    (walked paged read_back wanted (Some told) (Some its.0) (found round) other rounds its.1.means chain fetches))
