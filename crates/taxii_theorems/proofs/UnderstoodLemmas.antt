-- A round that answered what a client wrote is a fetch of what the client wants.
use Rattle.std.proofs.Common.{◌≡◌, inl, ℕ, ◌<◌, ◌^◌, Bool, true, false, List, [], ◌∷◌, All, Option, Some, unwrap_or, refl, sym, ap, subst, ◌∙◌}
use Rattle.std.specs.Prelude.{find, if◌then◌else◌}
use Rattle.std.specs.Str.{str_to_ascii_lowercase}
use Rattle.std.proofs.lemmas.Slice.Eq.{bytes_eq-Decides}
use Rattle.std.proofs.lemmas.List.Elements.{All-head, All-tail}
use Rattle.http_messages.specs.declared.status.Status.TheVariants.{Okay}
use Rattle.stix_ids.specs.Uuid.{uuid_text, IsUuidOf}
use Rattle.stix_ids.proofs.UuidLemmas.{uuid_of_text}
use Rattle.taxii_routes.specs.declared.param.Param.TheVariants.{Next}
use Rattle.taxii_routes.specs.declared.route.Route.{Route}
use Rattle.taxii_routes.specs.declared.route.Route.TheVariants.{Objects}
use Rattle.taxii_routes.specs.Param.{param_name}
use Rattle.taxii_routes.specs.Query.{Pair, pairs_of, parameter_values, IsQueryOf}
use Rattle.taxii_routes.specs.Route.{IsRoutePath}
use Rattle.taxii_routes.specs.Target.{IsTargetOf}
use Rattle.taxii_bodies.specs.declared.collections.CollectionInfo.{CollectionInfo}
use Rattle.taxii_bodies.specs.Collections.{has_name}
use Rattle.taxii_exchange.specs.declared.config.Config.{Config}
use Rattle.taxii_service.specs.Finding.{NamesCollection, IsResource}
use Rattle.taxii_service.specs.Step.{IsDone}
use Rattle.taxii_service.specs.Exchanges.{Exchange, IsExchange, WasDone}
use Rattle.taxii_theorems.specs.Runs.{Round}
use Rattle.taxii_theorems.specs.Following.{IsFetch}
use Rattle.taxii_client.specs.Requests.{objects_path}
use Rattle.taxii_client.specs.declared.target.Target.{Target}
use Rattle.taxii_theorems.specs.Asking.{IsServersOwn, IsVisibleToken, IsAnswered, IsUnderstood, wanted_after}
use Rattle.taxii_theorems.proofs.QueryLemmas.{query_for, pairs_for, pairs_are, next_values, instant_is, asks_alike}
use Rattle.taxii_theorems.proofs.RequestLemmas.{IsGetOf, is_get, own_target, own_path}

-- the laws of lower floors: a target has one path and one query, a path one route, a text is one number's UUID; what was answered
-- with 200 was done
pub record Laws : Type 0 where
  pub path : (target first second : List ℕ) (text other : Option (List ℕ)) → IsTargetOf target first text → IsTargetOf target second other → first ≡ second
  pub text : (target first second : List ℕ) (text other : Option (List ℕ)) → IsTargetOf target first text → IsTargetOf target second other → text ≡ other
  pub route : (path : List ℕ) (first second : Route) → IsRoutePath path first → IsRoutePath path second → first ≡ second
  pub uuid : (text : List ℕ) (first second : ℕ) → IsUuidOf text first → IsUuidOf text second → first ≡ second
  pub done : (config : Config) (e : Exchange) → IsExchange config e → e.answer.status ≡ Okay → WasDone config e

-- ---- the collection that is named

-- the numbers of collections have 128 bits
abbrev AreNumbers : List CollectionInfo → Type 0
AreNumbers infos = All (λ info. info.id < 2 ^ 128) infos

-- what is found has that name, and is among them
pub record IsFoundBy (text : List ℕ) (info : CollectionInfo) : Type 0 where
  pub named : has_name text info ≡ true
  pub fits : info.id < 2 ^ 128

found_by : (text : List ℕ) (infos : List CollectionInfo) (info : CollectionInfo) → AreNumbers infos → NamesCollection text infos info → IsFoundBy text info
found_by text [] info fit names = absurd (cc)
found_by text (first ∷ infos) info fit names =
    by_test (has_name text first) refl names (λ rest. found_by text infos info (All-tail (λ (i : CollectionInfo). i.id < 2 ^ 128) first infos fit) rest)
  where
    by_test : (t : Bool) → has_name text first ≡ t → (if t then Some first else find (has_name text) infos) ≡ Some info
        → (find (has_name text) infos ≡ Some info → IsFoundBy text info) → IsFoundBy text info
    by_test true is names later =
        let same : first ≡ info = cc in
        subst (λ (its : CollectionInfo). IsFoundBy text its) same (record { named = is; fits = All-head (λ (i : CollectionInfo). i.id < 2 ^ 128) first infos fit })
    by_test false is names later = later names

-- a UUID names the collection of its number
names_number : Laws → (number : ℕ) (infos : List CollectionInfo) (info : CollectionInfo) → number < 2 ^ 128 → AreNumbers infos → NamesCollection (uuid_text number) infos info
    → number ≡ info.id
names_number laws number infos info small fit names =
    let found = found_by (uuid_text number) infos info fit names in
    let own = uuid_of_text number small in
    let its = uuid_of_text info.id found.fits in
    let same : str_to_ascii_lowercase (uuid_text number) ≡ str_to_ascii_lowercase (uuid_text info.id) = (bytes_eq-Decides (str_to_ascii_lowercase (uuid_text number)) (str_to_ascii_lowercase (uuid_text info.id))).0 found.named in
    laws.uuid (uuid_text number) number info.id own (record { fits = found.fits; spelling = same ∙ its.spelling })

-- ---- the fetch

pub understood : Laws → (target : Target) (next : Option (List ℕ)) (round : Round) → IsServersOwn target → IsVisibleToken next → IsAnswered target next round
    → IsExchange round.config round.exchange → IsUnderstood target next round
understood laws target next round own told answered goes = record {
  instant = done.query.added_after;
  time = instant_is target.limit target.since next done.query asked;
  fetch = fetch;
}
  where
    was : WasDone round.config round.exchange
    was = laws.done round.config round.exchange goes answered.okay

    done : IsDone round.config round.exchange.before round.exchange.moment round.exchange.request was.route (unwrap_or was.text []) round.exchange.answer round.exchange.after
    done = was.done

    get : IsGetOf target next round.exchange.request
    get = is_get target next answered.max_body round.exchange.request [] own answered.understood

    its_target : IsTargetOf round.exchange.request.target (objects_path target) (Some (query_for target.limit target.since next))
    its_target = subst (λ (text : List ℕ). IsTargetOf text (objects_path target) (Some (query_for target.limit target.since next))) (sym get.target_is) (own_target target next own)

    path_is : was.path ≡ objects_path target
    path_is = laws.path round.exchange.request.target was.path (objects_path target) was.text (Some (query_for target.limit target.since next)) was.target_is its_target

    text_is : was.text ≡ Some (query_for target.limit target.since next)
    text_is = laws.text round.exchange.request.target was.path (objects_path target) was.text (Some (query_for target.limit target.since next)) was.target_is its_target

    route_is : was.route ≡ Objects (uuid_text target.collection)
    route_is = laws.route (objects_path target) was.route (Objects (uuid_text target.collection)) (subst (λ (path : List ℕ). IsRoutePath path was.route) path_is was.route_is) (own_path target own)

    pairs : pairs_of (unwrap_or was.text []) ≡ pairs_for target.limit target.since next
    pairs = ap (λ (text : Option (List ℕ)). pairs_of (unwrap_or text [])) text_is ∙ pairs_are target.limit target.since next own.limit own.since told

    asked : IsQueryOf (pairs_for target.limit target.since next) done.query
    asked = subst (λ (its : List Pair). IsQueryOf its done.query) pairs done.query_is

    found : IsResource round.config.collections round.exchange.before (Objects (uuid_text target.collection)) done.resource
    found = subst (λ (route : Route). IsResource round.config.collections round.exchange.before route done.resource) route_is done.found

    fetch : IsFetch (wanted_after target done.query.added_after) next round
    fetch = record {
      okay = answered.okay;
      query = done.query;
      asks = record {
        path = was.path;
        text = was.text;
        route = was.route;
        parsed = done.query;
        get = get.get;
        target_is = was.target_is;
        route_is = was.route_is;
        query_is = done.query_is;
        asks = inl (uuid_text target.collection, found.0, route_is, found.1, names_number laws target.collection round.config.collections found.0 own.collection answered.numbers found.1, refl, refl);
      };
      alike = asks_alike target.limit target.since next done.query asked;
      next_sent = ap (parameter_values (param_name Next)) pairs ∙ next_values target.limit target.since next;
    }
