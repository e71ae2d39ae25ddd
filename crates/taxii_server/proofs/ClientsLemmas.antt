-- Clients one after the other: what a further one adds to their connections, to what stands environment, and to the door.
use Rattle.std.proofs.Common.{◌≡◌, ◌⊎◌, inl, inr, ℕ, zero, suc, ◌+◌, ◌≤◌, List, [], ◌∷◌, ◌++◌, length, map, Option, Some, None, refl, sym, ap, subst, ◌∙◌, arith, append_assoc, length-append}
use Rattle.std.specs.Prelude.{slice_get, IfSome}
use Rattle.std.proofs.lemmas.Grind.{flat_map-append}
use Rattle.std.proofs.lemmas.List.{append-nil, map-append}
use Rattle.std.proofs.lemmas.List.Elements.{All-append}
use Rattle.flow_links.specs.Doors.{DoorState, Listens, GivesNext, Finishes}
use Rattle.taxii_exchange.specs.declared.config.Config.{Config}
use Rattle.taxii_service.specs.declared.state.State.{State}
use Rattle.taxii_service.specs.Exchanges.{Exchange, IsExchange, Follow, HasServed}
use Rattle.taxii_server.specs.declared.connection.TheConstants.{MAX_REQUESTS}
use Rattle.taxii_server.specs.Environment.{LinkView, Environment, GivesMoments, HasIncreasedBy}
use Rattle.taxii_server.specs.Connections.{Connection, Pass, keeper_faults}
use Rattle.taxii_server.specs.declared.served.Served.{Served}
use Rattle.taxii_server.specs.Serving.{Client, exchanges_of, HaveConnections, PassThroughDoor}
use Rattle.taxii_server.specs.inner.Serving.{ServesClient, SoFar}

-- ---- connections

have_one_more : {L : Type 0} (view : L → LinkView) (config : Config) (before middle after : State) (clients : List (Client L)) (client : Client L)
    → HaveConnections view config before clients middle → Connection config middle (view client.given) (view client.finished) client.exchanges client.end after
    → HaveConnections view config before (clients ++ (client ∷ [])) after
have_one_more view config before middle after [] client have connection =
    (after, subst (λ (s : State). Connection config s (view client.given) (view client.finished) client.exchanges client.end after) have connection, refl)
have_one_more view config before middle after (first ∷ clients) client have connection =
    (have.0, have.1, have_one_more view config have.0 middle after clients client have.2 connection)

exchanges_with : {L : Type 0} (clients : List (Client L)) (client : Client L) → exchanges_of (clients ++ (client ∷ [])) ≡ exchanges_of clients ++ client.exchanges
exchanges_with {L} clients client =
    flat_map-append (λ (one : Client L). one.exchanges) clients (client ∷ []) ∙ ap (λ last. exchanges_of clients ++ last) (append-nil client.exchanges)

follow_join : (xs ys : List Exchange) (before middle after : State) → Follow before xs middle → Follow middle ys after → Follow before (xs ++ ys) after
follow_join [] ys before middle after first second = subst (λ (s : State). Follow s ys after) first second
follow_join (x ∷ xs) ys before middle after first second = (first.0, follow_join xs ys x.after middle after first.1 second)

pub clients_served : {L : Type 0} (view : L → LinkView) (config : Config) (before after : State) (clients : List (Client L))
    → HaveConnections view config before clients after → HasServed config before (exchanges_of clients) after
clients_served view config before after [] have = record { each = λ k d within. absurd (omega (arith, within)); follow = have }
clients_served view config before after (client ∷ clients) have =
    let first = have.1.served in let others = clients_served view config have.0 after clients have.2 in record {
      each = All-append (IsExchange config) client.exchanges (exchanges_of clients) first.each others.each;
      follow = follow_join client.exchanges (exchanges_of clients) before have.0 after first.follow others.follow;
    }

-- ---- the clock and the keeper

get_split : (ms ns : List ℕ) (n m : ℕ) → slice_get (ms ++ ns) n ≡ Some m
    → (slice_get ms n ≡ Some m) ⊎ ((k : ℕ) × (n ≡ length ms + k) × (slice_get ns k ≡ Some m))
get_split [] ns n m is = inr (n, omega arith, is)
get_split (x ∷ ms) ns zero m is = inl is
get_split (x ∷ ms) ns (suc n) m is = elim (get_split ms ns n m is) [
  | inl there ↦ inl there
  | inr behind ↦ inr (behind.0, (let e = behind.1 in omega (arith, e)), behind.2)
]

moments_join : (ms ns : List ℕ) (a b d : ℕ → Option ℕ) → GivesMoments ms a b → GivesMoments ns b d → GivesMoments (ms ++ ns) a d
moments_join ms ns a b d first second = record {
  given = λ n moment is. go n moment (get_split ms ns n moment is);
  continues = λ n. second.continues n ∙ first.continues (n + length ns)
      ∙ ap a (omega (arith, length-append ms ns));
}
  where
    go : (n moment : ℕ) → (slice_get ms n ≡ Some moment) ⊎ ((k : ℕ) × (n ≡ length ms + k) × (slice_get ns k ≡ Some moment)) → IfSome (a n) (λ observable. moment ≡ observable)
    go n moment (inl there) = first.given n moment there
    go n moment (inr behind) =
        let at : behind.0 + length ms ≡ n = (let e = behind.1 in omega (arith, e)) in
        subst (λ (observable : Option ℕ). IfSome observable (λ t. moment ≡ t)) (first.continues behind.0 ∙ ap a at) (second.given behind.0 moment behind.2)

faults_join : (xs ys : List Exchange) → keeper_faults (xs ++ ys) ≡ keeper_faults xs + keeper_faults ys
faults_join [] ys = omega arith
faults_join (x ∷ xs) ys = let rest = faults_join xs ys in omega (arith, rest)

rose_join : (m n a b d : ℕ) → HasIncreasedBy m a b → HasIncreasedBy n b d → HasIncreasedBy (m + n) a d
rose_join m n a b d first second = grind (arith, first, second)

pub pass_join : (xs ys : List Exchange) (a b d : Environment) → Pass xs a b → Pass ys b d → Pass (xs ++ ys) a d
pass_join xs ys a b d first second = record {
  moments = subst (λ (ms : List ℕ). GivesMoments ms a.moments d.moments) (sym (map-append (λ (e : Exchange). e.moment) xs ys))
      (moments_join (map (λ e. e.moment) xs) (map (λ e. e.moment) ys) a.moments b.moments d.moments first.moments second.moments);
  faults = subst (λ (n : ℕ). HasIncreasedBy n a.faults d.faults) (sym (faults_join xs ys)) (rose_join (keeper_faults xs) (keeper_faults ys) a.faults b.faults d.faults first.faults second.faults);
  quiet = λ none.
      let both : keeper_faults xs + keeper_faults ys ≡ 0 = sym (faults_join xs ys) ∙ none in
      second.quiet (omega (arith, both)) ∙ first.quiet (omega (arith, both));
}

pub no_pass : (environment : Environment) → Pass [] environment environment
no_pass environment = record {
  moments = record { given = λ n moment is. absurd (cc is); continues = λ n. ap environment.moments (omega arith) };
  faults = omega arith;
  quiet = λ none. refl;
}

-- ---- the door

some_is : {A : Type 0} (a b : A) → Some a ≡ Some b → a ≡ b
some_is a b is = cc

listens_through : {L : Type 0} (port : ℕ) (before now : Option (DoorState L)) → Listens port before now → PassThroughDoor port [] before now
listens_through port None now listens = listens
listens_through port (Some state) now listens = (
  listens.0,
  listens.1,
  (
    sym (ap (λ s. s.coming) listens.2),
    ap (λ s. s.finished) listens.2 ∙ sym (append-nil state.finished),
    ap (λ s. s.opened) listens.2,
    ap (λ s. s.port) listens.2,
    ap (λ s. s.given) listens.2,
  ),
)

-- a link that was given and handed back, where the door tells
told_through : {L : Type 0} (port : ℕ) (clients : List (Client L)) (client : Client L) (before state given now : DoorState L)
    → PassThroughDoor port clients (Some before) (Some state) → GivesNext (Some client.given) (Some state) (Some given) → Finishes client.finished (Some given) (Some now)
    → PassThroughDoor port (clients ++ (client ∷ [])) (Some before) (Some now)
told_through {L} port clients client before state given now through gives back =
    let a = through.2 in let b = gives.2 in let d = back.2 in
    let is_state : state ≡ through.0 = some_is _ _ through.1 in
    let is_given : given ≡ gives.0 = some_is _ _ gives.1 in
    let is_now : now ≡ back.0 = some_is _ _ back.1 in
    let givens = λ (some : List (Client L)). map (λ client. client.given) some in
    let finished = λ (some : List (Client L)). map (λ client. client.finished) some in
    let coming : through.0.coming ≡ client.given ∷ now.coming =
    ap (λ (s : DoorState L). s.coming) (sym is_state) ∙ b.0
    ∙ ap (λ others. client.given ∷ others) (ap (λ (s : DoorState L). s.coming) (sym is_given) ∙ sym d.1 ∙ ap (λ (s : DoorState L). s.coming) (sym is_now)) in
    let before_this : given.finished ≡ before.finished ++ finished clients =
    ap (λ (s : DoorState L). s.finished) is_given ∙ b.1 ∙ ap (λ (s : DoorState L). s.finished) is_state ∙ a.1 in (
      now,
      refl,
      (
        a.0 ∙ ap (λ others. givens clients ++ others) coming ∙ sym (append_assoc (givens clients) (client.given ∷ []) now.coming)
            ∙ ap (λ some. some ++ now.coming) (sym (map-append (λ (one : Client L). one.given) clients (client ∷ []))),
        ap (λ (s : DoorState L). s.finished) is_now ∙ d.0 ∙ ap (λ some. some ++ (client.finished ∷ [])) before_this
            ∙ append_assoc before.finished (finished clients) (client.finished ∷ [])
            ∙ ap (λ some. before.finished ++ some) (sym (map-append (λ (one : Client L). one.finished) clients (client ∷ []))),
        ap (λ (s : DoorState L). s.opened) is_now ∙ d.2.0 ∙ ap (λ (s : DoorState L). s.opened) is_given ∙ b.2.0 ∙ ap (λ (s : DoorState L). s.opened) is_state ∙ a.2,
        ap (λ (s : DoorState L). s.port) is_now ∙ d.2.1 ∙ ap (λ (s : DoorState L). s.port) is_given ∙ b.2.1 ∙ ap (λ (s : DoorState L). s.port) is_state ∙ a.3,
        omega (arith, a.4, b.3, d.3, ap (λ (s : DoorState L). s.given) is_state, ap (λ (s : DoorState L). s.given) is_given, ap (λ (s : DoorState L). s.given) is_now),
      ),
    )

through_one_more : {L : Type 0} (port : ℕ) (clients : List (Client L)) (client : Client L) (before state given now : Option (DoorState L))
    → PassThroughDoor port clients before state → GivesNext (Some client.given) state given → Finishes client.finished given now
    → PassThroughDoor port (clients ++ (client ∷ [])) before now
through_one_more port clients client None state given now through gives back =
    let gives_none = subst (λ s. GivesNext (Some client.given) s given) through gives in
    subst (λ s. Finishes client.finished s now) gives_none back
through_one_more port clients client (Some before) state given now through gives back =
    let gives_some = subst (λ s. GivesNext (Some client.given) s given) through.1 gives in
    let back_some = subst (λ s. Finishes client.finished s now) gives_some.1 back in
    let through_some = subst (λ s. PassThroughDoor port clients (Some before) s) through.1 through in
    let gives_both = subst (λ s. GivesNext (Some client.given) (Some through.0) s) gives_some.1 gives_some in
    let back_both = subst (λ s. Finishes client.finished (Some gives_some.0) s) back_some.1 back_some in
    subst (λ s. PassThroughDoor port (clients ++ (client ∷ [])) (Some before) s) (sym back_some.1)
    (told_through port clients client before through.0 gives_some.0 back_some.0 through_some gives_both back_both)

-- ---- all of it

pub none_yet : {L : Type 0} (view : L → LinkView) (config : Config) (before : State) (port : ℕ) (environment : Environment) (door now : Option (DoorState L))
    → Listens port door now → SoFar view config before before port environment environment door now (record { connections = 0; requests = 0 })
none_yet view config before port environment door now listens = record {
  clients = [];
  connections = refl;
  passes = no_pass environment;
  through = listens_through port door now listens;
  count = refl;
  requests = refl;
  few = omega arith;
}

pub one_more : {L : Type 0} (view : L → LinkView) (config its_config : Config) (before state after : State) (port : ℕ) (environment middle next : Environment) (door door_state given now : Option (DoorState L))
    (served : Served) (link : L) (requests : ℕ) → SoFar view config before state port environment middle door door_state served → GivesNext (Some link) door_state given
    → its_config ≡ config → ServesClient view its_config state link middle next given now requests after → requests ≤ MAX_REQUESTS
    → SoFar view config before after port environment next door now (record { connections = served.connections + 1; requests = served.requests + requests })
one_more {L} view config its_config before state after port environment middle next door door_state given now served link requests so_far gives same serves few =
    let client = serves.client in
    let its = subst (λ (one : L). GivesNext (Some one) door_state given) (sym serves.given) gives in
    record {
      clients = so_far.clients ++ (client ∷ []);
      connections = have_one_more view config before state after so_far.clients client so_far.connections
          (subst (λ (c : Config). Connection c state (view client.given) (view client.finished) client.exchanges client.end after) same serves.connection);
      passes = subst (λ xs. Pass xs environment next) (sym (exchanges_with so_far.clients client)) (pass_join (exchanges_of so_far.clients) client.exchanges environment middle next so_far.passes serves.passes);
      through = through_one_more port so_far.clients client door door_state given now so_far.through its serves.back;
      count = omega (arith, so_far.count, length-append so_far.clients (client ∷ []));
      requests = omega (arith, so_far.requests, serves.count, ap length (exchanges_with so_far.clients client), length-append (exchanges_of so_far.clients) client.exchanges);
      few = omega (arith, so_far.few, few);
    }
