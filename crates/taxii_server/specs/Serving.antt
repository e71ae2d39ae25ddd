-- A server that accepts connections: clients are served one after the other, each from the state
-- that the one before left.
use Rattle.std.specs.Prelude.{◌≡◌, ◌⊎◌, ℕ, List, [], ◌∷◌, ◌++◌, length, map, Option, Some, IfSome}
use Rattle.std.specs.List.{flat_map}
use Rattle.flow_edges.specs.Faults.{counted}
use Rattle.flow_links.specs.Doors.{DoorState, Changes}
use Rattle.taxii_exchange.specs.declared.config.Config.{Config}
use Rattle.taxii_service.specs.declared.state.State.{State}
use Rattle.taxii_service.specs.Exchanges.{Exchange}
use Rattle.taxii_server.specs.declared.link_end.LinkEnd.{LinkEnd}
use Rattle.taxii_server.specs.Environment.{LinkView}
use Rattle.taxii_server.specs.Connections.{Connection}
use Rattle.taxii_server.specs.declared.served.Served.{Served}

-- a client: its link as the door gave it and as it was returned, the exchanges over it, and how the
-- connection ended
pub record Client (L : Type 0) : Type 0 where
  pub given : L
  pub finished : L
  pub exchanges : List Exchange
  pub end : LinkEnd

-- all exchanges
abbrev pub exchanges_of : {L : Type 0} → List (Client L) → List Exchange
exchanges_of clients = flat_map (λ client. client.exchanges) clients

-- each client had its connection, from the state that the one before left
abbrev pub HaveConnections : {L : Type 0} → (L → LinkView) → Config → State → List (Client L) → State → Type 0
HaveConnections view config before [] after = after ≡ before
HaveConnections view config before (client ∷ clients) after = (middle : State)
    × Connection config before (view client.given) (view client.finished) client.exchanges client.end middle
    × HaveConnections view config middle clients after

-- the door listened once, at the port; the next links were given, and returned, in order
abbrev pub PassThroughDoor : {L : Type 0} → ℕ → List (Client L) → Option (DoorState L) → Option (DoorState L) → Type 0
PassThroughDoor port clients before now = Changes (λ state now.
    (state.coming ≡ map (λ client. client.given) clients ++ now.coming)
    × (now.finished ≡ state.finished ++ map (λ client. client.finished) clients)
    × (now.opened ≡ counted state.opened)
    × (now.port ≡ Some port)
    × (now.given ≡ state.given)) before now

-- as many clients were served as requested, or no further one will arrive, as far as the door is
-- observable
abbrev pub IsWholeOf : {L : Type 0} → ℕ → List (Client L) → Option (DoorState L) → Served → Type 0
IsWholeOf many clients now served = (served.connections ≡ length clients) × (served.requests ≡ length (exchanges_of clients))
    × ((length clients ≡ many) ⊎ IfSome now (λ state. state.coming ≡ []))
