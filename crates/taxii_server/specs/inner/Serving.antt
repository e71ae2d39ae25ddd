-- Serving one client, and several.
use Rattle.std.specs.Prelude.{◌≡◌, ◌≤◌, ◌*◌, ℕ, List, length, Option}
use Rattle.flow_links.specs.Doors.{DoorState, Finishes}
use Rattle.taxii_exchange.specs.declared.config.Config.{Config}
use Rattle.taxii_service.specs.declared.state.State.{State}
use Rattle.taxii_server.specs.Environment.{LinkView, Environment}
use Rattle.taxii_server.specs.Connections.{Connection, Pass}
use Rattle.taxii_server.specs.declared.connection.TheConstants.{MAX_REQUESTS}
use Rattle.taxii_server.specs.declared.served.Served.{Served}
use Rattle.taxii_server.specs.Serving.{Client, exchanges_of, HaveConnections, PassThroughDoor}

-- the client of a link had its connection, and the link was returned
pub record ServesClient {L : Type 0} (view : L → LinkView) (config : Config) (before : State) (link : L) (environment environment_now : Environment)
    (door door_now : Option (DoorState L)) (requests : ℕ) (after : State) : Type 0 where
  pub client : Client L
  pub given : client.given ≡ link
  pub connection : Connection config before (view client.given) (view client.finished) client.exchanges client.end after
  pub passes : Pass client.exchanges environment environment_now
  pub back : Finishes client.finished door door_now
  pub count : requests ≡ length client.exchanges

-- the invariant after some clients
pub record SoFar {L : Type 0} (view : L → LinkView) (config : Config) (before now : State) (port : ℕ) (environment environment_now : Environment)
    (door door_now : Option (DoorState L)) (served : Served) : Type 0 where
  pub clients : List (Client L)
  pub connections : HaveConnections view config before clients now
  pub passes : Pass (exchanges_of clients) environment environment_now
  pub through : PassThroughDoor port clients door door_now
  pub count : served.connections ≡ length clients
  pub requests : served.requests ≡ length (exchanges_of clients)
  pub few : served.requests ≤ MAX_REQUESTS * served.connections
