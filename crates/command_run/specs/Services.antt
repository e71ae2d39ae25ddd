-- The server that a command line requests, and how it serves clients.
use Rattle.std.specs.Prelude.{◌≡◌, ◌≤◌, ℕ, List, [], length, map, Option, Some, None, option_map, IfSome}
use Rattle.flow_links.specs.Doors.{DoorState}
use Rattle.taxii_rows.specs.StoreState.{StoreState}
use Rattle.taxii_rows.specs.Keeper.{Kept}
use Rattle.taxii_rows.specs.SoundRow.{IsSoundState}
use Rattle.taxii_bodies.specs.declared.collections.CollectionInfo.{CollectionInfo}
use Rattle.taxii_exchange.specs.declared.config.Config.{Config}
use Rattle.taxii_exchange.specs.Statuses.{no_statuses}
use Rattle.taxii_store.specs.Loading.{IsLoaded}
use Rattle.taxii_service.specs.declared.state.State.{State}
use Rattle.taxii_service.specs.Starting.{starting_with}
use Rattle.taxii_service.specs.Visits.{WalksSkipNoRow}
use Rattle.taxii_server.specs.declared.server.Server.{Server}
use Rattle.taxii_server.specs.Environment.{LinkView, Environment}
use Rattle.taxii_server.specs.Connections.{Pass}
use Rattle.taxii_server.specs.Serving.{Client, exchanges_of, HaveConnections}
use Rattle.command_line.specs.CommandLines.{PlainCollection, PlainService}

-- the description of a requested collection
abbrev pub info_of : PlainCollection → CollectionInfo
info_of asked = record { id = asked.id; title = asked.title; can_read = asked.can_read; can_write = asked.can_write }

-- the server serves what is requested
pub record IsConfigOf (service : PlainService) (config : Config) : Type 0 where
  pub base : config.base ≡ service.base
  pub collections : config.collections ≡ map info_of service.collections

-- the name under which a store is opened; empty if it is in memory
abbrev pub store_name : Option (List ℕ) → List ℕ
store_name None = []
store_name (Some file) = file

-- the server that is requested, as it begins: with the rows that the keeper has under the name of
-- its store, and no statuses
pub record Begins (service : PlainService) (kept : Kept) (server : Server) : Type 0 where
  pub config_is : IsConfigOf service server.config
  pub loaded : IsLoaded (store_name service.store) kept server.state.library
  pub statuses : server.state.statuses ≡ no_statuses

-- the environment of a server at one moment: its door, the keeper's observable state, the output,
-- and the clock with the keeper's count of faults
pub record ServiceEnvironment (L : Type 0) : Type 0 where
  pub door : Option (DoorState L)
  pub kept : Kept
  pub written : Option (List ℕ)
  pub around : Environment

-- these clients were served. The server began with the keeper's rows and no statuses. Each client
-- had its connection, from the state that the one before left, and no more were served than
-- requested. If the keeper's rows are observable, they are those of the last state. No walk among
-- the requests skips a row
pub record Serves {L : Type 0} (view : L → LinkView) (service : PlainService) (before after : ServiceEnvironment L) (clients : List (Client L)) : Type 0 where
  pub config : Config
  pub config_is : IsConfigOf service config
  pub store : StoreState
  pub loaded : IfSome before.kept.observable (λ rows. store ≡ rows)
  pub sound : IsSoundState store
  pub named : IfSome before.kept.observable (λ _. after.kept.name ≡ Some (store_name service.store))
  pub last : State
  pub connections : HaveConnections view config (starting_with store) clients last
  pub kept : after.kept.observable ≡ option_map (λ _. last.library) before.kept.observable
  pub few : length clients ≤ service.connections
  pub pass : Pass (exchanges_of clients) before.around after.around
  pub walks : WalksSkipNoRow config (exchanges_of clients)
