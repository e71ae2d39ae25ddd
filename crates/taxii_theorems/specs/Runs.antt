-- Runs of a server over one store: a server ends, and another starts from what it left, perhaps
-- with another configuration.
use Rattle.std.specs.Prelude.{◌≡◌, List, [], ◌∷◌, ◌++◌, map}
use Rattle.taxii_rows.specs.StoreState.{StoreState}
use Rattle.taxii_exchange.specs.declared.config.Config.{Config}
use Rattle.taxii_service.specs.declared.state.State.{State}
use Rattle.taxii_service.specs.Exchanges.{Exchange, HasServed}

-- what a server was started with, what it served, and what it had before and after it
pub record Run : Type 0 where
  pub config : Config
  pub before : State
  pub exchanges : List Exchange
  pub after : State

-- the run served its requests from this store, whatever statuses it began with
pub record IsRunFrom (store : StoreState) (run : Run) : Type 0 where
  pub begins : run.before.library ≡ store
  pub served : HasServed run.config run.before run.exchanges run.after

-- each run begins with the store that the one before it left
abbrev pub Continue : StoreState → List Run → StoreState → Type 0
Continue store [] after = after ≡ store
Continue store (run ∷ runs) after = IsRunFrom store run × Continue run.after.library runs after

-- an exchange, with the configuration of its run
pub record Round : Type 0 where
  pub config : Config
  pub exchange : Exchange

-- the exchanges of all runs, in order
abbrev pub rounds_of : List Run → List Round
rounds_of [] = []
rounds_of (run ∷ runs) = map (λ e. record { config = run.config; exchange = e }) run.exchanges ++ rounds_of runs
