-- The state that a server begins with.
use Rattle.taxii_rows.specs.StoreState.{StoreState}
use Rattle.taxii_exchange.specs.Statuses.{no_statuses}
use Rattle.taxii_service.specs.declared.state.State.{State}

-- these rows, and no status yet
abbrev pub starting_with : StoreState → State
starting_with store = record { library = store; statuses = no_statuses }
