-- Exchanges in turn make a history of the store.
use Rattle.std.proofs.Common.{◌≡◌, List, [], ◌∷◌, All, ap, subst}
use Rattle.std.proofs.lemmas.List.Elements.{All-head, All-tail}
use Rattle.taxii_exchange.specs.declared.config.Config.{Config}
use Rattle.taxii_service.specs.declared.state.State.{State}
use Rattle.taxii_store.specs.History.{IsHistory}
use Rattle.taxii_service.specs.Exchanges.{Exchange, IsExchange, Follow}
use Rattle.taxii_service.proofs.DatedLemmas.{no_history, history_both}
use Rattle.taxii_service.proofs.StepLemmas.{exchanged}

-- from what was there before the first exchange
pub first_history : (config : Config) (before : State) (e : Exchange) → e.before ≡ before → IsExchange config e → IsHistory before.library e.after.library
first_history config before e begins its = subst (λ (state : State). IsHistory state.library e.after.library) begins (exchanged config e its)

pub served_history : (config : Config) (before : State) (exchanges : List Exchange) (after : State)
    → All (IsExchange config) exchanges → Follow before exchanges after → IsHistory before.library after.library
served_history config before [] after each same = no_history before.library after.library (ap (λ (state : State). state.library) same)
served_history config before (e ∷ exchanges) after each (begins, follow) = history_both before.library e.after.library after.library
    (first_history config before e begins (All-head (IsExchange config) e exchanges each))
    (served_history config e.after exchanges after (All-tail (IsExchange config) e exchanges each) follow)
