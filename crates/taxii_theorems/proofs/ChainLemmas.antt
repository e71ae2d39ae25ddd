-- The rounds of all runs stand in a chain: each finds a store that additions and deletions made of the one that the round before found.
use Rattle.std.proofs.Common.{◌≡◌, inl, inr, ◌≤◌, List, [], ◌∷◌, ◌++◌, All, map, refl, sym, ap, subst}
use Rattle.std.specs.Prelude.{⊤}
use Rattle.std.proofs.lemmas.List.Elements.{All-nil, All-cons, All-head, All-tail}
use Rattle.taxii_rows.specs.declared.stored_row.TheConstants.{LAST_DATE}
use Rattle.taxii_rows.specs.StoreState.{StoreState}
use Rattle.taxii_exchange.specs.declared.config.Config.{Config}
use Rattle.taxii_service.specs.declared.state.State.{State}
use Rattle.taxii_store.specs.History.{IsDated, Becomes, IsHistory}
use Rattle.taxii_service.specs.Exchanges.{Exchange, IsExchange, Follow, HasServed}
use Rattle.taxii_theorems.specs.Runs.{Run, Continue, Round, rounds_of}
use Rattle.taxii_theorems.specs.Following.{AreAmongRounds}
use Rattle.taxii_theorems.proofs.WatermarkLemmas.{stays_within}

-- the laws of histories
pub record Histories : Type 0 where
  pub history : (config : Config) (before after : State) (exchanges : List Exchange) → HasServed config before exchanges after → IsHistory before.library after.library
  pub dated : (config : Config) (before after : State) (exchanges : List Exchange) → HasServed config before exchanges after → IsDated before.library → IsDated after.library

-- ---- histories

no_history : (store after : StoreState) → after ≡ store → IsHistory store after
no_history store after same = ([], same)

becomes_both : (first : StoreState) (states : List StoreState) (second : StoreState) (more : List StoreState) (third : StoreState)
    → Becomes first states second → Becomes second more third → Becomes first (states ++ more) third
becomes_both first [] second more third same rest = subst (λ (state : StoreState). Becomes state more third) same rest
becomes_both first (next ∷ states) second more third (step, steps) rest = (step, becomes_both next states second more third steps rest)

history_both : (first second third : StoreState) → IsHistory first second → IsHistory second third → IsHistory first third
history_both first second third (states, becomes) (more, goes) = (states ++ more, becomes_both first states second more third becomes goes)

-- ---- chains

-- a store in good order
pub record IsOrdered (store : StoreState) : Type 0 where
  pub dated : IsDated store
  pub within : store.watermark ≤ LAST_DATE

-- a round that went as its course says, from a store in good order
pub record IsReady (round : Round) : Type 0 where
  pub goes : IsExchange round.config round.exchange
  pub ordered : IsOrdered round.exchange.before.library

abbrev pub found : Round → StoreState
found round = round.exchange.before.library

abbrev pub Chain : StoreState → List Round → Type 0
Chain store [] = ⊤
Chain store (round ∷ rounds) = IsHistory store (found round) × IsReady round × Chain (found round) rounds

-- a chain from a later store is one from an earlier one
chain_before : (store later : StoreState) (rounds : List Round) → IsHistory store later → Chain later rounds → Chain store rounds
chain_before store later [] between chain = tt
chain_before store later (round ∷ rounds) between (first, ready, rest) = (history_both store later (found round) between first, ready, rest)

-- some of the rounds of a chain are one
pub among_chain : (store : StoreState) (some rounds : List Round) → AreAmongRounds some rounds → Chain store rounds → Chain store some
among_chain store [] rounds among chain = tt
among_chain store (round ∷ some) [] among chain = absurd among
among_chain store (round ∷ some) (first ∷ rounds) (inl (same, among)) (history, ready, chain) =
    let rest : Chain (found first) some = among_chain (found first) some rounds among chain in (
      subst (λ (r : Round). IsHistory store (found r)) (sym same) history,
      subst IsReady (sym same) ready,
      subst (λ (r : Round). Chain (found r) some) (sym same) rest,
    )
among_chain store (round ∷ some) (first ∷ rounds) (inr among) (history, ready, chain) =
    chain_before store (found first) (round ∷ some) history (among_chain (found first) (round ∷ some) rounds among chain)

-- ---- one run

one_served : (config : Config) (e : Exchange) → IsExchange config e → HasServed config e.before (e ∷ []) e.after
one_served config e goes = record { each = All-cons (IsExchange config) e [] goes (All-nil (IsExchange config)); follow = (refl, refl) }

after_exchange : Histories → (config : Config) (e : Exchange) → IsExchange config e → IsOrdered e.before.library → IsOrdered e.after.library
after_exchange laws config e goes ordered = record {
  dated = laws.dated config e.before e.after (e ∷ []) (one_served config e goes) ordered.dated;
  within = stays_within config e goes ordered.within;
}

abbrev round_of : Config → Exchange → Round
round_of config e = record { config = config; exchange = e }

-- the exchanges of a run, and then the rounds of the runs after it
run_chain : Histories → (config : Config) (before after : State) (exchanges : List Exchange) (rest : List Round)
    → All (IsExchange config) exchanges → Follow before exchanges after → IsOrdered before.library → (IsOrdered after.library → Chain after.library rest)
    → Chain before.library (map (round_of config) exchanges ++ rest)
run_chain laws config before after [] rest each same ordered behind =
    let library : after.library ≡ before.library = ap (λ (state : State). state.library) same in
    subst (λ (store : StoreState). Chain store rest) library (behind (subst IsOrdered (sym library) ordered))
run_chain laws config before after (e ∷ exchanges) rest each (begins, follow) ordered behind =
    let library : e.before.library ≡ before.library = ap (λ (state : State). state.library) begins in
    let goes : IsExchange config e = All-head (IsExchange config) e exchanges each in
    let here : IsOrdered e.before.library = subst IsOrdered (sym library) ordered in
    let chain : Chain e.after.library (map (round_of config) exchanges ++ rest) =
    run_chain laws config e.after after exchanges rest (All-tail (IsExchange config) e exchanges each) follow (after_exchange laws config e goes here) behind in (
      no_history before.library e.before.library library,
      record { goes = goes; ordered = here },
      chain_before e.before.library e.after.library (map (round_of config) exchanges ++ rest)
          (laws.history config e.before e.after (e ∷ []) (one_served config e goes)) chain,
    )

-- ---- all runs

pub rounds_chain : Histories → (store after : StoreState) (runs : List Run) → IsOrdered store → Continue store runs after → Chain store (rounds_of runs)
rounds_chain laws store after [] ordered same = tt
rounds_chain laws store after (run ∷ runs) ordered (its, proceed) =
    subst (λ (from : StoreState). Chain from (rounds_of (run ∷ runs))) its.begins
    (run_chain laws run.config run.before run.after run.exchanges (rounds_of runs) its.served.each its.served.follow
    (subst IsOrdered (sym its.begins) ordered) (λ behind. rounds_chain laws run.after.library after runs behind proceed))

pub runs_history : Histories → (store after : StoreState) (runs : List Run) → Continue store runs after → IsHistory store after
runs_history laws store after [] same = no_history store after same
runs_history laws store after (run ∷ runs) (its, proceed) =
    subst (λ (from : StoreState). IsHistory from after) its.begins
    (history_both run.before.library run.after.library after (laws.history run.config run.before run.after run.exchanges its.served)
    (runs_history laws run.after.library after runs proceed))
