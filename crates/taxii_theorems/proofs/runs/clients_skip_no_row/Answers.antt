use Rattle.std.proofs.Common.{◌∷◌, None, refl}
use Rattle.taxii_store.specs.Walk.{IsWalk}
use Rattle.taxii_theorems.specs.Runs.{rounds_of}
use Rattle.taxii_theorems.proofs.ChainLemmas.{Histories, among_chain, rounds_chain}
use Rattle.taxii_theorems.proofs.WalkLemmas.{walked}
use Rattle.taxii_theorems.proofs.runs.clients_skip_no_row.Goals as goal

pub returns : goal.returns
returns c store after runs wanted first others dated within proceed followed =
    let histories : Histories = record { history = c.requests_make_history.ensures.history; dated = c.requests_make_history.ensures.dated } in
    let chain = among_chain store (first ∷ others) (rounds_of runs) followed.among
    (rounds_chain histories store after runs (record { dated = dated; within = within }) proceed) in
    let walk = walked c.gets_are_paged.ensures c.nexts_read_back.ensures wanted None None store first others refl chain followed.fetches in
    let its : IsWalk wanted walk.first walk.others = record { start = followed.start; goes = walk.goes } in
    record {
      first = walk.first;
      others = walk.others;
      walk = its;
      answers = walk.answers;
      states = walk.states;
      once = c.walks_skip_no_row.ensures.once wanted walk.first walk.others its;
      asked = c.walks_skip_no_row.ensures.asked wanted walk.first walk.others its;
      whole = c.walks_skip_no_row.ensures.whole wanted walk.first walk.others its;
    }
