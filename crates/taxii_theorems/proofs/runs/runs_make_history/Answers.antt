use Rattle.taxii_theorems.proofs.ChainLemmas.{Histories, runs_history}
use Rattle.taxii_theorems.proofs.runs.runs_make_history.Goals as goal

pub returns : goal.returns
returns c store after runs proceed =
    let laws : Histories = record { history = c.requests_make_history.ensures.history; dated = c.requests_make_history.ensures.dated } in
    runs_history laws store after runs proceed
