use Rattle.taxii_theorems.specs.Runs.{rounds_of}
use Rattle.taxii_theorems.specs.Asking.{wanted_after}
use Rattle.taxii_theorems.proofs.PullLemmas.{Laws, all_go, whole_pull}
use Rattle.taxii_theorems.proofs.agreement.pulls_skip_no_row.Goals as goal

pub returns : goal.returns
returns g c view target instant pages store after runs rounds dated within proceed pull served timed =
    let laws : Laws = record {
      understood = c.requests_are_understood.ensures;
      replies = c.answers_are_replies.ensures;
      read_back = c.pages_are_read_back.ensures;
      sound = c.rows_of_pages.ensures.sound;
      paged = c.gets_are_paged.ensures;
      instant = c.one_instant.ensures;
    } in
    whole_pull _ view target instant timed laws pages (rounds_of runs) rounds
    (λ first others followed. c.clients_skip_no_row.ensures store after runs (wanted_after target instant) first others dated within proceed followed)
    (all_go store after runs proceed) pull served
