use Rattle.taxii_theorems.proofs.UnderstoodLemmas.{Laws, understood}
use Rattle.taxii_theorems.proofs.agreement.requests_are_understood.Goals as goal

pub returns : goal.returns
returns c =
    let laws : Laws = record {
      path = c.one_target.ensures.path;
      text = c.one_target.ensures.query;
      route = c.one_route.ensures;
      uuid = c.one_uuid.ensures;
      done = c.answered_requests_were_done.ensures;
    } in
    understood laws
