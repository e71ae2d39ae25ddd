use Rattle.taxii_service.proofs.HistoryAnswerLemmas.{Laws, paged}
use Rattle.taxii_service.proofs.history_laws.gets_are_paged.Goals as goal

pub returns : goal.returns
returns c =
    let laws : Laws = record {
      path = c.one_target.ensures.path;
      text = c.one_target.ensures.query;
      route = c.one_route.ensures;
      query = c.one_query.ensures;
      identifier = c.one_identifier.ensures;
    } in
    paged laws
