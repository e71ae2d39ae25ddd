use Rattle.std.proofs.Common.{All, None}
use Rattle.taxii_store.specs.Walk.{IsWalk}
use Rattle.taxii_service.specs.Exchanges.{IsExchange}
use Rattle.taxii_service.proofs.VisitLemmas.{Laws, reached, among_all, answers_are}
use Rattle.taxii_service.proofs.history_laws.walks_among_requests_skip_no_row.Goals as goal

pub returns : goal.returns
returns c config before after exchanges dated served wanted visited first others walk =
    let laws : Laws = record { paged = c.gets_are_paged.ensures; page = c.one_page.ensures.page; more = c.one_page.ensures.more } in
    let reaches = reached config wanted None exchanges visited before after first others served.each served.follow dated walk.among walk.visits in
    let its : IsWalk wanted first others = record { start = walk.start; goes = reaches.goes } in
    let each : All (IsExchange config) visited = among_all (IsExchange config) exchanges visited walk.among served.each in
    record {
      answers = answers_are laws config wanted None visited first others each walk.visits;
      once = c.walks_skip_no_row.ensures.once wanted first others its;
      asked = c.walks_skip_no_row.ensures.asked wanted first others its;
      whole = c.walks_skip_no_row.ensures.whole wanted first others its;
    }
