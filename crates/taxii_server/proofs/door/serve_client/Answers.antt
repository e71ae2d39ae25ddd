use Rattle.std.proofs.Common.{refl, ◌∙◌}
use Rattle.taxii_server.proofs.door.serve_client.Goals as goal

pub returns-clause-serves : goal.returns-clause-serves
returns-clause-serves g c =
    let serves = c.serve_link-end.ensures.serves in
    record {
      client = record { given = c.args.link; finished = c.serve_link-end.new.link; exchanges = serves.0; end = c.serve_link-end.result };
      given = refl;
      connection = serves.1;
      passes = serves.2;
      back = c.finish.ensures.back;
      count = c.requests.ensures ∙ serves.1.count;
    }
