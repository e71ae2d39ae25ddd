use Rattle.std.proofs.Common.{codes, option_map}
use Rattle.http_messages.specs.Lines.{line_end}
use Rattle.taxii_client.specs.Requests.{objects_path, query_of}
use Rattle.taxii_client.proofs.RequestLemmas.{pushed5}
use Rattle.taxii_client.proofs.request.push_request_line.Goals as goal

pub returns : goal.returns
returns c =
    pushed5 c.args.text.now (codes "GET ") (objects_path c.args.target.now) (query_of c.args.target.now.limit c.args.target.now.since (option_map (λ next. next.now) c.args.next)) (codes " HTTP/1.1") line_end _ _ _ _ _
    c.in_ok-push.ensures.ok c.in_ok-push_path.ensures c.in_ok-push_query.ensures c.in_ok-push-2.ensures.ok c.in_ok-push-3.ensures.ok
