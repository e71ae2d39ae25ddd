use Rattle.std.proofs.Common.{codes, decimal, option_map}
use Rattle.taxii_client.specs.Requests.{behind}
use Rattle.taxii_client.proofs.RequestLemmas.{pushed4, added}
use Rattle.taxii_client.proofs.request.push_query.Goals as goal

pub returns : goal.returns
returns c =
    pushed4 c.args.text.now (codes "?limit=") (decimal c.args.target.now.limit) (codes "&match%5Bversion%5D=all") (behind c.args.target.now.since (option_map (λ next. next.now) c.args.next)) _ _ _ _
    c.in_ok-push.ensures.ok (added _ _ _ _ c.in_ok-push-2.ensures.ok c.format.ensures.text) c.in_ok-push-3.ensures.ok c.in_ok-push_behind.ensures
