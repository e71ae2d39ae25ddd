use Rattle.std.proofs.Common.{option_map}
use Rattle.taxii_client.specs.Environment.{link_view}
use Rattle.taxii_client.proofs.PullLemmas.{fetched_over}
use Rattle.taxii_client.proofs.pull.dial_and_fetch.Goals as goal

pub returns : goal.returns
returns g c =
    fetched_over (link_view g.D.Link.Source.left g.D.Link.Sink.written g.D.Link.Source.faults g.D.Link.Sink.faults) c.args.target.now (option_map (λ next. next.now) c.args.next)
    (record { given = c.in_ok-link.link; finished = c.fetch-answer.new.link }) _ _ _ _ _ _ _ _
    c.in_ok-link.ensures.ok c.as_str.ensures (c.in_ok-link.ensures.causes.quiet (λ failed. absurd (cc failed))) c.fetch-answer.ensures c.finish.ensures.back c.finish.ensures.quiet
