use Rattle.std.proofs.Common.{arith, option_map}
use Rattle.taxii_client.specs.Environment.{link_view}
use Rattle.taxii_client.proofs.PullLemmas.{lost_page, page_came}
use Rattle.taxii_client.proofs.pull.Pull.next_page.Goals as goal

pub returns-in_err-envelope : goal.returns-in_err-envelope
returns-in_err-envelope g c =
    lost_page (link_view g.D.Link.Source.left g.D.Link.Sink.written g.D.Link.Source.faults g.D.Link.Sink.faults) c.args.self.now
    c.self.inside.target.now c.self.inside.cursor c.self.inside.pages (option_map (λ next. next.now) c.in-Some.next) _ _ c.in_err-envelope.field-0.0 c.from_residual.result
    c.self.view_is c.from_residual.ensures.1 (omega (arith, c.self.invariant.1, c.if-self-eq-MAX_PAGES.false)) c.in-Some.ensures c.in_err-envelope.ensures

pub returns : goal.returns
returns g c =
    page_came (link_view g.D.Link.Source.left g.D.Link.Sink.written g.D.Link.Source.faults g.D.Link.Sink.faults) c.args.self.now
    c.self.inside.target.now c.self.inside.cursor c.after.result c.self.inside.pages (option_map (λ next. next.now) c.in-Some.next) _ _ c.in_ok-envelope.envelope
    c.self.view_is (omega (arith, c.self.invariant.1, c.if-self-eq-MAX_PAGES.false)) c.in-Some.ensures c.in_ok-envelope.ensures c.after.ensures
