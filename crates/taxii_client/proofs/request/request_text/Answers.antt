use Rattle.std.proofs.Common.{codes, option_map, List, ℕ, ◌++◌, ◌∙◌, ap, []}
use Rattle.http_messages.specs.Lines.{field_line, line_end}
use Rattle.taxii_client.specs.Requests.{request_of, request_line, host_of}
use Rattle.taxii_client.proofs.RequestLemmas.{pushed5}
use Rattle.taxii_client.proofs.request.request_text.Goals as goal

pub returns : goal.returns
unfolding request_of
returns c =
    pushed5 [] (request_line c.args.target.now (option_map (λ next. next.now) c.args.next)) (field_line (codes "Host") (host_of c.args.target.now))
    (field_line (codes "Accept") (codes "application/taxii+json;version=2.1")) (field_line (codes "Connection") (codes "close")) line_end _ _ _ _ _
    (c.in_ok-push_request_line.ensures ∙ ap (λ (t : List ℕ). t ++ request_line c.args.target.now (option_map (λ next. next.now) c.args.next)) c.new-text.ensures)
    c.in_ok-push_host.ensures c.in_ok-push_field.ensures c.in_ok-push_field-2.ensures c.in_ok-push.ensures.ok
