use Rattle.std.proofs.Common.{◌∙◌, ap, option_map, List, ℕ, ◌≡◌, ◌⊎◌, subst, IfOk, IfErr}
use Rattle.flow_edges.specs.Flow.{written_with}
use Rattle.stix_json.specs.Envelopes.{IsEnvelopeOf}
use Rattle.taxii_client.specs.declared.reply_refusal.ReplyRefusal.TheVariants.{NotEnvelope}
use Rattle.taxii_client.specs.declared.fetch_end.FetchEnd.TheVariants.{Refused, NoMemory}
use Rattle.taxii_client.specs.Environment.{link_view}
use Rattle.taxii_client.specs.Fetches.{Fetched, IsNoEnvelope}
use Rattle.taxii_client.proofs.FetchLemmas.{passed_on, nothing_done, sink_side, source_side, reply_judged}
use Rattle.taxii_client.proofs.fetching.fetch.Goals as goal

pub returns-in_err-text : goal.returns-in_err-text
returns-in_err-text g c =
    let view = link_view g.L.Source.left g.L.Sink.written g.L.Source.faults g.L.Sink.faults in
    passed_on (Fetched c.args.target.now (option_map (λ next. next.now) c.args.next) (view c.args.link.now) (view c.args.link.now)) _ _ c.from_residual.ensures.1
    (nothing_done _ _ _)

pub returns : goal.returns
returns g c =
    let view = link_view g.L.Source.left g.L.Sink.written g.L.Source.faults g.L.Sink.faults in
    let wrote = source_side (g.met.L.Link.unread c.args.link.now) (g.met.L.Link.unread c.write_whole.new.sink) c.in_ok-write_whole.ensures.unread in
    let read = sink_side (g.met.L.Link.unwritten c.write_whole.new.sink) (g.met.L.Link.unwritten c.read_reply.new.link) c.in_ok-body.ensures.unwritten in
    let text = c.as_bytes.ensures.value ∙ c.as_str.ensures ∙ c.in_ok-text.ensures in
    reply_judged c.all_are_needed.ensures.reply c.args.target.now (option_map (λ next. next.now) c.args.next) (view c.args.link.now) (view c.read_reply.new.link) _ _ _ wrote.0
    (read.0 ∙ c.in_ok-write_whole.ensures.text ∙ ap (λ (t : List ℕ). written_with t (g.L.Sink.written c.args.link.now)) text)
    c.in_ok-body.ensures.reads
    (record {
      reads = c.in_ok-body.ensures.causes.quiet (λ failed. absurd (cc failed)) ∙ wrote.1;
      writes = read.1 ∙ c.in_ok-write_whole.ensures.causes.quiet (λ failed. absurd (cc failed));
    })
    (subst (λ b. IfOk c.page_of.result (λ envelope. IsEnvelopeOf b envelope)) c.as_slice.ensures c.page_of.ensures.ok)
    (subst (λ b. IfErr c.page_of.result (λ end. (end ≡ NoMemory) ⊎ ((end ≡ Refused NotEnvelope) × IsNoEnvelope b))) c.as_slice.ensures c.page_of.ensures.err)
