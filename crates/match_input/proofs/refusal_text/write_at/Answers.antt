use Rattle.std.proofs.Common.{List, ℕ, OnErr, subst}
use Rattle.flow_edges.specs.Flow.{WritesWhole, WritesPart}
use Rattle.match_input.proofs.InputRefusalTextLemmas.{at_line}
use Rattle.match_input.proofs.refusal_text.write_at.Goals as goal

pub returns-clause-text : goal.returns-clause-text
returns-clause-text g c =
    let same = at_line c.args.line.now c.args.name.now c.args.path.now c.as_bytes.result.now c.as_bytes-2.result.now c.lead_of-at.result.now c.as_bytes-3.result.now c.as_bytes-4.result.now
    c.as_bytes.ensures.value c.as_bytes-2.ensures.value c.lead_of-at.ensures c.as_bytes-3.ensures.value c.as_bytes-4.ensures.value in
    subst (λ (bytes : List ℕ). WritesWhole bytes (g.S.Sink.written c.args.sink.now) (g.S.Sink.written c.write_all_vectored.new.sink) c.write_all_vectored.result)
    same c.write_all_vectored.ensures.text

pub returns-clause-part : goal.returns-clause-part
returns-clause-part g c =
    let same = at_line c.args.line.now c.args.name.now c.args.path.now c.as_bytes.result.now c.as_bytes-2.result.now c.lead_of-at.result.now c.as_bytes-3.result.now c.as_bytes-4.result.now
    c.as_bytes.ensures.value c.as_bytes-2.ensures.value c.lead_of-at.ensures c.as_bytes-3.ensures.value c.as_bytes-4.ensures.value in
    subst (λ (bytes : List ℕ). OnErr c.write_all_vectored.result (WritesPart bytes (g.S.Sink.written c.args.sink.now) (g.S.Sink.written c.write_all_vectored.new.sink)))
    same c.write_all_vectored.ensures.part
