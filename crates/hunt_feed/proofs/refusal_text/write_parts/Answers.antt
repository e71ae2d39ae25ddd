use Rattle.std.proofs.Common.{List, ℕ, subst, ◌∙◌}
use Rattle.flow_edges.specs.Flow.{WritesWhole}
use Rattle.hunt_feed.proofs.TextLemmas.{refused_pieces}
use Rattle.hunt_feed.proofs.refusal_text.write_parts.Goals as goal

pub returns-clause-text : goal.returns-clause-text
returns-clause-text g c =
    subst (λ (bytes : List ℕ). WritesWhole bytes (g.S.Sink.written c.args.sink.now) (g.S.Sink.written c.write_all_vectored.new.sink) c.write_all_vectored.result)
    (refused_pieces c.args.line.now c.args.name.now c.args.rule.now c.args.path.now _ _ _ _ _ c.as_bytes.ensures.value c.as_bytes-2.ensures.value
    c.as_bytes-3.ensures.value (c.as_bytes-4.ensures.value ∙ c.lead_of-at.ensures) c.as_bytes-5.ensures.value)
    c.write_all_vectored.ensures.text
