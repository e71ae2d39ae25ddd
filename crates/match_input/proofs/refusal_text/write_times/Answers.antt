use Rattle.std.proofs.Common.{List, ℕ, codes, ◌++◌, OnErr, ap, subst, ◌∙◌}
use Rattle.flow_edges.specs.Flow.{WritesWhole, WritesPart}
use Rattle.match_input.proofs.InputRefusalTextLemmas.{times_line}
use Rattle.match_input.proofs.refusal_text.write_times.Goals as goal

pub returns-clause-text : goal.returns-clause-text
returns-clause-text g c =
    let tail = codes " refused: OutOfOrder last " ++ (c.args.last.now ++ (codes " now " ++ (c.args.now.now ++ codes "\n"))) in
    let same = ap (λ (l : List ℕ). codes "line " ++ (l ++ tail)) c.as_bytes.ensures.value ∙ times_line c.args.line.now c.args.last.now c.args.now.now in
    subst (λ (bytes : List ℕ). WritesWhole bytes (g.S.Sink.written c.args.sink.now) (g.S.Sink.written c.write_all_vectored.new.sink) c.write_all_vectored.result)
    same c.write_all_vectored.ensures.text

pub returns-clause-part : goal.returns-clause-part
returns-clause-part g c =
    let tail = codes " refused: OutOfOrder last " ++ (c.args.last.now ++ (codes " now " ++ (c.args.now.now ++ codes "\n"))) in
    let same = ap (λ (l : List ℕ). codes "line " ++ (l ++ tail)) c.as_bytes.ensures.value ∙ times_line c.args.line.now c.args.last.now c.args.now.now in
    subst (λ (bytes : List ℕ). OnErr c.write_all_vectored.result (WritesPart bytes (g.S.Sink.written c.args.sink.now) (g.S.Sink.written c.write_all_vectored.new.sink)))
    same c.write_all_vectored.ensures.part
