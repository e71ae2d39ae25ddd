use Rattle.std.proofs.Common.{List, ℕ, codes, decimal, ◌++◌, OnErr, refl, sym, subst}
use Rattle.std.proofs.lemmas.Result.{on_err_weaker}
use Rattle.flow_edges.specs.Flow.{WritesWhole, WritesPart}
use Rattle.match_input.specs.declared.rule.InputRule.{InputRule}
use Rattle.match_input.specs.Texts.{IsRuleText, IsInputRefusalText, refused_line_text}
use Rattle.match_input.proofs.refusal_text.write_input_refusal.Goals as goal

pub returns-in-Embedded-clause-text : goal.returns-in-Embedded-clause-text
returns-in-Embedded-clause-text g c =
    let what = codes "EmbeddedObjects object " ++ decimal c.in-Embedded.object in
    (refused_line_text c.args.line what, (what, subst (λ (rule : InputRule). IsRuleText rule what) (sym c.in-Embedded.is) refl, refl), c.write_embedded.ensures.text)

pub returns-in-OutOfOrder-clause-text : goal.returns-in-OutOfOrder-clause-text
returns-in-OutOfOrder-clause-text g c =
    subst (λ (rule : InputRule). (text : List ℕ) × IsInputRefusalText c.args.line rule text
    × WritesWhole text (g.S.Sink.written c.args.sink.now) (g.S.Sink.written c.write_out_of_order.new.sink) c.write_out_of_order.result)
    (sym c.in-OutOfOrder.is) c.write_out_of_order.ensures.text

pub returns-in-Embedded-clause-part : goal.returns-in-Embedded-clause-part
returns-in-Embedded-clause-part g c =
    let what = codes "EmbeddedObjects object " ++ decimal c.in-Embedded.object in
    on_err_weaker c.write_embedded.result
    (λ part. (refused_line_text c.args.line what, (what, subst (λ (rule : InputRule). IsRuleText rule what) (sym c.in-Embedded.is) refl, refl), part))
    c.write_embedded.ensures.part

pub returns-in-OutOfOrder-clause-part : goal.returns-in-OutOfOrder-clause-part
returns-in-OutOfOrder-clause-part g c =
    subst (λ (rule : InputRule). OnErr c.write_out_of_order.result ((text : List ℕ) × IsInputRefusalText c.args.line rule text
    × WritesPart text (g.S.Sink.written c.args.sink.now) (g.S.Sink.written c.write_out_of_order.new.sink)))
    (sym c.in-OutOfOrder.is) c.write_out_of_order.ensures.part
