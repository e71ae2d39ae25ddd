use Rattle.std.proofs.Common.{List, inl, inr, subst}
use Rattle.flow_edges.specs.Flow.{WritesPrefix}
use Rattle.match_run.specs.Reading.{bundle_of}
use Rattle.hunt_feed.specs.declared.hunted.Skipped.{Skipped}
use Rattle.hunt_report.specs.Lines.{skipped_lines}
use Rattle.command_hunt.specs.Tasks.{hunt_task}
use Rattle.command_hunt.proofs.HuntLemmas.{ends-skipping}
use Rattle.command_hunt.proofs.run.hunt_from.Goals as goal

pub returns-in-Err-WriteFault-clause-end : goal.returns-in-Err-WriteFault-clause-end
returns-in-Err-WriteFault-clause-end g c before far begun same =
    let written = g.O.Sink.written c.args.output.now in
    let now = g.O.Sink.written c.write_skipped.new.output in
    inr (inl (ends-skipping c.answers_are_the_hits.ensures (hunt_task c.args.request.now) before (bundle_of c.args.first.now) c.in-Ok.hunt c.in-Ok.ensures.hunt
    (g.I.Source.left c.args.input.now) (g.I.Source.began c.args.input.now) written now begun same
    (subst (λ (s : List Skipped). WritesPrefix (skipped_lines s) written now) c.as_slice.ensures c.in-Err-WriteFault.ensures.err)))

pub returns-clause-end : goal.returns-clause-end
returns-clause-end g c before far begun same =
    let written = g.O.Sink.written c.args.output.now in
    let now = g.O.Sink.written c.write_skipped.new.output in
    inr (inr (inr (inl (ends-skipping c.answers_are_the_hits.ensures (hunt_task c.args.request.now) before (bundle_of c.args.first.now) c.in-Ok.hunt c.in-Ok.ensures.hunt
    (g.I.Source.left c.args.input.now) (g.I.Source.began c.args.input.now) written now begun same
    (subst (λ (s : List Skipped). WritesPrefix (skipped_lines s) written now) c.as_slice.ensures c.in-Err-NoMemory.ensures.err)))))
