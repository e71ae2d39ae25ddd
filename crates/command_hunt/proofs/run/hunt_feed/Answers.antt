use Rattle.std.proofs.Common.{◌≡◌, List, All, inl, inr, refl, sym, subst}
use Rattle.flow_edges.specs.Flow.{WritesPrefix, written_with}
use Rattle.flow_edges.specs.Streams.{streams}
use Rattle.stix_ids.specs.Kind.{IsKind}
use Rattle.hunt_feed.specs.declared.hunted.Skipped.{Skipped}
use Rattle.hunt_report.specs.Lines.{skipped_lines}
use Rattle.hunt_report.specs.Hunting.{IsHuntable}
use Rattle.command_hunt.specs.Tasks.{hunt_task}
use Rattle.command_hunt.proofs.HuntLemmas.{ends-unread}
use Rattle.command_hunt.proofs.run.hunt_feed.Goals as goal

pub write_skipped-requires : goal.write_skipped-requires
write_skipped-requires g c =
    subst (All (λ (s : Skipped). IsKind s.id.kind)) (sym c.as_slice.ensures) (c.in-Ok.ensures.skipped c.requires.fed.0 c.requires.fed.1 c.requires.fed.2)

pub hunt_log-requires-clause-huntable : goal.hunt_log-requires-clause-huntable
hunt_log-requires-clause-huntable g c =
    subst (All IsHuntable) (sym c.as_slice-hunted.ensures) (c.in-Ok.ensures.hunted c.requires.fed.0 c.requires.fed.1 c.requires.fed.2)

pub returns-in-Err-WriteFault-clause-end : goal.returns-in-Err-WriteFault-clause-end
returns-in-Err-WriteFault-clause-end g c feed gathers =
    let written = g.O.Sink.written c.args.output.now in
    let now = g.O.Sink.written c.write_skipped.new.output in
    inl (ends-unread c.answers_are_the_hits.ensures (hunt_task c.args.request.now) _ feed c.in-Ok.hunt (c.in-Ok.ensures.hunt feed gathers) _ _ now
    (record { left_is = refl; began_is = refl })
    (subst (λ (s : List Skipped). WritesPrefix (skipped_lines s) written now) c.as_slice.ensures c.in-Err-WriteFault.ensures.err))

pub returns-clause-end : goal.returns-clause-end
returns-clause-end g c feed gathers =
    let written = g.O.Sink.written c.args.output.now in
    let now = g.O.Sink.written c.write_skipped.new.output in
    inr (inl (ends-unread c.answers_are_the_hits.ensures (hunt_task c.args.request.now) _ feed c.in-Ok.hunt (c.in-Ok.ensures.hunt feed gathers) _ _ now
    (record { left_is = refl; began_is = refl })
    (subst (λ (s : List Skipped). WritesPrefix (skipped_lines s) written now) c.as_slice.ensures c.in-Err-NoMemory.ensures.err)))

pub returns-in-Ok-write_skipped-clause-end : goal.returns-in-Ok-write_skipped-clause-end
returns-in-Ok-write_skipped-clause-end g c feed gathers =
    let written = g.O.Sink.written c.args.output.now in
    let now = g.O.Sink.written c.write_skipped.new.output in
    c.hunt_log.ensures.end (streams (g.I.Source.left c.args.input.now) (g.I.Source.began c.args.input.now) written) feed
    (record { left_is = refl; began_is = refl })
    (record {
      hunt = c.in-Ok.hunt;
      hunt_is = c.in-Ok.ensures.hunt feed gathers;
      hunted_is = c.as_slice-hunted.ensures;
      written_is = subst (λ (s : List Skipped). now ≡ written_with (skipped_lines s) written) c.as_slice.ensures c.in-Ok-write_skipped.ensures.ok;
    })
